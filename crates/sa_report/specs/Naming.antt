-- The history and the marks that a report's bytes name, read back from them.
use Rattle.std.specs.Prelude.{◌≡◌, ℕ, ◌^◌, ◌<◌, ◌==◌, Bool, List, [], ◌∷◌, map, drop, slice_index_or, Option, Some, None, if◌then◌else◌}
use Rattle.std.specs.List.{AllByRecursion}
use Rattle.sa_base.specs.declared.stats.Stats.{Stats}
use Rattle.sa_lines.specs.Lines.{lines_of}
use Rattle.sa_lines.specs.Numbers.{strict_number_of, strict_number_at}
use Rattle.sa_lines.specs.Options.{◌>>=◌}
use Rattle.sa_lines.specs.Tokens.{tokens_of}
use Rattle.sa_plain.specs.declared.items.Items.{Items}
use Rattle.sa_call.specs.declared.reply.Reply.{Reply}
use Rattle.sa_script.specs.Scripts.{ScriptValue}
use Rattle.sa_report.specs.Reports.{report_of, marks_in}

-- what follows a colon at the front
abbrev pub behind_colon : List ℕ → Option (List ℕ)
behind_colon [] = None
behind_colon (b ∷ bs) = if b == 58 then Some bs else None

-- a number, a colon and a number, each in its strict spelling
abbrev pub pair_of : List ℕ → Option (ℕ × ℕ)
pair_of bytes = strict_number_at bytes >>= λ first. behind_colon first.1 >>= λ rest. strict_number_of rest >>= λ second. Some (first.0, second)

-- the pairs that a line names behind its first word, none in place of a token that is no pair
abbrev pub pairs_of : List ℕ → List (Option (ℕ × ℕ))
pairs_of bytes = map pair_of (drop 1 (tokens_of bytes))

-- the pairs of a report's second line, and of its third
abbrev pub history_named : List ℕ → List (Option (ℕ × ℕ))
history_named report = pairs_of (slice_index_or (lines_of report) 1 [])

abbrev pub marks_named : List ℕ → List (Option (ℕ × ℕ))
marks_named report = pairs_of (slice_index_or (lines_of report) 2 [])

-- two numbers of 64 bits: of a number with more than 64 digits, `decimal` writes the last 64 alone
abbrev pub IsShort : ℕ × ℕ → Type 0
IsShort p = (p.0 < 2 ^ 64) × (p.1 < 2 ^ 64)

-- a report names its history and its marks
abbrev pub NamesItsHistory : Type 0
NamesItsHistory = (script : ScriptValue) (history : List (ℕ × ℕ)) (marks : ℕ → ℕ → Bool) (replies : List Reply) (contents : List Items) (stats : List Stats)
    → AllByRecursion IsShort history → AllByRecursion IsShort (marks_in script marks)
    → (history_named (report_of script history marks replies contents stats) ≡ map Some history) × (marks_named (report_of script history marks replies contents stats) ≡ map Some (marks_in script marks))
