-- How the rules of a call's strings views combine: this project's rule.
use Rattle.std.specs.Prelude.{◌≡◌, ℕ, Bool, true, false, ◌&&◌, not, List, map, position, slice_index_or, Option, Some, None, Result, Ok, Err, IsOk}
use Rattle.std.specs.Str.{bytes_eq}
use Rattle.sa_descr.specs.declared.descr.NaRule.{NaRule}
use Rattle.sa_descr.specs.declared.descr.NaRule.TheVariants.{Absent, Nan, Other, Txt}
use Rattle.sa_descr.specs.declared.descr.Descr.{Descr}
use Rattle.sa_descr.specs.declared.combination.CombineError.{CombineError}
use Rattle.sa_descr.specs.declared.combination.CombineError.TheVariants as errors

-- the rule is not Absent
abbrev pub is_given : NaRule → Bool
is_given Absent = false
is_given Nan = true
is_given Other = true
is_given (Txt text) = true

abbrev pub is_text_rule : List ℕ → NaRule → Bool
is_text_rule text Absent = false
is_text_rule text Nan = false
is_text_rule text Other = false
is_text_rule text (Txt other) = bytes_eq text other

abbrev pub is_nan : NaRule → Bool
is_nan Absent = false
is_nan Nan = true
is_nan Other = false
is_nan (Txt text) = false

abbrev pub is_other : NaRule → Bool
is_other Absent = false
is_other Nan = false
is_other Other = true
is_other (Txt text) = false

-- two rules are the same; two text rules are where their texts are
abbrev pub same_rule : NaRule → NaRule → Bool
same_rule Absent rule = not (is_given rule)
same_rule Nan rule = is_nan rule
same_rule Other rule = is_other rule
same_rule (Txt text) rule = is_text_rule text rule

-- the other rule is given and differs from this one
abbrev pub clashes : NaRule → NaRule → Bool
clashes rule other = is_given other && not (same_rule other rule)

-- the rule at a place, Absent where there is none
abbrev pub rule_at : List NaRule → ℕ → NaRule
rule_at rules k = slice_index_or rules k Absent

-- the rules of the descriptors with these numbers
abbrev pub rules_of : List Descr → List ℕ → List NaRule
rules_of table numbers = map (λ n. rule_at (map (λ d. d.na) table) n) numbers

-- the rule at this place, or this place and the first whose rule clashes with it
abbrev pub chosen_or : NaRule → ℕ → Option ℕ → Result NaRule (ℕ × ℕ)
chosen_or rule first None = Ok rule
chosen_or rule first (Some second) = Err (first, second)

abbrev pub chosen_at : List NaRule → Option ℕ → Result NaRule (ℕ × ℕ)
chosen_at rules None = Ok Absent
chosen_at rules (Some first) = chosen_or (rule_at rules first) first (position (clashes (rule_at rules first)) rules)

-- The first rule that is given, or Absent. Two that are given and differ clash: the first that is given, and the first that differs from it, which stands behind it.
abbrev pub combination : List NaRule → Result NaRule (ℕ × ℕ)
combination rules = chosen_at rules (position is_given rules)

-- want of memory comes in place of a rule alone, and a clash names its two places
abbrev pub Fails : CombineError → Result NaRule (ℕ × ℕ) → Type 0
Fails errors.Memory defined = IsOk defined
Fails (errors.Clash first second) defined = defined ≡ Err (first, second)

abbrev pub Gives : Result NaRule CombineError → Result NaRule (ℕ × ℕ) → Type 0
Gives (Ok rule) defined = defined ≡ Ok rule
Gives (Err error) defined = Fails error defined
