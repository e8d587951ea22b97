-- What a run in threads gathered, member by member.
use Rattle.std.specs.Prelude.{ℕ, Bool, List, [], map, slice_index_or}
use Rattle.sa_hall.specs.Contents.{Contents}
use Rattle.sa_hall.specs.Domains.{Kept}
use Rattle.sa_hall.specs.Holds.{contents_at}
use Rattle.sa_hall.specs.Passes.{PassValue}
use Rattle.std.specs.declared.option.Option.{Option}
use Rattle.sa_loop.specs.declared.act.Act.{Act}
use Rattle.sa_loop.specs.OneHistory.{flag_at}

-- the flags of a task, by the passes
abbrev pub flags_of : List (PassValue Act) → ℕ → List Bool
flags_of passes t = slice_index_or (map (λ (p : PassValue Act). p.it.marks) passes) t []

-- whether a call of a task is marked
abbrev pub marks_of : List (PassValue Act) → ℕ → ℕ → Bool
marks_of passes t k = flag_at (flags_of passes t) k

-- what a descriptor holds, by its number
abbrev pub holds_of : List (Option (Kept Act)) → ℕ → Contents
holds_of its d = contents_at its d
