-- The pass of a task. Source: this project.
use Rattle.std.specs.Prelude.{ℕ, Bool, true, false, List, slice_set}
use Rattle.sa_journal.specs.declared.party.Party.{Party}
use Rattle.sa_journal.specs.declared.party.Party.TheVariants.{Descr, Task}
use Rattle.sa_journal.specs.Chains.{Keyed, Strand, with_line}

-- a pass, but for room: its task, the task's chain, and a mark for each call of the task
pub record Passed (D : Type 0) : Type 0 where
  pub task : ℕ
  pub chain : Strand D
  pub marks : List Bool

-- a pass, and how many lines its chain takes without memory
pub record PassValue (D : Type 0) : Type 0 where
  pub it : Passed D
  pub room : ℕ

-- the number of a task, and whether a party is one
abbrev pub task_in : Party → ℕ
task_in (Descr d) = 0
task_in (Task t) = t

abbrev pub is_task : Party → Bool
is_task (Descr d) = false
is_task (Task t) = true

-- a pass with the mark of a call
abbrev pub with_mark : {D : Type 0} → Passed D → ℕ → Passed D
with_mark p call = record { task = p.task; chain = p.chain; marks = slice_set p.marks call true }

-- a pass with one more line
abbrev pub pass_with : {D : Type 0} → Passed D → Keyed D → Passed D
pass_with p line = record { task = p.task; chain = with_line p.chain line; marks = p.marks }
