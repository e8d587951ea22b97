-- What a worker asks of the pass of a task, and what it makes of it.
use Rattle.std.specs.Prelude.{◌≡◌, ◌<◌, ℕ, ◌+◌, List, [], ◌∷◌, length, slice_index_or}
use Rattle.sa_tie.specs.Seated.{TableId}
use Rattle.sa_call.specs.declared.call.Call.{Call}
use Rattle.sa_journal.specs.Journals.{IsOf}
use Rattle.sa_journal.specs.Table.{Shelves}
use Rattle.sa_hall.specs.Passes.{Passed}
use Rattle.sa_loop.specs.declared.act.Act.{Act}
use Rattle.sa_loop.specs.OneHistory.{IsAt, IsDoneTo}
use Rattle.sa_script.specs.Scripts.{ScriptValue}

-- the calls of a task, by its number
abbrev pub calls_at : List (List Call) → ℕ → List Call
calls_at tasks t = slice_index_or tasks t []

-- a pass of a task of the script, before its first call
pub record IsReady (roll : Shelves) (ties : List TableId) (script : ScriptValue) (p : Passed Act) : Type 0 where
  pub task : p.task < length script.tasks
  pub at : IsAt script.decls (calls_at script.tasks p.task) 0 p
  pub of : IsOf roll ties (length script.decls.descrs) p.chain

-- it after the last: its lines are the calls that are not marked, in order
pub record IsDone (roll : Shelves) (ties : List TableId) (script : ScriptValue) (p q : Passed Act) : Type 0 where
  pub task : q.task ≡ p.task
  pub done : IsDoneTo script.decls (calls_at script.tasks p.task) (length (calls_at script.tasks p.task)) q.marks q.chain.lines
  pub of : IsOf roll ties (length script.decls.descrs) q.chain

-- the passes of the tasks from a number on, each after its last call
abbrev pub AreDone : Shelves → List TableId → ScriptValue → ℕ → List (List Call) → List (Passed Act) → Type 0
AreDone roll ties script t [] [] = Unit {0}
AreDone roll ties script t [] (p ∷ ps) = ⊥
AreDone roll ties script t (calls ∷ others) [] = ⊥
AreDone roll ties script t (calls ∷ others) (p ∷ ps) =
    (p.task ≡ t) × IsDoneTo script.decls calls (length calls) p.marks p.chain.lines × IsOf roll ties (length script.decls.descrs) p.chain × AreDone roll ties script (t + 1) others ps
