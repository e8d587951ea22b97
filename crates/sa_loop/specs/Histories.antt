-- Histories of tasks of calls: which calls took effect, in which order, and which are marked.
use Rattle.std.specs.Prelude.{◌≡◌, ℕ, zero, suc, ◌+◌, ◌==◌, Bool, List, [], ◌∷◌, ◌++◌, length, map, slice_index_or, None, if◌then◌else◌}
use Rattle.sa_call.specs.declared.call.Call.{Call}
use Rattle.sa_call.specs.declared.call.Op.TheVariants as op

-- a call that shows nothing
abbrev pub no_call : Call
no_call = record { op = op.Show; operands = []; out = None }

-- the call of a task and a number; one that shows nothing where there is none
abbrev pub call_at : List (List Call) → ℕ × ℕ → Call
call_at tasks pair = slice_index_or (slice_index_or tasks pair.0 []) pair.1 no_call

-- the numbers of a task's calls in a history, in order
abbrev pub calls_of : ℕ → List (ℕ × ℕ) → List ℕ
calls_of task [] = []
calls_of task (p ∷ ps) = if p.0 == task then p.1 ∷ calls_of task ps else calls_of task ps

-- this many numbers from one on, without the marked ones
abbrev pub unmarked : (ℕ → Bool) → ℕ → ℕ → List ℕ
unmarked marked k zero = []
unmarked marked k (suc n) = if marked k then unmarked marked (k + 1) n else k ∷ unmarked marked (k + 1) n

-- A history of tasks with these numbers of calls, with marks: for each task its calls in the history are 0, 1, 2 and so on, in order, without those that are marked; and a task that there is not has no call.
pub record IsHistory (counts : List ℕ) (history : List (ℕ × ℕ)) (marks : ℕ → ℕ → Bool) : Type 0 where
  pub calls : (task : ℕ) → calls_of task history ≡ unmarked (marks task) 0 (slice_index_or counts task 0)

-- the marked calls of a task, of which there are this many from a number on
abbrev pub marked_calls : (ℕ → Bool) → ℕ → ℕ → ℕ → List (ℕ × ℕ)
marked_calls marked task k zero = []
marked_calls marked task k (suc n) = if marked k then (task, k) ∷ marked_calls marked task (k + 1) n else marked_calls marked task (k + 1) n

-- the marked calls of the tasks from a number on, by task and then by call
abbrev pub marked_from : (ℕ → ℕ → Bool) → ℕ → List ℕ → List (ℕ × ℕ)
marked_from marks task [] = []
marked_from marks task (n ∷ ns) = marked_calls (marks task) task 0 n ++ marked_from marks (task + 1) ns

-- the calls of tasks, this many from a number on
abbrev pub pairs_from : ℕ → ℕ → ℕ → List (ℕ × ℕ)
pairs_from task k zero = []
pairs_from task k (suc n) = (task, k) ∷ pairs_from task (k + 1) n

-- the calls of the tasks from a number on, one task after another
abbrev pub serial_from : ℕ → List (List Call) → List (ℕ × ℕ)
serial_from task [] = []
serial_from task (calls ∷ others) = pairs_from task 0 (length calls) ++ serial_from (task + 1) others

-- the serial history: the tasks' calls, one task after another
abbrev pub serial : List (List Call) → List (ℕ × ℕ)
serial tasks = serial_from 0 tasks

-- the calls of a history
abbrev pub bodies_of : List (List Call) → List (ℕ × ℕ) → List Call
bodies_of tasks history = map (call_at tasks) history
