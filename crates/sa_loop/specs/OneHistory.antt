-- What the chains of an ended journal tell of it: its lines are one history of the tasks' calls, with marks, and a play of them.
use Rattle.std.specs.Prelude.{◌≡◌, ◌≤◌, ◌<◌, ℕ, Bool, false, List, [], length, map, slice_index_or, None}
use Rattle.std.specs.List.{AllByRecursion}
use Rattle.sa_call.specs.declared.call.Call.{Call}
use Rattle.sa_call.specs.Decls.{Declared, IsDeclared}
use Rattle.sa_journal.specs.declared.party.Party.TheVariants.{Task}
use Rattle.sa_journal.specs.Chains.{Keyed, chain_of}
use Rattle.sa_hall.specs.Contents.{Contents, shape_of}
use Rattle.sa_hall.specs.Domains.{IsLeftHere}
use Rattle.sa_hall.specs.Passes.{Passed}
use Rattle.sa_loop.specs.declared.act.Act.{Act}
use Rattle.sa_loop.specs.Acts.{act_said}
use Rattle.sa_loop.specs.Gathers.{act_pair}
use Rattle.sa_loop.specs.Held.{IsPlay}
use Rattle.sa_loop.specs.Histories.{IsHistory, bodies_of, no_call, unmarked}
use Rattle.sa_loop.specs.Locked.{shape_in}
use Rattle.sa_loop.specs.Orders.{chain_at, line_call, line_reply}

abbrev pub line_number : Keyed Act → ℕ
line_number l = l.1.deed.number

abbrev pub line_pair : Keyed Act → ℕ × ℕ
line_pair l = act_pair l.1.deed

-- whether a call is marked, by the flags of its task
abbrev pub flag_at : List Bool → ℕ → Bool
flag_at flags k = slice_index_or flags k false

-- Up to a number the lines of a task are those of its calls that are not marked, in order: each is the call of its number, under these declarations.
pub record IsDoneTo (decls : Declared) (calls : List Call) (k : ℕ) (flags : List Bool) (lines : List (Keyed Act)) : Type 0 where
  pub numbers : map line_number lines ≡ unmarked (flag_at flags) 0 k
  pub bodies : AllByRecursion (λ l. line_call l ≡ slice_index_or calls (line_number l) no_call) lines
  pub alike : AllByRecursion (λ (l : Keyed Act). l.1.deed.decls.now ≡ decls) lines

-- The pass of a task before the call of a number: it has a flag for each call, its lines are those up to there, and from there on no call is marked.
pub record IsAt (decls : Declared) (calls : List Call) (k : ℕ) (p : Passed Act) : Type 0 where
  pub done : IsDoneTo decls calls k p.marks p.chain.lines
  pub clear : (j : ℕ) → k ≤ j → flag_at p.marks j ≡ false
  pub flags : length p.marks ≡ length calls

-- The lines of a journal, what its descriptors hold, and the flags of its tasks: what a descriptor holds is what its chain leaves of its opening arrays, and its chain agrees; each task is done, and each line is of a task.
pub record AreEnded (decls : Declared) (tasks : List (List Call)) (lines : List (Keyed Act)) (contents : ℕ → Contents) (flags : ℕ → List Bool) : Type 0 where
  pub left : (d : ℕ) → d < length decls.descrs → IsLeftHere act_said d (contents d) (chain_at d lines)
  pub shapes : (d : ℕ) → d < length decls.descrs → shape_of (contents d) ≡ shape_in decls d
  pub done : (t : ℕ) → t < length tasks → IsDoneTo decls (slice_index_or tasks t []) (length (slice_index_or tasks t [])) (flags t) (chain_of act_said (Task t) lines)
  pub within : AllByRecursion (λ (l : Keyed Act). l.1.deed.task < length tasks) lines

-- The lines are a history of the tasks with these marks, each is the call that it names, and they are a play.
pub record AreOneHistory (decls : Declared) (tasks : List (List Call)) (lines : List (Keyed Act)) (contents : ℕ → Contents) (flags : ℕ → List Bool) : Type 0 where
  pub history : IsHistory (map length tasks) (map line_pair lines) (λ t k. flag_at (flags t) k)
  pub bodies : map line_call lines ≡ bodies_of tasks (map line_pair lines)
  pub played : IsPlay decls contents (map line_call lines) (map line_reply lines)

-- The flags of a task that there is not are none.
abbrev pub OneHistory : Type 0
OneHistory = (decls : Declared) (tasks : List (List Call)) (lines : List (Keyed Act)) (contents : ℕ → Contents) (flags : ℕ → List Bool)
    → IsDeclared decls → AreEnded decls tasks lines contents flags → AreOneHistory decls tasks lines contents flags
