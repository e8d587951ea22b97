-- The parts of a report, one step at a time.
use Rattle.std.proofs.Common.{◌≡◌, ◌≢◌, ℕ, zero, suc, ◌+◌, ◌-◌, ◌<◌, Bool, true, false, List, [], ◌∷◌, ◌++◌, map, drop, Some, Bor, refl, ap, ◌∙◌, arith, eq-eqb}
use Rattle.std.specs.List.{flat_map, slice_get}
use Rattle.std.proofs.lemmas.Bool.{ne_eqb}
use Rattle.std.proofs.lemmas.Grind.{flat_map-append}
use Rattle.std.proofs.lemmas.List.{map-append}
use Rattle.sa_base.specs.declared.stats.Stats.{Stats}
use Rattle.sa_plain.specs.declared.items.Items.{Items}
use Rattle.sa_call.specs.declared.call.Call.{Call}
use Rattle.sa_call.specs.declared.reply.Reply.{Reply}
use Rattle.sa_loop.specs.Histories.{marked_calls, marked_from}
use Rattle.sa_report.specs.Reports.{spaced_pair, replies_of, call_lines, call_line, memory_line, task_block, task_lines, array_line, array_lines, stats_line, stats_lines}
use Rattle.sa_report.proofs.StepLemmas.{drop-at}

-- one more pair of a history
pub pairs-drop : (pairs : List (ℕ × ℕ)) (k : ℕ) (p : ℕ × ℕ) → slice_get pairs k ≡ Some p → flat_map spaced_pair (drop k pairs) ≡ spaced_pair p ++ flat_map spaced_pair (drop (k + 1) pairs)
pairs-drop pairs k p got = ap (flat_map spaced_pair) (drop-at pairs k p got)

-- of a task's calls one that is marked, and one that is not
left-more : (k n : ℕ) → k < n → n - k ≡ suc (n - (k + 1))
left-more k n below = omega arith

pub marks-taken : (marked : ℕ → Bool) (task k n : ℕ) → k < n → marked k ≡ true → flat_map spaced_pair (marked_calls marked task k (n - k)) ≡ spaced_pair (task, k) ++ flat_map spaced_pair (marked_calls marked task (k + 1) (n - (k + 1)))
marks-taken marked task k n below is = let more = left-more k n below in rw (more, is) refl

pub marks-passed : (marked : ℕ → Bool) (task k n : ℕ) → k < n → marked k ≡ false → marked_calls marked task k (n - k) ≡ marked_calls marked task (k + 1) (n - (k + 1))
marks-passed marked task k n below is = let more = left-more k n below in rw (more, is) refl

-- the marked calls of one more task
pub marks-drop : (marks : ℕ → ℕ → Bool) (counts : List ℕ) (k n : ℕ) → slice_get counts k ≡ Some n
    → flat_map spaced_pair (marked_from marks k (drop k counts)) ≡ flat_map spaced_pair (marked_calls (marks k) k 0 n) ++ flat_map spaced_pair (marked_from marks (k + 1) (drop (k + 1) counts))
marks-drop marks counts k n got = ap (λ ns. flat_map spaced_pair (marked_from marks k ns)) (drop-at counts k n got) ∙ flat_map-append spaced_pair (marked_calls (marks k) k 0 n) (marked_from marks (k + 1) (drop (k + 1) counts))

-- a call of the task, and one of another
pub replies_of-taken : (task : ℕ) (pairs : List (ℕ × ℕ)) (replies : List Reply) (k : ℕ) (p : ℕ × ℕ) (r : Reply) → slice_get pairs k ≡ Some p → slice_get replies k ≡ Some r → p.0 ≡ task
    → replies_of task (drop k pairs) (drop k replies) ≡ r ∷ replies_of task (drop (k + 1) pairs) (drop (k + 1) replies)
replies_of-taken task pairs replies k p r got reply same =
    let f = eq-eqb p.0 task same in let a = drop-at pairs k p got in let b = drop-at replies k r reply in rw (a, b, f) refl

pub replies_of-passed : (task : ℕ) (pairs : List (ℕ × ℕ)) (replies : List Reply) (k : ℕ) (p : ℕ × ℕ) (r : Reply) → slice_get pairs k ≡ Some p → slice_get replies k ≡ Some r → p.0 ≢ task
    → replies_of task (drop k pairs) (drop k replies) ≡ replies_of task (drop (k + 1) pairs) (drop (k + 1) replies)
replies_of-passed task pairs replies k p r got reply other =
    let f = ne_eqb p.0 task other in let a = drop-at pairs k p got in let b = drop-at replies k r reply in rw (a, b, f) refl

-- one more reply is gathered
pub reply-pushed : (old new : List (Bor Reply)) (x : Bor Reply) (r : Reply) → new ≡ old ++ x ∷ [] → x.now ≡ r → map (λ (b : Bor Reply). b.now) new ≡ map (λ (b : Bor Reply). b.now) old ++ r ∷ []
reply-pushed old new x r pushed is = ap (map (λ (b : Bor Reply). b.now)) pushed ∙ (map-append (λ (b : Bor Reply). b.now) old (x ∷ []) ∙ ap (λ (y : Reply). map (λ (b : Bor Reply). b.now) old ++ y ∷ []) is)

-- the line of a marked call, the line of one with the next reply, and no line where no reply is left
call_lines-memory : (marked : ℕ → Bool) (k n : ℕ) (replies : List Reply) → marked k ≡ true → call_lines marked k (suc n) replies ≡ memory_line k ++ call_lines marked (k + 1) n replies
call_lines-memory marked k n [] is = rw is refl
call_lines-memory marked k n (r ∷ rs) is = rw is refl

pub call_lines-marked : (marked : ℕ → Bool) (k n : ℕ) (replies : List Reply) → k < n → marked k ≡ true → call_lines marked k (n - k) replies ≡ memory_line k ++ call_lines marked (k + 1) (n - (k + 1)) replies
call_lines-marked marked k n replies below is = ap (λ m. call_lines marked k m replies) (left-more k n below) ∙ call_lines-memory marked k (n - (k + 1)) replies is

pub call_lines-next : (marked : ℕ → Bool) (k n next : ℕ) (replies : List Reply) (r : Reply) → k < n → marked k ≡ false → slice_get replies next ≡ Some r
    → call_lines marked k (n - k) (drop next replies) ≡ call_line k r ++ call_lines marked (k + 1) (n - (k + 1)) (drop (next + 1) replies)
call_lines-next marked k n next replies r below is got = let more = left-more k n below in let a = drop-at replies next r got in rw (more, a, is) refl

call_lines-end : (marked : ℕ → Bool) (k n : ℕ) → marked k ≡ false → call_lines marked k n [] ≡ []
call_lines-end marked k zero is = refl
call_lines-end marked k (suc n) is = rw is refl

pub call_lines-none : (marked : ℕ → Bool) (k n : ℕ) (replies : List Reply) → marked k ≡ false → replies ≡ [] → call_lines marked k n replies ≡ []
call_lines-none marked k n replies is none = ap (call_lines marked k n) none ∙ call_lines-end marked k n is

-- one more task
pub task_lines-drop : (pairs : List (ℕ × ℕ)) (marks : ℕ → ℕ → Bool) (replies : List Reply) (tasks : List (List Call)) (k : ℕ) (calls : List Call) → slice_get tasks k ≡ Some calls
    → task_lines pairs marks replies k (drop k tasks) ≡ task_block pairs marks replies k calls ++ task_lines pairs marks replies (k + 1) (drop (k + 1) tasks)
task_lines-drop pairs marks replies tasks k calls got = ap (task_lines pairs marks replies k) (drop-at tasks k calls got)

-- one more array
pub array_lines-drop : (names : List (List ℕ)) (contents : List Items) (k : ℕ) (name : List ℕ) (items : Items) → slice_get names k ≡ Some name → slice_get contents k ≡ Some items
    → array_lines (drop k names) (drop k contents) ≡ array_line name items ++ array_lines (drop (k + 1) names) (drop (k + 1) contents)
array_lines-drop names contents k name items named got = let a = drop-at names k name named in let b = drop-at contents k items got in rw (a, b) refl

-- one more descriptor
pub stats_lines-drop : (names : List (List ℕ)) (stats : List Stats) (k : ℕ) (name : List ℕ) (s : Stats) → slice_get names k ≡ Some name → slice_get stats k ≡ Some s
    → stats_lines (drop k names) (drop k stats) ≡ stats_line name s ++ stats_lines (drop (k + 1) names) (drop (k + 1) stats)
stats_lines-drop names stats k name s named got = let a = drop-at names k name named in let b = drop-at stats k s got in rw (a, b) refl
