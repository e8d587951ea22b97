-- The serial history: the tasks' calls, one task after another.
use Rattle.std.proofs.Common.{◌≡◌, ℕ, zero, suc, ◌+◌, ◌-◌, ◌<◌, ◌≤◌, false, eqb, List, [], ◌∷◌, ◌++◌, length, map, get_or, drop, refl, sym, ap, ◌∙◌, subst, arith, add-one, append_assoc, drop-cons}
use Rattle.std.specs.List.{AllByRecursion, range_with_len}
use Rattle.std.proofs.lemmas.Bool.{eq-eqb, ne_eqb}
use Rattle.std.proofs.lemmas.List.{append-nil, drop_all, map-append}
use Rattle.sa_call.specs.declared.call.Call.{Call}
use Rattle.sa_loop.specs.declared.act.Act.{Act}
use Rattle.sa_loop.specs.Gathers.{act_pair}
use Rattle.sa_loop.specs.Histories.{call_at, calls_of, unmarked, IsHistory, pairs_from, serial_from, serial, bodies_of}

-- nothing is marked, so all numbers stand
unmarked_all : (k n : ℕ) → unmarked (λ (i : ℕ). false) k n ≡ range_with_len k n
unmarked_all k zero = refl
unmarked_all k (suc n) = rw add-one (ap (λ ns. k ∷ ns) (unmarked_all (suc k) n))

-- the calls of a task before those of others
calls_own : (t k n : ℕ) (rest : List (ℕ × ℕ)) → calls_of t (pairs_from t k n ++ rest) ≡ range_with_len k n ++ calls_of t rest
calls_own t k zero rest = refl
calls_own t k (suc n) rest = rw (eq-eqb t t refl, add-one) (ap (λ ns. k ∷ ns) (calls_own t (suc k) n rest))

calls_other : (t j k n : ℕ) (rest : List (ℕ × ℕ)) → eqb t j ≡ false → calls_of j (pairs_from t k n ++ rest) ≡ calls_of j rest
calls_other t j k zero rest apart = refl
calls_other t j k (suc n) rest apart = rw apart (calls_other t j (k + 1) n rest apart)

-- a task before those has no calls among theirs
calls_before : (j t : ℕ) (tasks : List (List Call)) → j < t → calls_of j (serial_from t tasks) ≡ []
calls_before j t [] below = refl
calls_before j t (calls ∷ others) below =
    calls_other t j 0 (length calls) (serial_from (t + 1) others) (ne_eqb t j (λ same. omega arith)) ∙ calls_before j (t + 1) others (omega arith)

-- a task has its calls, in order
calls_serial : (j t i : ℕ) (tasks : List (List Call)) → j ≡ t + i → calls_of j (serial_from t tasks) ≡ range_with_len 0 (get_or (map (λ (calls : List Call). length calls) tasks) i 0)
calls_serial j t zero [] same = refl
calls_serial j t (suc i) [] same = refl
calls_serial j t zero (calls ∷ others) same =
    let here : t ≡ j = omega arith in
    let own = calls_own t 0 (length calls) (serial_from (t + 1) others) in
    let none = calls_before t (t + 1) others (omega arith) in
    subst (λ m. calls_of m (serial_from t (calls ∷ others)) ≡ range_with_len 0 (length calls)) here
    (own ∙ ap (λ ns. range_with_len 0 (length calls) ++ ns) none ∙ append-nil (range_with_len 0 (length calls)))
calls_serial j t (suc i) (calls ∷ others) same =
    calls_other t j 0 (length calls) (serial_from (t + 1) others) (ne_eqb t j (λ e. omega arith)) ∙ calls_serial j (t + 1) i others (omega arith)

-- the serial history is one without marks
pub serial-is-history : (tasks : List (List Call)) → IsHistory (map (λ (calls : List Call). length calls) tasks) (serial tasks) (λ task call. false)
serial-is-history tasks = record {
  calls = λ j. calls_serial j 0 j tasks (omega arith) ∙ sym (unmarked_all 0 (get_or (map (λ (calls : List Call). length calls) tasks) j 0));
}

-- the calls of tasks, one task after another
abbrev pub all_calls : List (List Call) → List Call
all_calls [] = []
all_calls (calls ∷ others) = calls ++ all_calls others

-- what is left behind a place begins with what is there
drop_head : {A : Type 0} (xs : List A) (k : ℕ) (x : A) (ys : List A) (d : A) → drop k xs ≡ x ∷ ys → get_or xs k d ≡ x
drop_head [] zero x ys d e = cc
drop_head [] (suc k) x ys d e = cc
drop_head (z ∷ zs) zero x ys d e = cc
drop_head (z ∷ zs) (suc k) x ys d e = drop_head zs k x ys d e

drop_next : {A : Type 0} (xs : List A) (k : ℕ) (x : A) (ys : List A) → drop k xs ≡ x ∷ ys → drop (suc k) xs ≡ ys
drop_next [] zero x ys e = cc
drop_next [] (suc k) x ys e = cc
drop_next (z ∷ zs) zero x ys e = cc
drop_next (z ∷ zs) (suc k) x ys e = drop_next zs k x ys e

-- the calls of the pairs of a task
calls_at : (tasks : List (List Call)) (task k : ℕ) (calls : List Call) → drop k (get_or tasks task []) ≡ calls → map (call_at tasks) (pairs_from task k (length calls)) ≡ calls
calls_at tasks task k [] e = refl
calls_at tasks task k (c ∷ cs) e =
    let none : Call = call_at [] (0, 0) in
    let here = drop_head (get_or tasks task []) k c cs none e in
    let rest = calls_at tasks task (k + 1) cs (rw add-one (drop_next (get_or tasks task []) k c cs e)) in
    cc

serial_calls_from : (tasks : List (List Call)) (task : ℕ) (others : List (List Call)) → drop task tasks ≡ others → map (call_at tasks) (serial_from task others) ≡ all_calls others
serial_calls_from tasks task [] e = refl
serial_calls_from tasks task (calls ∷ others) e =
    let here : get_or tasks task [] ≡ calls = drop_head tasks task calls others [] e in
    let first = calls_at tasks task 0 calls here in
    let rest = serial_calls_from tasks (task + 1) others (rw add-one (drop_next tasks task calls others e)) in
    let both = map-append (call_at tasks) (pairs_from task 0 (length calls)) (serial_from (task + 1) others) in
    cc

-- the calls of the serial history are the tasks' calls
pub serial-calls : (tasks : List (List Call)) → bodies_of tasks (serial tasks) ≡ all_calls tasks
serial-calls tasks = serial_calls_from tasks 0 tasks refl

-- what holds of each of them holds of the one at a place
pub all-at : {A : Type 0} (P : A → Type 0) (xs : List A) (k : ℕ) (d : A) → AllByRecursion P xs → k < length xs → P (get_or xs k d)
all-at P [] k d a below = absurd (omega arith)
all-at P (x ∷ xs) zero d a below = a.0
all-at P (x ∷ xs) (suc k) d a below = all-at P xs k d a.1 (omega arith)

-- one more pair of a task, and one more of its calls
pub pairs_from-more : (task k n : ℕ) → k < n → pairs_from task k (n - k) ≡ (task, k) ∷ pairs_from task (k + 1) (n - (k + 1))
pairs_from-more task k n below =
    let e : n - k ≡ suc (n - (k + 1)) = omega arith in
    ap (pairs_from task k) e

pub calls-drop : (calls : List Call) (k : ℕ) (d : Call) → k < length calls → drop k calls ≡ get_or calls k d ∷ drop (k + 1) calls
calls-drop calls k d below = rw (drop-cons calls k d, add-one) refl

-- the tasks from one on
pub all_calls-drop : (tasks : List (List Call)) (k : ℕ) (d : List Call) → k < length tasks → all_calls (drop k tasks) ≡ get_or tasks k d ++ all_calls (drop (k + 1) tasks)
all_calls-drop tasks k d below = rw (drop-cons tasks k d, add-one) refl

pub serial_from-drop : (tasks : List (List Call)) (k : ℕ) (d : List Call) → k < length tasks → serial_from k (drop k tasks) ≡ pairs_from k 0 (length (get_or tasks k d)) ++ serial_from (k + 1) (drop (k + 1) tasks)
serial_from-drop tasks k d below = rw (drop-cons tasks k d, add-one) refl

-- what is there with some of what is left, and the rest
pub moved-on : {A : Type 0} (before after some left rest total : List A) → after ≡ before ++ some → left ≡ some ++ rest → before ++ left ≡ total → after ++ rest ≡ total
moved-on before after some left rest total written split so_far =
    let whole : before ++ (some ++ rest) ≡ total = rw split at so_far in
    rw written (append_assoc before some rest ∙ whole)

-- the pair and the call of one act more
pub pairs-more : (acts acts' : List Act) (act : Act) (task number : ℕ) → acts' ≡ acts ++ act ∷ [] → act.task ≡ task → act.number ≡ number → map act_pair acts' ≡ map act_pair acts ++ (task, number) ∷ []
pairs-more acts acts' act task number more task_is number_is =
    ap (map act_pair) more ∙ (map-append act_pair acts (act ∷ []) ∙ (ap (λ t. map act_pair acts ++ (t, act.number) ∷ []) task_is ∙ ap (λ n. map act_pair acts ++ (task, n) ∷ []) number_is))

pub bodies-more : (acts acts' : List Act) (act : Act) (call : Call) → acts' ≡ acts ++ act ∷ [] → act.body.now ≡ call → map (λ (a : Act). a.body.now) acts' ≡ map (λ (a : Act). a.body.now) acts ++ call ∷ []
bodies-more acts acts' act call more body_is =
    ap (map (λ (a : Act). a.body.now)) more ∙ (map-append (λ (a : Act). a.body.now) acts (act ∷ []) ∙ ap (λ c. map (λ (a : Act). a.body.now) acts ++ c ∷ []) body_is)

-- behind the last task no call is left
pub ended : (tasks : List (List Call)) (k : ℕ) (before total : List Call) → length tasks ≤ k → before ++ all_calls (drop k tasks) ≡ total → before ≡ total
ended tasks k before total past whole =
    let none : drop k tasks ≡ [] = drop_all k tasks past in
    let left : before ++ [] ≡ total = rw none at whole in
    sym (append-nil before) ∙ left
