-- The history and the marks of a report can be read back from its bytes, since their numbers are short.
use Rattle.std.proofs.Common.{◌≡◌, ℕ, zero, suc, ◌+◌, ◌^◌, ◌<◌, ◌≤◌, ◌==◌, Bool, true, false, List, [], ◌∷◌, ◌++◌, length, map, sum_by, slice_index_or, Result, Ok, Err, cond, refl, sym, ap, ◌∙◌, subst, arith}
use Rattle.std.specs.List.{AllByRecursion}
use Rattle.std.specs.Result.{IfOk}
use Rattle.std.proofs.lemmas.Bool.{eq-eqb}
use Rattle.std.proofs.lemmas.List.{length-map}
use Rattle.std.proofs.lemmas.List.Sums.{sum_by-cons}
use Rattle.sa_call.specs.declared.call.Call.{Call}
use Rattle.sa_loop.specs.Histories.{IsHistory, calls_of, unmarked, marked_calls, marked_from}
use Rattle.sa_lines.proofs.LawLemmas.{lines_again, tokens_again}
use Rattle.sa_lines.proofs.NumberLaws.{strict_is_decimal, decimal_in_front}
use Rattle.sa_script.specs.Scripts.{ScriptValue}
use Rattle.sa_script.specs.Sound.{IsSound}
use Rattle.sa_report.specs.Naming.{IsShort, NamesItsHistory, history_named, marks_named}
use Rattle.sa_report.specs.Plays.{report_of_play}
use Rattle.sa_report.proofs.NamingLemmas.{names_again}
use Rattle.strarr.specs.Outputs.{IsReport}

-- numbers below a limit
unmarked-below : (f : ℕ → Bool) (k n m : ℕ) → k + n ≤ m → AllByRecursion (λ j. j < m) (unmarked f k n)
unmarked-below f k zero m within = tt
unmarked-below f k (suc n) m within = go (f k) (unmarked-below f (k + 1) n m (omega (arith, within)))
  where
    go : (b : Bool) → AllByRecursion (λ j. j < m) (unmarked f (k + 1) n) → AllByRecursion (λ j. j < m) (cond b (unmarked f (k + 1) n) (k ∷ unmarked f (k + 1) n))
    go true rest = rest
    go false rest = (omega (arith, within), rest)

-- pairs whose second number is below the limit of the first
pairs-below : (bound : ℕ → ℕ) (history : List (ℕ × ℕ)) → ((task : ℕ) → AllByRecursion (λ j. j < bound task) (calls_of task history)) → AllByRecursion (λ (p : ℕ × ℕ). p.1 < bound p.0) history
pairs-below bound [] each = tt
pairs-below bound (p ∷ ps) each = (first, pairs-below bound ps (λ task. rest task (p.0 == task) (each task)))
  where
    first : p.1 < bound p.0
    first = (subst (λ (b : Bool). AllByRecursion (λ j. j < bound p.0) (cond b (p.1 ∷ calls_of p.0 ps) (calls_of p.0 ps))) (eq-eqb p.0 p.0 refl) (each p.0)).0

    rest : (task : ℕ) (b : Bool) → AllByRecursion (λ j. j < bound task) (cond b (p.1 ∷ calls_of task ps) (calls_of task ps)) → AllByRecursion (λ j. j < bound task) (calls_of task ps)
    rest task true all = all.1
    rest task false all = all

-- a number of calls is at most their sum
count-below : (tasks : List (List Call)) (task : ℕ) → slice_index_or (map length tasks) task 0 ≤ sum_by length tasks
count-below [] task = omega arith
count-below (calls ∷ others) zero =
    let here : slice_index_or (map length (calls ∷ others)) 0 0 ≡ length calls = refl in
    let all : sum_by length (calls ∷ others) ≡ length calls + sum_by length others = sum_by-cons length calls others in
    omega (arith, here, all)
count-below (calls ∷ others) (suc task) =
    let here : slice_index_or (map length (calls ∷ others)) (suc task) 0 ≡ slice_index_or (map length others) task 0 = refl in
    let all : sum_by length (calls ∷ others) ≡ length calls + sum_by length others = sum_by-cons length calls others in
    omega (arith, here, all, count-below others task)

-- a task that has calls is one of the tasks
task-below : (counts : List ℕ) (task number : ℕ) → number < slice_index_or counts task 0 → task < length counts
task-below [] task number some = absurd (omega (arith, some))
task-below (n ∷ ns) zero number some = omega arith
task-below (n ∷ ns) (suc task) number some = omega (arith, task-below ns task number some)

all-weaker : {A : Type 0} (P Q : A → Type 0) (xs : List A) → ((x : A) → P x → Q x) → AllByRecursion P xs → AllByRecursion Q xs
all-weaker P Q [] weaker all = tt
all-weaker P Q (x ∷ xs) weaker all = (weaker x all.0, all-weaker P Q xs weaker all.1)

-- the pairs of a history are short
pub history-short : (tasks : List (List Call)) (history : List (ℕ × ℕ)) (marks : ℕ → ℕ → Bool) → length tasks ≤ 64 → sum_by length tasks ≤ 1024
    → IsHistory (map length tasks) history marks → AllByRecursion IsShort history
history-short tasks history marks few_tasks few_calls is =
    all-weaker _ _ history short (pairs-below count history (λ task. subst (AllByRecursion (λ j. j < count task)) (sym (is.calls task)) (unmarked-below (marks task) 0 (count task) (count task) (omega arith))))
  where
    count : ℕ → ℕ
    count task = slice_index_or (map length tasks) task 0

    short : (p : ℕ × ℕ) → p.1 < count p.0 → IsShort p
    short p below = (omega (arith, task-below (map length tasks) p.0 p.1 below, length-map tasks length, few_tasks), omega (arith, below, count-below tasks p.0, few_calls))

-- the marked calls of tasks are short
marked-calls-short : (f : ℕ → Bool) (task k n : ℕ) → task < 2 ^ 64 → k + n < 2 ^ 64 → AllByRecursion IsShort (marked_calls f task k n)
marked-calls-short f task k zero small within = tt
marked-calls-short f task k (suc n) small within = go (f k) (marked-calls-short f task (k + 1) n small (omega (arith, within)))
  where
    go : (b : Bool) → AllByRecursion IsShort (marked_calls f task (k + 1) n) → AllByRecursion IsShort (cond b ((task, k) ∷ marked_calls f task (k + 1) n) (marked_calls f task (k + 1) n))
    go true rest = ((small, omega (arith, within)), rest)
    go false rest = rest

all-append : {A : Type 0} (P : A → Type 0) (xs ys : List A) → AllByRecursion P xs → AllByRecursion P ys → AllByRecursion P (xs ++ ys)
all-append P [] ys all more = more
all-append P (x ∷ xs) ys all more = (all.0, all-append P xs ys all.1 more)

pub marks-short : (marks : ℕ → ℕ → Bool) (task : ℕ) (tasks : List (List Call)) → task + length tasks ≤ 64 → sum_by length tasks ≤ 1024 → AllByRecursion IsShort (marked_from marks task (map length tasks))
marks-short marks task [] few_tasks few_calls = tt
marks-short marks task (calls ∷ others) few_tasks few_calls =
    let all : sum_by length (calls ∷ others) ≡ length calls + sum_by length others = sum_by-cons length calls others in
    let more : length (calls ∷ others) ≡ suc (length others) = refl in
    all-append IsShort (marked_calls (marks task) task 0 (length calls)) (marked_from marks (task + 1) (map length others))
    (marked-calls-short (marks task) task 0 (length calls) (omega (arith, few_tasks)) (omega (arith, few_calls, all)))
    (marks-short marks (task + 1) others (omega (arith, few_tasks, more)) (omega (arith, few_calls, all)))

names-its-history : NamesItsHistory
names-its-history = names_again lines_again tokens_again strict_is_decimal decimal_in_front

-- the report of a history with marks of a script names both
pub is-report : (script : ScriptValue) (history : List (ℕ × ℕ)) (marks : ℕ → ℕ → Bool) (bytes : List ℕ) → IsSound script.decls script.names script.tasks
    → IsHistory (map length script.tasks) history marks → bytes ≡ report_of_play script history marks → IsReport script bytes
is-report script history marks bytes sound order play =
    let named = names-its-history script history marks _ _ _
    (history-short script.tasks history marks sound.few_tasks sound.few_calls order)
    (marks-short marks 0 script.tasks (omega (arith, sound.few_tasks)) sound.few_calls) in
    record {
      history = history;
      marks = marks;
      order = order;
      play = play;
      history_is_named = ap history_named play ∙ named.0;
      marks_are_named = ap marks_named play ∙ named.1;
    }

-- what is known of a result is known in a weaker form
pub if-ok-more : {A B : Type 0} (r : Result A B) (P Q : A → Type 0) → ((a : A) → P a → Q a) → IfOk r P → IfOk r Q
if-ok-more (Ok a) P Q more known = more a known
if-ok-more (Err b) P Q more known = known
