-- Every sample is a script.
use Rattle.std.proofs.Common.{◌≡◌, ℕ, zero, suc, ◌+◌, ◌*◌, ◌<◌, ◌≤◌, nat_le, true, List, [], ◌∷◌, ◌++◌, length, Result, Ok, Err, refl, sym, ap, subst, ◌∙◌, arith, codes, length-append}
use Rattle.std.specs.List.{AllByRecursion, list_all}
use Rattle.std.specs.Str.{chars, is_utf8}
use Rattle.std.proofs.Math.Utf8.{encode}
use Rattle.std.proofs.lemmas.Bool.{and_parts, lt-leb}
use Rattle.sa_lines.specs.Laws.{IsWithoutControls}
use Rattle.sa_lines.specs.Tokens.{joined}
use Rattle.sa_call.specs.declared.call.Call.{Call}
use Rattle.sa_script.specs.Contexts.{nothing, with_call}
use Rattle.sa_script.specs.Faults.{code_of}
use Rattle.sa_script.specs.Scripts.{context_after, either, line_after, lines_after, script_value, statement_after, unless_fault}
use Rattle.sa_script.specs.Terms.{call_in}
use Rattle.sa_script.specs.declared.cause.Cause.{Cause}
use Rattle.sa_script.specs.declared.context.Context.{Context}
use Rattle.sa_script.specs.declared.statement.Statement.TheVariants as statement
use Rattle.sa_sample.specs.Laws.{SamplesAreScripts}
use Rattle.sa_sample.specs.Samples.{after_call, after_calls, call_lines, call_tokens, declaration_lines, drawn_call, sample_lines, task_lines}
use Rattle.sa_sample.proofs.DeclarationLemmas.{declarations-run, ready}
use Rattle.sa_sample.proofs.DrawnLemmas.{drawn-read}
use Rattle.sa_sample.proofs.FaultLemmas.{no-fault}
use Rattle.sa_sample.proofs.LineLemmas.{call_lines-suc, task_lines-suc}
use Rattle.sa_sample.proofs.RunLemmas.{run, run-append, run-as, run-first, lines_after-run, lines_of-lines}
use Rattle.sa_sample.proofs.TokenLemmas.{line-joined, plain-joined}

-- the call of one drawn line
call-after : List (List Call) → ℕ → ℕ → Call
call-after tasks before x = call_in (ready tasks before) (drawn-read x).line

-- that line has no fault where a task has begun and few calls stand before it
call-line : (tasks : List (List Call)) (before x : ℕ) → 0 < length tasks → before < 1024
    → line_after (ready tasks before) (joined (call_tokens (drawn_call x))) ≡ Ok (ready (with_call tasks (call-after tasks before x)) (before + 1))
unfolding call-after
call-line tasks before x some few =
    let r = drawn-read x in
    line-joined (ready tasks before) (call_tokens (drawn_call x)) r.good r.kept
    ∙ (ap (statement_after (ready tasks before)) r.read
    ∙ ap (unless_fault (context_after (ready tasks before) (statement.Call r.line))) (no-fault tasks before r.line (r.faultless tasks before) some few))

-- after it there are as many tasks
length-with_call : (tasks : List (List Call)) (call : Call) → length (with_call tasks call) ≡ length tasks
length-with_call [] call = refl
length-with_call (t ∷ []) call = refl
length-with_call (t ∷ u ∷ ts) call = ap suc (length-with_call (u ∷ ts) call)

-- lines of so many calls have no fault, and leave the number of tasks
record AreCalls (tasks : List (List Call)) (before n : ℕ) (lines : List (List ℕ)) : Type 0 where
  after : List (List Call)
  runs : run (ready tasks before) lines ≡ Ok (ready after (before + n))
  as_many : length after ≡ length tasks

-- no call is no line
call_lines-zero : (x : ℕ) → call_lines zero x ≡ []
unfolding call_lines
call_lines-zero x = refl

-- the number of calls so far
none-more : (k : ℕ) → k ≡ k + 0
none-more k = omega arith

one-more : (k m : ℕ) → (k + 1) + m ≡ k + suc m
one-more k m = omega arith

-- the calls of a task
calls-run : (n x : ℕ) (tasks : List (List Call)) (before : ℕ) → 0 < length tasks → before + n ≤ 1024 → AreCalls tasks before n (call_lines n x)
calls-run zero x tasks before some few = record {
  after = tasks;
  runs = ap (run (ready tasks before)) (call_lines-zero x) ∙ ap (λ k. Ok (ready tasks k)) (none-more before);
  as_many = refl;
}
calls-run (suc n) x tasks before some few =
    let next = with_call tasks (call-after tasks before x) in
    let same : length next ≡ length tasks = length-with_call tasks (call-after tasks before x) in
    let later = calls-run n (after_call x) next (before + 1) (omega arith) (omega arith) in
    let last : Context = ready later.after (before + suc n) in
    let first : List ℕ = joined (call_tokens (drawn_call x)) in
    let runs = later.runs ∙ ap (λ k. Ok (ready later.after k)) (one-more before n) in
    let all = run-first (ready tasks before) (ready next (before + 1)) last first (call_lines n (after_call x)) (call-line tasks before x some (omega arith)) runs in
    record {
      after = later.after;
      runs = run-as (ready tasks before) last (call_lines (suc n) x) (first ∷ call_lines n (after_call x)) (call_lines-suc n x) all;
      as_many = later.as_many ∙ same;
    }

-- lines of tasks have no fault
record AreTasks (tasks : List (List Call)) (before : ℕ) (lines : List (List ℕ)) : Type 0 where
  after : List (List Call)
  count : ℕ
  runs : run (ready tasks before) lines ≡ Ok (ready after count)

-- one more task begins
task-line : (tasks : List (List Call)) (before : ℕ) → length tasks < 64 → line_after (ready tasks before) (codes "task") ≡ Ok (ready (tasks ++ [] ∷ []) before)
unfolding is_utf8 chars encode
task-line tasks before few = let fits = lt-leb 64 (length tasks) few in rw fits refl

-- no task is no line
task_lines-zero : (x : ℕ) → task_lines zero x ≡ []
unfolding task_lines
task_lines-zero x = refl

-- tasks, one after another
tasks-run : (n x : ℕ) (tasks : List (List Call)) (before : ℕ) → length tasks + n ≤ 64 → before + 64 * n ≤ 1024 → AreTasks tasks before (task_lines n x)
tasks-run zero x tasks before few fits = record {
  after = tasks;
  count = before;
  runs = ap (run (ready tasks before)) (task_lines-zero x);
}
tasks-run (suc n) x tasks before few fits =
    let begun : List (List Call) = tasks ++ [] ∷ [] in
    let more : length begun ≡ length tasks + 1 = length-append tasks ([] ∷ []) in
    let calls = calls-run 64 x begun before (omega arith) (omega arith) in
    let same : length calls.after ≡ length begun = calls.as_many in
    let rest = task_lines n (after_calls 64 x) in
    let later = tasks-run n (after_calls 64 x) calls.after (before + 64) (omega arith) (omega arith) in
    let last : Context = ready later.after later.count in
    let runs = run-append (ready begun before) (ready calls.after (before + 64)) last (call_lines 64 x) rest calls.runs later.runs in
    let all = run-first (ready tasks before) (ready begun before) last (codes "task") (call_lines 64 x ++ rest) (task-line tasks before (omega arith)) runs in
    record {
      after = later.after;
      count = later.count;
      runs = run-as (ready tasks before) last (task_lines (suc n) x) (codes "task" ∷ (call_lines 64 x ++ rest)) (task_lines-suc n x) all;
    }

-- what is declared after the last line
abbrev over : List (List Call) → ℕ → Context
over tasks before = record (ready tasks before) { ended = true }

end-line : (tasks : List (List Call)) (before : ℕ) → line_after (ready tasks before) (codes "end") ≡ Ok (over tasks before)
unfolding is_utf8 chars encode
end-line tasks before = refl

-- the tasks of a sample, and all its lines, have no fault
sample-tasks : (number : ℕ) → AreTasks [] 0 (task_lines 8 number)
sample-tasks number = tasks-run 8 number [] 0 (omega arith) (omega arith)

sample-run : (number : ℕ) → run nothing (sample_lines number) ≡ Ok (over (sample-tasks number).after (sample-tasks number).count)
sample-run number =
    let tasks = sample-tasks number in
    let after : Context = ready tasks.after tasks.count in
    let last : Context = over tasks.after tasks.count in
    let end = run-first after last last (codes "end") [] (end-line tasks.after tasks.count) refl in
    run-append nothing (ready [] 0) last declaration_lines (task_lines 8 number ++ codes "end" ∷ []) declarations-run
    (run-append (ready [] 0) after last (task_lines 8 number) (codes "end" ∷ []) tasks.runs end)

-- lines without controls in a row
all-append : (xs ys : List (List ℕ)) → AllByRecursion IsWithoutControls xs → AllByRecursion IsWithoutControls ys → AllByRecursion IsWithoutControls (xs ++ ys)
all-append [] ys h i = i
all-append (x ∷ xs) ys h i = (h.0, all-append xs ys h.1 i)

-- the same by a test
all-tested : (lines : List (List ℕ)) → list_all (list_all (nat_le 32)) lines ≡ true → AllByRecursion IsWithoutControls lines
all-tested [] h = tt
all-tested (l ∷ ls) h = let parts = and_parts (list_all (nat_le 32) l) (list_all (list_all (nat_le 32)) ls) h in (parts.0, all-tested ls parts.1)

-- no line of a sample has a control character
calls-plain : (n x : ℕ) → AllByRecursion IsWithoutControls (call_lines n x)
calls-plain zero x = subst (AllByRecursion IsWithoutControls) (sym (call_lines-zero x)) tt
calls-plain (suc n) x = subst (AllByRecursion IsWithoutControls) (sym (call_lines-suc n x)) (plain-joined (call_tokens (drawn_call x)) (drawn-read x).good, calls-plain n (after_call x))

tasks-plain : (n x : ℕ) → AllByRecursion IsWithoutControls (task_lines n x)
tasks-plain zero x = subst (AllByRecursion IsWithoutControls) (sym (task_lines-zero x)) tt
tasks-plain (suc n) x =
    subst (AllByRecursion IsWithoutControls) (sym (task_lines-suc n x)) (refl, all-append (call_lines 64 x) (task_lines n (after_calls 64 x)) (calls-plain 64 x) (tasks-plain n (after_calls 64 x)))

sample-plain : (number : ℕ) → AllByRecursion IsWithoutControls (sample_lines number)
sample-plain number =
    all-append declaration_lines (task_lines 8 number ++ codes "end" ∷ []) (all-tested declaration_lines refl) (all-append (task_lines 8 number) (codes "end" ∷ []) (tasks-plain 8 number) (refl, tt))

-- so each sample is read as its lines, and they have no fault
pub samples_are_scripts : SamplesAreScripts
samples_are_scripts number =
    let tasks = sample-tasks number in
    let last : Context = over tasks.after tasks.count in
    let read = ap (lines_after nothing 0) (lines_of-lines (sample_lines number) (sample-plain number)) ∙ lines_after-run nothing last 0 (sample_lines number) (sample-run number) refl in
    (script_value last, ap (λ (r : Result Context (Cause × ℕ)). either r (λ c. Ok (script_value c)) (λ fault. Err (code_of fault.0, fault.1))) read)
