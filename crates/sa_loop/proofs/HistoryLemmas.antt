-- An ended journal is one history of its tasks' calls.
use Rattle.std.proofs.Common.{◌≡◌, ◌≤◌, ◌<◌, ◌+◌, ℕ, zero, suc, eqb, Bool, true, false, cond, nat_lt, List, [], ◌∷◌, ◌++◌, length, map, set, get_or, refl, sym, ap, ◌∙◌, subst, arith, add-one}
use Rattle.std.specs.List.{AllByRecursion}
use Rattle.std.proofs.lemmas.Bool.{eq-eqb, ltb-false, ltb-true, ne_eqb}
use Rattle.std.proofs.lemmas.List.{append-nil, get_or-map, get_or_past, get_or-set_other, get_or-set_same, length-map, length-set, map-append}
use Rattle.sa_alloc.specs.Layouts.{opening_layout}
use Rattle.sa_call.specs.declared.call.Call.{Call}
use Rattle.sa_call.specs.declared.reply.Outcome.{Outcome}
use Rattle.sa_call.specs.declared.reply.Reply.{Reply}
use Rattle.sa_call.specs.Decls.{Declared}
use Rattle.sa_journal.specs.declared.party.Party.TheVariants.{Task}
use Rattle.sa_journal.specs.Chains.{Keyed, chain_of}
use Rattle.sa_journal.specs.Shapes.{Shape}
use Rattle.sa_hall.specs.Contents.{Contents, opening_of}
use Rattle.sa_hall.specs.Domains.{IsReadHere, stepped}
use Rattle.sa_hall.specs.Folds.{IsLeft}
use Rattle.sa_hall.proofs.WriteLemmas.{opening_plains}
use Rattle.sa_hall.specs.Passes.{Passed, pass_with, with_mark}
use Rattle.sa_loop.specs.declared.act.Act.{Act}
use Rattle.sa_loop.specs.Acts.{act_said}
use Rattle.sa_loop.specs.Histories.{bodies_of, call_at, calls_of, no_call, unmarked}
use Rattle.sa_loop.specs.Locked.{IsOneLineMore, shape_in}
use Rattle.sa_loop.specs.OneHistory.{AreEnded, IsAt, OneHistory, flag_at, line_number, line_pair}
use Rattle.sa_loop.specs.Orders.{chain_at, line_call}
use Rattle.sa_loop.specs.Plays.{outcomes_from, world_left}
use Rattle.sa_loop.specs.Runs.{IsContents, opening_holds, shown, world_of}
use Rattle.sa_loop.specs.States.{World, lengths_of, opening, plains_of}
use Rattle.sa_loop.proofs.OrderLemmas.{one-order}
use Rattle.sa_loop.proofs.WorldLemmas.{opening-contents, opening-shown}

-- calls that are not marked

unmarked-agree : (f g : ℕ → Bool) (k n : ℕ) → ((j : ℕ) → k ≤ j → j < k + n → f j ≡ g j) → unmarked f k n ≡ unmarked g k n
unmarked-agree f g k zero same = refl
unmarked-agree f g k (suc n) same =
    let rest = unmarked-agree f g (k + 1) n (λ j from below. same j (omega arith) (omega arith)) in
    ap (λ (b : Bool). cond b (unmarked f (k + 1) n) (k ∷ unmarked f (k + 1) n)) (same k (omega arith) (omega arith))
    ∙ ap (λ xs. cond (g k) xs (k ∷ xs)) rest

unmarked-more : (f : ℕ → Bool) (k n : ℕ) → unmarked f k (suc n) ≡ unmarked f k n ++ cond (f (k + n)) [] ((k + n) ∷ [])
unmarked-more f k zero =
    let here : k ≡ k + 0 = omega arith in
    ap (λ (j : ℕ). cond (f j) [] (j ∷ [])) here
unmarked-more f k (suc n) =
    let here : k + 1 + n ≡ k + suc n = omega arith in
    let more = unmarked-more f (k + 1) n ∙ ap (λ j. unmarked f (k + 1) n ++ cond (f j) [] (j ∷ [])) here in
    go (f k) (ap (λ xs. cond (f k) xs (k ∷ xs)) more)
  where
    last : List ℕ
    last = cond (f (k + suc n)) [] ((k + suc n) ∷ [])

    go : (b : Bool) → cond b (unmarked f (k + 1) (suc n)) (k ∷ unmarked f (k + 1) (suc n)) ≡ cond b (unmarked f (k + 1) n ++ last) (k ∷ (unmarked f (k + 1) n ++ last))
        → cond b (unmarked f (k + 1) (suc n)) (k ∷ unmarked f (k + 1) (suc n)) ≡ cond b (unmarked f (k + 1) n) (k ∷ unmarked f (k + 1) n) ++ last
    go true same = same
    go false same = same

-- a pass with one call more

all-more : {A : Type 0} (P : A → Type 0) (xs : List A) (x : A) → AllByRecursion P xs → P x → AllByRecursion P (xs ++ x ∷ [])
all-more P [] x all one = (one, tt)
all-more P (y ∷ ys) x all one = (all.0, all-more P ys x all.1 one)

pub at_performed : (decls : Declared) (call : Call) (reply : Reply) (calls : List Call) (k : ℕ) (p q : Passed Act) → IsAt decls calls k p → IsOneLineMore decls call k reply p q → call ≡ get_or calls k no_call → IsAt decls calls (k + 1) q
at_performed decls call reply calls k p q is one named =
    let line = one.line in
    let lines = p.chain.lines in
    let clear : flag_at p.marks k ≡ false = is.clear k (omega arith) in
    let unmarked_is : unmarked (flag_at p.marks) 0 (k + 1) ≡ unmarked (flag_at p.marks) 0 k ++ k ∷ [] =
    ap (unmarked (flag_at p.marks) 0) (add-one k) ∙ unmarked-more (flag_at p.marks) 0 k ∙ ap (λ j. unmarked (flag_at p.marks) 0 k ++ cond (flag_at p.marks j) [] (j ∷ [])) (let e : 0 + k ≡ k = omega arith in e)
    ∙ ap (λ (b : Bool). unmarked (flag_at p.marks) 0 k ++ cond b [] (k ∷ [])) clear in
    let after : IsAt decls calls (k + 1) (pass_with p line) = record {
      done = record {
        numbers = map-append line_number lines (line ∷ []) ∙ ap (λ xs. xs ++ line_number line ∷ []) is.done.numbers ∙ ap (λ j. unmarked (flag_at p.marks) 0 k ++ j ∷ []) one.number_is ∙ sym unmarked_is;
        bodies = all-more (λ l. line_call l ≡ get_or calls (line_number l) no_call) lines line is.done.bodies (one.body_is ∙ (named ∙ ap (λ j. get_or calls j no_call) (sym one.number_is)));
        alike = all-more (λ (l : Keyed Act). l.1.deed.decls.now ≡ decls) lines line is.done.alike one.decls_is;
      };
      clear = λ j from. is.clear j (omega arith);
      flags = is.flags;
    } in
    subst (IsAt decls calls (k + 1)) (sym one.pass) after

pub at_marked : (decls : Declared) (calls : List Call) (k : ℕ) (p q : Passed Act) → IsAt decls calls k p → k < length calls → q ≡ with_mark p k → IsAt decls calls (k + 1) q
at_marked decls calls k p q is below marked =
    let flags = set p.marks k true in
    let within : k < length p.marks = let same = is.flags in omega arith in
    let here : flag_at flags k ≡ true = get_or-set_same p.marks k true false within in
    let apart : (j : ℕ) → (j ≡ k → ⊥) → flag_at flags j ≡ flag_at p.marks j = λ j other. get_or-set_other p.marks k j true false other in
    let before : unmarked (flag_at p.marks) 0 k ≡ unmarked (flag_at flags) 0 k = unmarked-agree (flag_at p.marks) (flag_at flags) 0 k (λ j from under. sym (apart j (λ same. omega arith))) in
    let unmarked_is : unmarked (flag_at flags) 0 (k + 1) ≡ unmarked (flag_at flags) 0 k =
    ap (unmarked (flag_at flags) 0) (add-one k) ∙ unmarked-more (flag_at flags) 0 k ∙ ap (λ j. unmarked (flag_at flags) 0 k ++ cond (flag_at flags j) [] (j ∷ [])) (let e : 0 + k ≡ k = omega arith in e)
    ∙ ap (λ (b : Bool). unmarked (flag_at flags) 0 k ++ cond b [] (k ∷ [])) here ∙ append-nil (unmarked (flag_at flags) 0 k) in
    let after : IsAt decls calls (k + 1) (with_mark p k) = record {
      done = record { numbers = is.done.numbers ∙ (before ∙ sym unmarked_is); bodies = is.done.bodies; alike = is.done.alike };
      clear = λ j from. apart j (λ same. omega arith) ∙ is.clear j (omega arith);
      flags = length-set p.marks k true ∙ is.flags;
    } in
    subst (IsAt decls calls (k + 1)) (sym marked) after

-- the lines of a task

abbrev task_of : Keyed Act → ℕ
task_of l = l.1.deed.task

abbrev task_lines : ℕ → List (Keyed Act) → List (Keyed Act)
task_lines t ls = chain_of act_said (Task t) ls

calls-of : (t : ℕ) (ls : List (Keyed Act)) → calls_of t (map line_pair ls) ≡ map line_number (task_lines t ls)
calls-of t [] = refl
calls-of t (l ∷ ls) = go (eqb (task_of l) t) (calls-of t ls)
  where
    go : (b : Bool) → calls_of t (map line_pair ls) ≡ map line_number (task_lines t ls)
        → cond b (line_number l ∷ calls_of t (map line_pair ls)) (calls_of t (map line_pair ls)) ≡ map line_number (cond b (l ∷ task_lines t ls) (task_lines t ls))
    go true rest = ap (λ xs. line_number l ∷ xs) rest
    go false rest = rest

none-of : (n t : ℕ) (ls : List (Keyed Act)) → AllByRecursion (λ l. task_of l < n) ls → n ≤ t → task_lines t ls ≡ []
none-of n t [] within above = refl
none-of n t (l ∷ ls) within above =
    let other : eqb (task_of l) t ≡ false = ne_eqb (task_of l) t (λ same. let below = within.0 in omega arith) in
    ap (λ (b : Bool). cond b (l ∷ task_lines t ls) (task_lines t ls)) other ∙ none-of n t ls within.1 above

all-by-tasks : (Q : ℕ → Keyed Act → Type 0) (n : ℕ) (ls : List (Keyed Act)) → AllByRecursion (λ l. task_of l < n) ls → ((t : ℕ) → t < n → AllByRecursion (Q t) (task_lines t ls)) → AllByRecursion (λ l. Q (task_of l) l) ls
all-by-tasks Q n [] within each = tt
all-by-tasks Q n (l ∷ ls) within each = (
  first (subst (λ (b : Bool). AllByRecursion (Q (task_of l)) (cond b (l ∷ task_lines (task_of l) ls) (task_lines (task_of l) ls))) (eq-eqb (task_of l) (task_of l) refl) (each (task_of l) within.0)),
  all-by-tasks Q n ls within.1 (λ t below. rest t (eqb (task_of l) t) (each t below)),
)
  where
    first : AllByRecursion (Q (task_of l)) (l ∷ task_lines (task_of l) ls) → Q (task_of l) l
    first all = all.0

    rest : (t : ℕ) (b : Bool) → AllByRecursion (Q t) (cond b (l ∷ task_lines t ls) (task_lines t ls)) → AllByRecursion (Q t) (task_lines t ls)
    rest t true all = all.1
    rest t false all = all

bodies-are : (tasks : List (List Call)) (ls : List (Keyed Act)) → AllByRecursion (λ l. line_call l ≡ call_at tasks (line_pair l)) ls → map line_call ls ≡ bodies_of tasks (map line_pair ls)
bodies-are tasks [] all = refl
bodies-are tasks (l ∷ ls) all = ap (λ c. c ∷ map line_call ls) all.0 ∙ ap (λ cs. call_at tasks (line_pair l) ∷ cs) (bodies-are tasks ls all.1)

-- an ended journal

history-are : (decls : Declared) (tasks : List (List Call)) (lines : List (Keyed Act)) (contents : ℕ → Contents) (flags : ℕ → List Bool) → AreEnded decls tasks lines contents flags
    → (t : ℕ) → calls_of t (map line_pair lines) ≡ unmarked (flag_at (flags t)) 0 (get_or (map length tasks) t 0)
history-are decls tasks lines contents flags are t = go (nat_lt t (length tasks)) refl
  where
    go : (b : Bool) → nat_lt t (length tasks) ≡ b → calls_of t (map line_pair lines) ≡ unmarked (flag_at (flags t)) 0 (get_or (map length tasks) t 0)
    go true e =
        let below = ltb-true t (length tasks) e in
        calls-of t lines ∙ ((are.done t below).numbers ∙ ap (unmarked (flag_at (flags t)) 0) (sym (get_or-map length tasks t [] 0 below)))
    go false e =
        let above = ltb-false t (length tasks) e in
        let many = length-map tasks length in
        calls-of t lines ∙ (ap (map line_number) (none-of (length tasks) t lines are.within (omega arith)) ∙ ap (unmarked (flag_at (flags t)) 0) (sym (get_or_past (map length tasks) t 0 (omega arith))))

-- a descriptor of its shape opens with what it holds before the first call
opens-as : (decls : Declared) (d : ℕ) → opening_of (shape_in decls d) ≡ opening_holds decls d
opens-as decls d = ap (λ ps. let c : Contents = record { layout = opening_layout (lengths_of decls d); plains = ps } in c) (opening_plains (plains_of decls d))

pub one-history : OneHistory
one-history decls tasks lines contents flags declared are =
    let calls = map line_call lines in
    let body : ℕ → Keyed Act → Type 0 = λ t l. line_call l ≡ get_or (get_or tasks t []) (line_number l) no_call in
    let alike = all-by-tasks (λ t (l : Keyed Act). l.1.deed.decls.now ≡ decls) (length tasks) lines are.within (λ t below. (are.done t below).alike) in
    let start : ℕ → Contents = λ d. opening_of (shape_in decls d) in
    let opens : (d : ℕ) → d < length decls.descrs → IsLeft (λ a. stepped d (act_said a)) (λ a. IsReadHere d (act_said a)) (start d) (contents d) (chain_at d lines) =
    λ d below. subst (λ (s : Shape). IsLeft (λ a. stepped d (act_said a)) (λ a. IsReadHere d (act_said a)) (opening_of s) (contents d) (chain_at d lines)) (are.shapes d below) (are.left d below) in
    let order = one-order decls start lines declared (λ d below. subst (IsContents decls d) (sym (opens-as decls d)) (opening-contents decls d)) alike (λ d below. (opens d below).agrees) in
    let world : world_of start ≡ opening decls = λ i d. (ap shown (opens-as decls d) ∙ sym (opening-shown decls d).items) i in
    record {
      history = record { calls = history-are decls tasks lines contents flags are };
      bodies = bodies-are tasks lines (all-by-tasks body (length tasks) lines are.within (λ t below. (are.done t below).bodies));
      played = record {
        answers = order.replies ∙ ap (λ (w : World). map (λ (o : Outcome). o.reply) (outcomes_from decls w calls)) world;
        states = λ d below. ap shown (opens d below).left ∙ (order.states d below ∙ ap (λ (w : World). world_left decls w calls d) world);
      };
    }
