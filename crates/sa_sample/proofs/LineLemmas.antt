-- The lines of a sample, one after another, and what has been written of them.
use Rattle.std.proofs.Common.{◌≡◌, ℕ, suc, ◌+◌, ◌-◌, ◌<◌, List, [], ◌∷◌, ◌++◌, refl, sym, ap, ◌∙◌, arith, codes, append_assoc}
use Rattle.std.specs.List.{flat_map}
use Rattle.std.proofs.lemmas.Grind.{flat_map-append}
use Rattle.sa_lines.specs.Lines.{line}
use Rattle.sa_lines.specs.Tokens.{joined}
use Rattle.sa_sample.specs.Samples.{after_call, after_calls, call_lines, call_tokens, drawn_call, task_lines}

-- bytes that are written behind others, part by part
pub seven-parts : (o a b c d e f g : List ℕ) (p q r s t u v : List ℕ)
    → a ≡ o ++ p → b ≡ a ++ q → c ≡ b ++ r → d ≡ c ++ s → e ≡ d ++ t → f ≡ e ++ u → g ≡ f ++ v
    → g ≡ o ++ (p ++ (q ++ (r ++ (s ++ (t ++ (u ++ v))))))
seven-parts o a b c d e f g p q r s t u v e1 e2 e3 e4 e5 e6 e7 = rw (e7, e6, e5, e4, e3, e2, e1) (simp append_assoc)

pub three-parts : (o a b d : List ℕ) (p q t i w : List ℕ) → a ≡ o ++ (p ++ q) → b ≡ a ++ t → d ≡ b ++ (i ++ w) → d ≡ o ++ (p ++ (q ++ (t ++ (i ++ w))))
three-parts o a b d p q t i w e1 e2 e3 = rw (e3, e2, e1) (simp append_assoc)

-- a number that is below another leaves one more
less-one : (n k : ℕ) → k < n → n - k ≡ suc (n - (k + 1))
less-one n k below = omega arith

pub call_lines-suc : (n x : ℕ) → call_lines (suc n) x ≡ joined (call_tokens (drawn_call x)) ∷ call_lines n (after_call x)
unfolding call_lines
call_lines-suc n x = refl

after_calls-suc : (n x : ℕ) → after_calls (suc n) x ≡ after_calls n (after_call x)
unfolding after_calls
after_calls-suc n x = refl

pub task_lines-suc : (n x : ℕ) → task_lines (suc n) x ≡ codes "task" ∷ (call_lines 64 x ++ task_lines n (after_calls 64 x))
unfolding task_lines
task_lines-suc n x = refl

-- the first of the calls that are left, and the calls behind it
pub first-call : (n k x : ℕ) → k < n → call_lines (n - k) x ≡ joined (call_tokens (drawn_call x)) ∷ call_lines (n - (k + 1)) (after_call x)
first-call n k x below = ap (λ m. call_lines m x) (less-one n k below) ∙ call_lines-suc (n - (k + 1)) x

pub after-first : (n k x : ℕ) → k < n → after_calls (n - k) x ≡ after_calls (n - (k + 1)) (after_call x)
after-first n k x below = ap (λ m. after_calls m x) (less-one n k below) ∙ after_calls-suc (n - (k + 1)) x

pub first-task : (n k x : ℕ) → k < n → task_lines (n - k) x ≡ codes "task" ∷ (call_lines 64 x ++ task_lines (n - (k + 1)) (after_calls 64 x))
first-task n k x below = ap (λ m. task_lines m x) (less-one n k below) ∙ task_lines-suc (n - (k + 1)) x

-- what is written, and what is left to write, after one more call
pub call-written : (n k x : ℕ) (o a b : List ℕ) → k < n → a ≡ o ++ joined (call_tokens (drawn_call x)) → b ≡ a ++ 10 ∷ []
    → b ++ flat_map line (call_lines (n - (k + 1)) (after_call x)) ≡ o ++ flat_map line (call_lines (n - k) x)
call-written n k x o a b below first last =
    let call : List ℕ = joined (call_tokens (drawn_call x)) in
    let rest : List ℕ = flat_map line (call_lines (n - (k + 1)) (after_call x)) in
    let left : o ++ flat_map line (call_lines (n - k) x) ≡ o ++ ((call ++ 10 ∷ []) ++ rest) = ap (λ ls. o ++ flat_map line ls) (first-call n k x below) in
    ap (λ bs. bs ++ rest) (last ∙ ap (λ bs. bs ++ 10 ∷ []) first) ∙ (rest-behind o call (10 ∷ []) rest ∙ sym left)
  where
    rest-behind : (o a b r : List ℕ) → ((o ++ a) ++ b) ++ r ≡ o ++ ((a ++ b) ++ r)
    rest-behind o a b r = simp append_assoc

-- what is written, and what is left to write, after one more task
pub task-written : (n k x y : ℕ) (o a b : List ℕ) → k < n → a ≡ o ++ codes "task\n" → b ≡ a ++ flat_map line (call_lines 64 x) → y ≡ after_calls 64 x
    → b ++ flat_map line (task_lines (n - (k + 1)) y ++ codes "end" ∷ []) ≡ o ++ flat_map line (task_lines (n - k) x ++ codes "end" ∷ [])
task-written n k x y o a b below first last drawn =
    let calls : List (List ℕ) = call_lines 64 x in
    let rest : List (List ℕ) = task_lines (n - (k + 1)) y in
    let end : List (List ℕ) = codes "end" ∷ [] in
    let tasks : task_lines (n - k) x ≡ codes "task" ∷ (calls ++ rest) = first-task n k x below ∙ ap (λ s. codes "task" ∷ (calls ++ task_lines (n - (k + 1)) s)) (sym drawn) in
    ap (λ bs. bs ++ flat_map line (rest ++ end)) (last ∙ ap (λ bs. bs ++ flat_map line calls) first)
    ∙ (task-behind o calls rest end ∙ sym (ap (λ ls. o ++ flat_map line (ls ++ end)) tasks))
  where
    task-behind : (o : List ℕ) (cs rs es : List (List ℕ)) → ((o ++ codes "task\n") ++ flat_map line cs) ++ flat_map line (rs ++ es) ≡ o ++ flat_map line (codes "task" ∷ (cs ++ rs) ++ es)
    task-behind o cs rs es = simp (append_assoc, flat_map-append)

-- nothing is left at the end
pub no-call : (n k x : ℕ) → n ≡ k → call_lines (n - k) x ≡ []
unfolding call_lines
no-call n k x same = ap (λ m. call_lines m x) (none-left n k same)
  where
    none-left : (n k : ℕ) → n ≡ k → n - k ≡ 0
    none-left n k same = omega arith

pub after-none : (n k x : ℕ) → n ≡ k → after_calls (n - k) x ≡ x
unfolding after_calls
after-none n k x same = ap (λ m. after_calls m x) (none-left n k same)
  where
    none-left : (n k : ℕ) → n ≡ k → n - k ≡ 0
    none-left n k same = omega arith

pub no-task : (n k x : ℕ) → n ≡ k → task_lines (n - k) x ≡ []
unfolding task_lines
no-task n k x same = ap (λ m. task_lines m x) (none-left n k same)
  where
    none-left : (n k : ℕ) → n ≡ k → n - k ≡ 0
    none-left n k same = omega arith
