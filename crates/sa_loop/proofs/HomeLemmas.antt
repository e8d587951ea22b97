-- The descriptors that a call is on: at most five, and one more of a range or not.
use Rattle.std.proofs.Common.{◌≡◌, inl, inr, ◌≤◌, ◌<◌, ◌+◌, ℕ, zero, suc, eqb, Bool, true, false, ◌||◌, cond, List, [], ◌∷◌, ◌++◌, length, get_or, Option, Some, None, refl, sym, ap, ◌∙◌, subst, arith, ◌-◌}
use Rattle.std.specs.List.{All, filter, range_with_len, list_any}
use Rattle.std.proofs.lemmas.Bool.{eqb-true}
use Rattle.std.proofs.lemmas.List.{append-nil, length-append}
use Rattle.std.proofs.lemmas.List.Elements.{All-filter}
use Rattle.std.proofs.lemmas.List.FromFn.{get_or-range_with_len, length-range_with_len}
use Rattle.sa_view.specs.declared.view.View.{View}
use Rattle.sa_call.specs.declared.call.Call.{Call}
use Rattle.sa_call.specs.declared.call.Operand.{Operand}
use Rattle.sa_call.specs.declared.call.Operand.TheVariants as operand
use Rattle.sa_call.specs.Decls.{Declared, home_of}
use Rattle.sa_call.specs.Forms.{descr_of}
use Rattle.sa_call.specs.Told.{homes_of, is_named, is_number, operand_is_at, output_is_at}
use Rattle.sa_call.specs.Valid.{IsCall}
use Rattle.sa_call.proofs.OpLemmas.{few-operands, on-none}
use Rattle.sa_loop.proofs.TakeLemmas.{home-alone}
use Rattle.sa_loop.proofs.WeighLemmas.{kept}

-- what passes one test or another is no more than what passes each
few-or : (p q : ℕ → Bool) (ds : List ℕ) → length (filter (λ d. p d || q d) ds) ≤ length (filter p ds) + length (filter q ds)
few-or p q [] = omega arith
few-or p q (d ∷ ds) = go (p d) (q d) (few-or p q ds)
  where
    go : (a b : Bool) → length (filter (λ d. p d || q d) ds) ≤ length (filter p ds) + length (filter q ds)
        → length (cond (a || b) (d ∷ filter (λ d. p d || q d) ds) (filter (λ d. p d || q d) ds)) ≤ length (cond a (d ∷ filter p ds) (filter p ds)) + length (cond b (d ∷ filter q ds) (filter q ds))
    go true true few = omega arith
    go true false few = omega arith
    go false true few = omega arith
    go false false few = omega arith

-- nothing passes a test that nothing passes
few-none : (ds : List ℕ) → length (filter (λ d. false) ds) ≡ 0
few-none [] = refl
few-none (d ∷ ds) = few-none ds

-- a number is once in a range at most
none-same : (k a n : ℕ) → k < a → length (filter (eqb k) (range_with_len a n)) ≡ 0
none-same k a zero before = refl
none-same k a (suc n) before = go (eqb k a) refl (none-same k (a + 1) n (omega arith))
  where
    go : (b : Bool) → eqb k a ≡ b → length (filter (eqb k) (range_with_len (a + 1) n)) ≡ 0 → length (cond b (a ∷ filter (eqb k) (range_with_len (a + 1) n)) (filter (eqb k) (range_with_len (a + 1) n))) ≡ 0
    go true e rest = let same = eqb-true k a e in absurd (omega arith)
    go false e rest = rest

few-same : (k a n : ℕ) → length (filter (eqb k) (range_with_len a n)) ≤ 1
few-same k a zero = omega arith
few-same k a (suc n) = go (eqb k a) refl (few-same k (a + 1) n) (λ before. none-same k (a + 1) n before)
  where
    go : (b : Bool) → eqb k a ≡ b → length (filter (eqb k) (range_with_len (a + 1) n)) ≤ 1 → (k < a + 1 → length (filter (eqb k) (range_with_len (a + 1) n)) ≡ 0)
        → length (cond b (a ∷ filter (eqb k) (range_with_len (a + 1) n)) (filter (eqb k) (range_with_len (a + 1) n))) ≤ 1
    go true e rest none = let same = eqb-true k a e in let no = none (omega arith) in omega arith
    go false e rest none = rest

-- the homes of views, of an output, and of a call on a whole descriptor

few-operand : (decls : Declared) (o : Operand) (n : ℕ) → length (filter (λ d. operand_is_at decls d o) (range_with_len 0 n)) ≤ 1
few-operand decls (operand.View v) n = few-same (home_of decls v.array) 0 n
few-operand decls (operand.Literal items) n = let none = few-none (range_with_len 0 n) in omega arith

few-viewed : (decls : Declared) (os : List Operand) (n : ℕ) → length (filter (λ d. list_any (operand_is_at decls d) os) (range_with_len 0 n)) ≤ length os
few-viewed decls [] n = let none = few-none (range_with_len 0 n) in omega arith
few-viewed decls (o ∷ os) n =
    let both = few-or (λ d. operand_is_at decls d o) (λ d. list_any (operand_is_at decls d) os) (range_with_len 0 n) in
    let one = few-operand decls o n in
    let rest = few-viewed decls os n in
    omega arith

few-put : (decls : Declared) (out : Option View) (n : ℕ) → length (filter (λ d. output_is_at decls d out) (range_with_len 0 n)) ≤ 1
few-put decls None n = let none = few-none (range_with_len 0 n) in omega arith
few-put decls (Some v) n = few-same (home_of decls v.array) 0 n

few-numbered : (decls : Declared) (call : Call) (n : ℕ) → descr_of call.op ≡ None → length (filter (λ d. is_number d (descr_of call.op)) (range_with_len 0 n)) ≡ 0
few-numbered decls call n none = ap (λ o. length (filter (λ d. is_number d o) (range_with_len 0 n))) none ∙ few-none (range_with_len 0 n)

few-named : (decls : Declared) (call : Call) (n : ℕ) → IsCall decls call → descr_of call.op ≡ None → length (filter (is_named decls call) (range_with_len 0 n)) ≤ 5
few-named decls call n valid none =
    let ds = range_with_len 0 n in
    let two = few-or (λ d. list_any (operand_is_at decls d) call.operands || output_is_at decls d call.out) (λ d. is_number d (descr_of call.op)) ds in
    let one = few-or (λ d. list_any (operand_is_at decls d) call.operands) (λ d. output_is_at decls d call.out) ds in
    let views = few-viewed decls call.operands n in
    let put = few-put decls call.out n in
    let number = few-numbered decls call n none in
    let few = few-operands call.op call.operands (on-none call.op none) valid.sorts in
    omega arith

-- a call is on at most five descriptors
pub few-homes : (decls : Declared) (call : Call) → IsCall decls call → length (homes_of decls call) ≤ 5
few-homes decls call valid = go (descr_of call.op) refl
  where
    go : (o : Option ℕ) → descr_of call.op ≡ o → length (homes_of decls call) ≤ 5
    go None none = few-named decls call (length decls.descrs) valid none
    go (Some number) at = let one = ap length (home-alone decls call number valid at).0 in omega arith

-- what was found of a range is no more than what is found of a longer one
before-more : (p : ℕ → Bool) (n k : ℕ) → length (filter p (range_with_len 0 n)) ≤ length (filter p (range_with_len 0 (n + k)))
before-more p n zero = subst (λ m. length (filter p (range_with_len 0 n)) ≤ length (filter p (range_with_len 0 m))) (let e : n ≡ n + 0 = omega arith in e) (omega arith)
before-more p n (suc k) =
    let rest = before-more p n k in
    let more = ap length (kept p (n + k)) ∙ length-append (filter p (range_with_len 0 (n + k))) (cond (p (n + k)) ((n + k) ∷ []) []) in
    let at = ap (λ m. length (filter p (range_with_len 0 m))) (let e : n + suc k ≡ n + k + 1 = omega arith in e) in
    omega arith

-- one more, where a call is on this descriptor: there is room for it, and it is above the others

found-more : (p : ℕ → Bool) (n : ℕ) → p n ≡ true → length (filter p (range_with_len 0 (n + 1))) ≡ length (filter p (range_with_len 0 n)) + 1
found-more p n passes =
    ap length (kept p n ∙ ap (λ (b : Bool). filter p (range_with_len 0 n) ++ cond b (n ∷ []) []) passes) ∙ length-append (filter p (range_with_len 0 n)) (n ∷ [])

pub home-room : (decls : Declared) (call : Call) (n : ℕ) → IsCall decls call → n < length decls.descrs → is_named decls call n ≡ true → length (filter (is_named decls call) (range_with_len 0 n)) < 5
home-room decls call n valid below named =
    let all = few-homes decls call valid in
    let more = found-more (is_named decls call) n named in
    let rest = before-more (is_named decls call) (n + 1) (length decls.descrs - (n + 1)) in
    let whole = ap (λ m. length (filter (is_named decls call) (range_with_len 0 m))) (let e : n + 1 + (length decls.descrs - (n + 1)) ≡ length decls.descrs = omega arith in e) in
    omega arith

pub home-above : (p : ℕ → Bool) (n : ℕ) → All (λ m. m < n) (filter p (range_with_len 0 n))
home-above p n = All-filter p (λ m. m < n) (range_with_len 0 n) below
  where
    below : (k d : ℕ) → k < length (range_with_len 0 n) → get_or (range_with_len 0 n) k d < n
    below k d within =
        let long = length-range_with_len 0 n in
        let at = get_or-range_with_len 0 n k d (omega arith) in
        omega arith

pub home-more : (p : ℕ → Bool) (n : ℕ) (before now : List ℕ) → before ≡ filter p (range_with_len 0 n) → p n ≡ true → now ≡ before ++ n ∷ [] → now ≡ filter p (range_with_len 0 (n + 1))
home-more p n before now so_far named more =
    more ∙ ap (λ xs. xs ++ n ∷ []) so_far ∙ sym (kept p n ∙ ap (λ (b : Bool). filter p (range_with_len 0 n) ++ cond b (n ∷ []) []) named)

pub home-other : (p : ℕ → Bool) (n : ℕ) (before now : List ℕ) → before ≡ filter p (range_with_len 0 n) → p n ≡ false → now ≡ before → now ≡ filter p (range_with_len 0 (n + 1))
home-other p n before now so_far other same =
    same ∙ so_far ∙ sym (kept p n ∙ ap (λ (b : Bool). filter p (range_with_len 0 n) ++ cond b (n ∷ []) []) other ∙ append-nil (filter p (range_with_len 0 n)))
