-- How often a text stands in another, from the first place on. Over lists alone.
use Rattle.std.proofs.Common.{◌≡◌, ◌≤◌, ◌<◌, ◌+◌, ◌-◌, ℕ, zero, suc, true, false, cond, eqb, List, [], ◌∷◌, length, drop, refl, sym, ap, ◌∙◌, inl, inr, arith, nat_eq}
use Rattle.std.specs.List.{starts_with}
use Rattle.std.specs.Str.{chars}
use Rattle.std.proofs.lemmas.Bool.{cases_Bool, cond-true, cond-false, eq-eqb, ne_eqb}
use Rattle.sa_text.specs.Points.{occurs_at}
use Rattle.sa_search.specs.Counts.{count_of}
use Rattle.sa_search.specs.Cuts.{StandsNowhere, IsCutFirst}
use Rattle.sa_search.proofs.CutLemmas.{stands-within}

pub count-hit : (b cs : List ℕ) (c : ℕ) → starts_with nat_eq (c ∷ cs) b ≡ true → count_of b 0 (c ∷ cs) ≡ suc (count_of b (length b - 1) cs)
count-hit b cs c e = cond-true (starts_with nat_eq (c ∷ cs) b) (suc (count_of b (length b - 1) cs)) (count_of b 0 cs) e

pub count-miss : (b cs : List ℕ) (c : ℕ) → starts_with nat_eq (c ∷ cs) b ≡ false → count_of b 0 (c ∷ cs) ≡ count_of b 0 cs
count-miss b cs c e = cond-false (starts_with nat_eq (c ∷ cs) b) (suc (count_of b (length b - 1) cs)) (count_of b 0 cs) e

count-skip : (b : List ℕ) (skip : ℕ) (cs : List ℕ) → count_of b skip cs ≡ count_of b 0 (drop skip cs)
count-skip b zero cs = refl
count-skip b (suc skip) [] = refl
count-skip b (suc skip) (c ∷ cs) = count-skip b skip cs

-- a text that is not empty takes one code point, and the others behind it
pub drop-rest : (c n : ℕ) (cs : List ℕ) → 0 < n → drop (n - 1) cs ≡ drop n (c ∷ cs)
drop-rest c n cs h = let e : suc (n - 1) ≡ n = omega arith in ap (λ k. drop k (c ∷ cs)) e

pub count-first : (b cs : List ℕ) (p : ℕ) → 0 < length b → occurs_at cs b p ≡ true → ((k : ℕ) → k < p → occurs_at cs b k ≡ false)
    → count_of b 0 cs ≡ suc (count_of b 0 (drop (p + length b) cs))
count-first b [] p some here before = let within = stands-within [] b p some here in absurd (omega arith)
count-first b (c ∷ cs) zero some here before =
    let e : 0 + length b ≡ length b = omega arith in
    count-hit b cs c here ∙ ap suc (count-skip b (length b - 1) cs ∙ ap (count_of b 0) (drop-rest c (length b) cs some ∙ sym (ap (λ k. drop k (c ∷ cs)) e)))
count-first b (c ∷ cs) (suc p) some here before =
    let e : suc p + length b ≡ suc (p + length b) = omega arith in
    count-miss b cs c (before 0 (omega arith))
    ∙ count-first b cs p some here (λ k l. before (suc k) (omega arith))
    ∙ sym (ap (λ k. suc (count_of b 0 (drop k (c ∷ cs)))) e)

pub count-none : (b cs : List ℕ) → StandsNowhere cs b → count_of b 0 cs ≡ 0
count-none b [] none = refl
count-none b (c ∷ cs) none = count-miss b cs c (none 0) ∙ count-none b cs (λ k. none (suc k))

-- it stands no more often than there are code points
pub count-most : (b : List ℕ) (skip : ℕ) (cs : List ℕ) → count_of b skip cs ≤ length cs
count-most b skip [] = omega arith
count-most b (suc skip) (c ∷ cs) = let more = count-most b skip cs in omega arith
count-most b zero (c ∷ cs) = elim (cases_Bool (starts_with nat_eq (c ∷ cs) b)) [
  | inl t ↦ let e = count-hit b cs c t in let more = count-most b (length b - 1) cs in omega arith
  | inr t ↦ let e = count-miss b cs c t in let more = count-most b 0 cs in omega arith
]

-- what is defined apart for the empty text
pub when-some : {A : Type 0} (b : List ℕ) (x y : A) → 0 < length b → cond (eqb (length b) 0) x y ≡ y
when-some b x y some = cond-false (eqb (length b) 0) x y (ne_eqb (length b) 0 (λ e. absurd (omega arith)))

pub when-empty : {A : Type 0} (b : List ℕ) (x y : A) → length b ≡ 0 → cond (eqb (length b) 0) x y ≡ x
when-empty b x y e = cond-true (eqb (length b) 0) x y (eq-eqb (length b) 0 e)

-- a cut takes one occurrence off
pub count-cut : (bytes part first behind : List ℕ) → 0 < length part → IsCutFirst bytes part first behind → count_of part 0 (chars bytes) ≡ suc (count_of part 0 (chars behind))
count-cut bytes part first behind some cut =
    count-first part (chars bytes) (length (chars first)) some cut.place.here cut.before ∙ ap (λ t. suc (count_of part 0 t)) (sym cut.back)
