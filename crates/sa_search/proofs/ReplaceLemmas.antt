-- A text with its first occurrences of another replaced, from the first place on, and its size. Over lists alone.
use Rattle.std.proofs.Common.{◌≡◌, ◌≤◌, ◌<◌, ◌+◌, ◌-◌, ◌*◌, min, ℕ, zero, suc, true, false, List, [], ◌∷◌, ◌++◌, length, take, drop, refl, sym, ap, ap₂, ◌∙◌, inl, inr, arith, nat_eq}
use Rattle.std.specs.List.{starts_with}
use Rattle.std.specs.Str.{chars}
use Rattle.std.proofs.Math.Seq.{drop-nil}
use Rattle.std.proofs.lemmas.Bool.{cases_Bool, cond-true, cond-false}
use Rattle.sa_text.specs.Points.{occurs_at}
use Rattle.sa_text.specs.Texts.{text_size}
use Rattle.sa_text.proofs.PointLemmas.{text_size-append, text_size-cons}
use Rattle.sa_search.specs.Counts.{count_of}
use Rattle.sa_search.specs.Cuts.{IsCutFirst, StandsNowhere}
use Rattle.sa_search.specs.Replaces.{replaced}
use Rattle.sa_search.proofs.CountLemmas.{count-hit, count-miss, drop-rest}
use Rattle.sa_search.proofs.CutLemmas.{stands, stands-within, size-chars}

module _ (old new : List ℕ) where
  pub replaced-zero : (cs : List ℕ) → replaced old new 0 0 cs ≡ cs
  replaced-zero [] = refl
  replaced-zero (c ∷ cs) = refl

  replaced-hit : (n c : ℕ) (cs : List ℕ) → starts_with nat_eq (c ∷ cs) old ≡ true → replaced old new (suc n) 0 (c ∷ cs) ≡ new ++ replaced old new n (length old - 1) cs
  replaced-hit n c cs e = cond-true (starts_with nat_eq (c ∷ cs) old) (new ++ replaced old new n (length old - 1) cs) (c ∷ replaced old new (suc n) 0 cs) e

  replaced-miss : (n c : ℕ) (cs : List ℕ) → starts_with nat_eq (c ∷ cs) old ≡ false → replaced old new n 0 (c ∷ cs) ≡ c ∷ replaced old new n 0 cs
  replaced-miss zero c cs e = ap (λ t. c ∷ t) (sym (replaced-zero cs))
  replaced-miss (suc n) c cs e = cond-false (starts_with nat_eq (c ∷ cs) old) (new ++ replaced old new n (length old - 1) cs) (c ∷ replaced old new (suc n) 0 cs) e

  replaced-skip : (n skip : ℕ) (cs : List ℕ) → replaced old new n skip cs ≡ replaced old new n 0 (drop skip cs)
  replaced-skip n zero cs = refl
  replaced-skip n (suc skip) [] = refl
  replaced-skip n (suc skip) (c ∷ cs) = replaced-skip n skip cs

  -- the first place
  pub replaced-first : (n : ℕ) (cs : List ℕ) (p : ℕ) → 0 < length old → occurs_at cs old p ≡ true → ((k : ℕ) → k < p → occurs_at cs old k ≡ false)
      → replaced old new (suc n) 0 cs ≡ take p cs ++ (new ++ replaced old new n 0 (drop (p + length old) cs))
  replaced-first n [] p some here before = let within = stands-within [] old p some here in absurd (omega arith)
  replaced-first n (c ∷ cs) zero some here before =
      let e : 0 + length old ≡ length old = omega arith in
      replaced-hit n c cs here
      ∙ ap (λ t. new ++ t) (replaced-skip n (length old - 1) cs ∙ ap (replaced old new n 0) (drop-rest c (length old) cs some ∙ sym (ap (λ k. drop k (c ∷ cs)) e)))
  replaced-first n (c ∷ cs) (suc p) some here before =
      let e : suc p + length old ≡ suc (p + length old) = omega arith in
      replaced-miss (suc n) c cs (before 0 (omega arith))
      ∙ ap (λ t. c ∷ t) (replaced-first n cs p some here (λ k l. before (suc k) (omega arith)))
      ∙ sym (ap (λ k. c ∷ (take p cs ++ (new ++ replaced old new n 0 (drop k (c ∷ cs))))) e)

  pub replaced-none : (n : ℕ) (cs : List ℕ) → StandsNowhere cs old → replaced old new n 0 cs ≡ cs
  replaced-none n [] none = refl
  replaced-none n (c ∷ cs) none = replaced-miss n c cs (none 0) ∙ ap (λ t. c ∷ t) (replaced-none n cs (λ k. none (suc k)))

  -- as many places are replaced by two numbers that are as great up to the count
  pub replaced-same : (m n skip : ℕ) (cs : List ℕ) → min m (count_of old skip cs) ≡ min n (count_of old skip cs) → replaced old new m skip cs ≡ replaced old new n skip cs
  replaced-same m n skip [] e = refl
  replaced-same m n (suc skip) (c ∷ cs) e = replaced-same m n skip cs e
  replaced-same zero zero zero (c ∷ cs) e = refl
  replaced-same zero (suc n) zero (c ∷ cs) e = elim (cases_Bool (starts_with nat_eq (c ∷ cs) old)) [
    | inl t ↦ let k = count-hit old cs c t in absurd (omega arith)
    | inr t ↦ let k = count-miss old cs c t in
        replaced-miss 0 c cs t ∙ ap (λ r. c ∷ r) (replaced-same zero (suc n) zero cs (omega arith)) ∙ sym (replaced-miss (suc n) c cs t)
  ]
  replaced-same (suc m) zero zero (c ∷ cs) e = elim (cases_Bool (starts_with nat_eq (c ∷ cs) old)) [
    | inl t ↦ let k = count-hit old cs c t in absurd (omega arith)
    | inr t ↦ let k = count-miss old cs c t in
        replaced-miss (suc m) c cs t ∙ ap (λ r. c ∷ r) (replaced-same (suc m) zero zero cs (omega arith)) ∙ sym (replaced-miss 0 c cs t)
  ]
  replaced-same (suc m) (suc n) zero (c ∷ cs) e = elim (cases_Bool (starts_with nat_eq (c ∷ cs) old)) [
    | inl t ↦ let k = count-hit old cs c t in
        replaced-hit m c cs t ∙ ap (λ r. new ++ r) (replaced-same m n (length old - 1) cs (omega arith)) ∙ sym (replaced-hit n c cs t)
    | inr t ↦ let k = count-miss old cs c t in
        replaced-miss (suc m) c cs t ∙ ap (λ r. c ∷ r) (replaced-same (suc m) (suc n) zero cs (omega arith)) ∙ sym (replaced-miss (suc n) c cs t)
  ]

  -- sizes
  part-size : (c : ℕ) (cs : List ℕ) → 0 < length old → starts_with nat_eq (c ∷ cs) old ≡ true → text_size (c ∷ cs) ≡ text_size old + text_size (drop (length old - 1) cs)
  part-size c cs some here =
      ap text_size (stands (c ∷ cs) old 0 here ∙ ap (λ t. old ++ t) (sym (drop-rest c (length old) cs some)))
      ∙ text_size-append old (drop (length old - 1) cs)

  pub replaced-size : 0 < length old → (n skip : ℕ) (cs : List ℕ) → n ≤ count_of old skip cs
      → text_size (replaced old new n skip cs) + n * text_size old ≡ text_size (drop skip cs) + n * text_size new
  replaced-size some n skip [] h =
      let none : n ≡ 0 = omega arith in
      let one = ap (λ k. k * text_size old) none in
      let two = ap (λ k. k * text_size new) none in
      let three = ap text_size (drop-nil {A = ℕ} skip) in
      omega arith
  replaced-size some n (suc skip) (c ∷ cs) h = replaced-size some n skip cs h
  replaced-size some zero zero (c ∷ cs) h = omega arith
  replaced-size some (suc n) zero (c ∷ cs) h = elim (cases_Bool (starts_with nat_eq (c ∷ cs) old)) [
    | inl t ↦
        let k = count-hit old cs c t in
        let more = replaced-size some n (length old - 1) cs (omega arith) in
        let one = ap text_size (replaced-hit n c cs t) ∙ text_size-append new (replaced old new n (length old - 1) cs) in
        let two = part-size c cs some t in
        omega arith
    | inr t ↦
        let k = count-miss old cs c t in
        let more = replaced-size some (suc n) zero cs (omega arith) in
        let one = ap text_size (replaced-miss (suc n) c cs t) ∙ text_size-cons c (replaced old new (suc n) 0 cs) in
        let two = text_size-cons c cs in
        omega arith
  ]

  -- a cut takes the first place off
  pub replaced-cut : (bytes first behind : List ℕ) (left : ℕ) → 0 < left → 0 < length old → IsCutFirst bytes old first behind
      → replaced old new left 0 (chars bytes) ≡ chars first ++ (new ++ replaced old new (left - 1) 0 (chars behind))
  replaced-cut bytes first behind left more some cut =
      let e : left ≡ suc (left - 1) = omega arith in
      ap (λ k. replaced old new k 0 (chars bytes)) e
      ∙ replaced-first (left - 1) (chars bytes) (length (chars first)) some cut.place.here cut.before
      ∙ ap₂ (λ f r. f ++ (new ++ replaced old new (left - 1) 0 r)) (sym cut.place.front) (sym cut.back)

  pub replaced-cut-size : (bytes first behind : List ℕ) (left : ℕ) → 0 < left → 0 < length old → IsCutFirst bytes old first behind
      → text_size (replaced old new left 0 (chars bytes)) ≡ length first + (text_size new + text_size (replaced old new (left - 1) 0 (chars behind)))
  replaced-cut-size bytes first behind left more some cut =
      let rest = replaced old new (left - 1) 0 (chars behind) in
      let one = ap text_size (replaced-cut bytes first behind left more some cut) ∙ text_size-append (chars first) (new ++ rest) in
      let two = text_size-append new rest in
      let three = size-chars first cut.place.front_utf8 in
      omega arith

  pub replaced-end : (left : ℕ) (cs : List ℕ) → left ≡ 0 → replaced old new left 0 cs ≡ cs
  replaced-end left cs e = ap (λ k. replaced old new k 0 cs) e ∙ replaced-zero cs
