-- A text with another at its first places. Over lists alone.
use Rattle.std.proofs.Common.{◌≡◌, ◌≤◌, ◌<◌, ◌+◌, ◌-◌, ◌*◌, min, ℕ, zero, suc, List, [], ◌∷◌, ◌++◌, length, take, drop, refl, sym, ap, ap₂, ◌∙◌, arith}
use Rattle.std.specs.Str.{chars}
use Rattle.sa_text.specs.Points.{AreParts}
use Rattle.sa_text.specs.Texts.{text_size}
use Rattle.sa_text.proofs.PointLemmas.{text_size-append, text_size-cons}
use Rattle.sa_search.specs.Replaces.{spread}
use Rattle.sa_search.proofs.CutLemmas.{size-chars}

module _ (new : List ℕ) where
  pub spread-same : (m n : ℕ) (cs : List ℕ) → min m (length cs + 1) ≡ min n (length cs + 1) → spread new m cs ≡ spread new n cs
  spread-same zero zero cs e = refl
  spread-same zero (suc n) cs e = absurd (omega arith)
  spread-same (suc m) zero cs e = absurd (omega arith)
  spread-same (suc m) (suc n) [] e = refl
  spread-same (suc m) (suc n) (c ∷ cs) e = ap (λ t. new ++ c ∷ t) (spread-same m n cs (omega arith))

  pub spread-size : (n : ℕ) (cs : List ℕ) → n ≤ length cs + 1 → text_size (spread new n cs) ≡ n * text_size new + text_size cs
  spread-size zero cs h = omega arith
  spread-size (suc n) [] h =
      let none : n ≡ 0 = omega arith in
      let one = ap (λ k. k * text_size new) none in
      omega arith
  spread-size (suc n) (c ∷ cs) h =
      let more = spread-size n cs (omega arith) in
      let one = text_size-append new (c ∷ spread new n cs) in
      let two = text_size-cons c (spread new n cs) in
      let three = text_size-cons c cs in
      omega arith

  pub spread-first : (left : ℕ) (cs : List ℕ) → 0 < left → 1 ≤ length cs → spread new left cs ≡ new ++ (take 1 cs ++ spread new (left - 1) (drop 1 cs))
  spread-first zero cs more h = absurd (omega arith)
  spread-first (suc n) [] more h = absurd (omega arith)
  spread-first (suc n) (c ∷ cs) more h = let e : suc n - 1 ≡ n = omega arith in sym (ap (λ k. new ++ c ∷ spread new k cs) e)

  pub spread-last : (left : ℕ) (cs : List ℕ) → 0 < left → length cs < 1 → spread new left cs ≡ new
  spread-last zero cs more h = absurd (omega arith)
  spread-last (suc n) [] more h = refl
  spread-last (suc n) (c ∷ cs) more h = absurd (omega arith)

  pub spread-some : (left : ℕ) (cs : List ℕ) → 0 < left → text_size new ≤ text_size (spread new left cs)
  spread-some zero cs more = absurd (omega arith)
  spread-some (suc n) [] more = omega arith
  spread-some (suc n) (c ∷ cs) more = let e = text_size-append new (c ∷ spread new n cs) in omega arith

  -- one code point is cut off
  pub spread-cut : (bytes point behind : List ℕ) (left : ℕ) → 0 < left → AreParts bytes 1 point behind
      → spread new left (chars bytes) ≡ new ++ (chars point ++ spread new (left - 1) (chars behind))
  spread-cut bytes point behind left more parts =
      spread-first left (chars bytes) more parts.within
      ∙ ap₂ (λ f r. new ++ (f ++ spread new (left - 1) r)) (sym parts.front) (sym parts.back)

  pub spread-cut-size : (bytes point behind : List ℕ) (left : ℕ) → 0 < left → AreParts bytes 1 point behind
      → text_size (spread new left (chars bytes)) ≡ text_size new + (length point + text_size (spread new (left - 1) (chars behind)))
  spread-cut-size bytes point behind left more parts =
      let rest = spread new (left - 1) (chars behind) in
      let one = ap text_size (spread-cut bytes point behind left more parts) ∙ text_size-append new (chars point ++ rest) in
      let two = text_size-append (chars point) rest in
      let three = size-chars point parts.front_utf8 in
      omega arith

  pub spread-end : (left : ℕ) (cs : List ℕ) → left ≡ 0 → spread new left cs ≡ cs
  spread-end left cs e = ap (λ k. spread new k cs) e
