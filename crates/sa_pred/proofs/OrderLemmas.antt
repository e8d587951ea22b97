-- UTF-8 orders texts as their code points do. No number need be a scalar value here.
use Rattle.std.proofs.Common.{◌≡◌, ◌<◌, ◌≤◌, ◌+◌, ◌/◌, ◌%◌, ℕ, Bool, true, false, cond, ltb, eqb, List, [], ◌∷◌, ◌++◌, length, refl, sym, ap, subst, ◌∙◌, inl, inr, arith}
use Rattle.std.specs.Ordering.{nat_cmp, ordering_then, ordering_reverse}
use Rattle.std.specs.declared.cmp.Ordering.TheVariants.{Less, Equal, Greater}
use Rattle.std.specs.Cmp.Lexicographic.{slice_cmp}
use Rattle.std.proofs.Math.Utf8.{encode, encodes}
use Rattle.std.proofs.lemmas.Bool.{cases_lt, cases_order, lt-ltb, le-ltb, eq-eqb, ne_eqb, ltb-true, ltb-false, cond-true, cond-false}
use Rattle.std.proofs.lemmas.Cmp.{nat_list_cmp_total}
use Rattle.std.proofs.lemmas.Str.{length-encode, len_utf8_bounds}
use Rattle.sa_pred.specs.Order.{BytesOrderTexts}

-- the first list comes before the second, as its number is the less at the first place where they differ
data Below : List ℕ → List ℕ → Type 0 where
  here : {x y : ℕ} {xs ys : List ℕ} → x < y → Below (x ∷ xs) (y ∷ ys)
  later : {x y : ℕ} {xs ys : List ℕ} → x ≡ y → Below xs ys → Below (x ∷ xs) (y ∷ ys)

digit : {x y : ℕ} {xs ys : List ℕ} → x ≤ y → (x ≡ y → Below xs ys) → Below (x ∷ xs) (y ∷ ys)
digit {x = x} {y = y} h more = elim (cases_lt x y) [
  | inl l ↦ here l
  | inr l ↦ let e : x ≡ y = omega arith in later e (more e)
]

cmp-less : (x y : ℕ) → x < y → nat_cmp x y ≡ Less
cmp-less x y h = cond-true (ltb x y) Less (cond (eqb x y) Equal Greater) (lt-ltb x y h)

cmp-same : (x y : ℕ) → x ≡ y → nat_cmp x y ≡ Equal
cmp-same x y e = cond-false (ltb x y) Less (cond (eqb x y) Equal Greater) (le-ltb x y (omega arith)) ∙ cond-true (eqb x y) Equal Greater (eq-eqb x y e)

cmp-greater : (x y : ℕ) → y < x → nat_cmp x y ≡ Greater
cmp-greater x y h =
    cond-false (ltb x y) Less (cond (eqb x y) Equal Greater) (le-ltb x y (omega arith)) ∙ cond-false (eqb x y) Equal Greater (ne_eqb x y (λ e. absurd (omega arith)))

below-less : {xs ys : List ℕ} → Below xs ys → slice_cmp nat_cmp xs ys ≡ Less
below-less (here {x = x} {y = y} {xs = xs} {ys = ys} h) = ap (λ r. ordering_then r (slice_cmp nat_cmp xs ys)) (cmp-less x y h)
below-less (later {x = x} {y = y} {xs = xs} {ys = ys} e more) = ap (λ r. ordering_then r (slice_cmp nat_cmp xs ys)) (cmp-same x y e) ∙ below-less more

-- the four widths of a code point in UTF-8, each with its bytes: digits in base 64 behind a first byte that tells the width
data Width (c : ℕ) (bytes : List ℕ) : Type 0 where
  one : c < 128 → bytes ≡ c ∷ [] → Width c bytes
  two : 128 ≤ c → c < 2048 → bytes ≡ (192 + c / 64) ∷ (128 + c % 64) ∷ [] → Width c bytes
  three : 2048 ≤ c → c < 65536 → bytes ≡ (224 + c / 4096) ∷ (128 + (c / 64) % 64) ∷ (128 + c % 64) ∷ [] → Width c bytes
  four : 65536 ≤ c → bytes ≡ (240 + c / 262144) ∷ (128 + (c / 4096) % 64) ∷ (128 + (c / 64) % 64) ∷ (128 + c % 64) ∷ [] → Width c bytes

width : (c : ℕ) → Width c (encode c)
unfolding encode
width c = go (ltb c 128) (ltb c 2048) (ltb c 65536) refl refl refl
  where
    go : (x y z : Bool) → ltb c 128 ≡ x → ltb c 2048 ≡ y → ltb c 65536 ≡ z
        → Width c (cond x (c ∷ []) (cond y ((192 + c / 64) ∷ (128 + c % 64) ∷ []) (cond z ((224 + c / 4096) ∷ (128 + (c / 64) % 64) ∷ (128 + c % 64) ∷ []) ((240 + c / 262144) ∷ (128 + (c / 4096) % 64) ∷ (128 + (c / 64) % 64) ∷ (128 + c % 64) ∷ []))))
    go true y z e f g = one (ltb-true c 128 e) refl
    go false true z e f g = two (ltb-false c 128 e) (ltb-true c 2048 f) refl
    go false false true e f g = three (ltb-false c 2048 f) (ltb-true c 65536 g) refl
    go false false false e f g = four (ltb-false c 65536 g) refl

moved : (bs cs bs' cs' xs ys : List ℕ) → bs ≡ bs' → cs ≡ cs' → Below (bs' ++ xs) (cs' ++ ys) → Below (bs ++ xs) (cs ++ ys)
moved bs cs bs' cs' xs ys e f below = subst (λ b. Below (b ++ xs) (cs ++ ys)) (sym e) (subst (λ b. Below (bs' ++ xs) (b ++ ys)) (sym f) below)

-- the lesser of two code points has the lesser bytes, whatever follows
less : (x y : ℕ) (bs cs xs ys : List ℕ) → x < y → Width x bs → Width y cs → Below (bs ++ xs) (cs ++ ys)
less x y bs cs xs ys h (one hx ex) (one hy ey) = moved bs cs _ _ xs ys ex ey (here h)
less x y bs cs xs ys h (one hx ex) (two ly hy ey) = moved bs cs _ _ xs ys ex ey (here (omega arith))
less x y bs cs xs ys h (one hx ex) (three ly hy ey) = moved bs cs _ _ xs ys ex ey (here (omega arith))
less x y bs cs xs ys h (one hx ex) (four ly ey) = moved bs cs _ _ xs ys ex ey (here (omega arith))
less x y bs cs xs ys h (two lx hx ex) (one hy ey) = absurd (omega arith)
less x y bs cs xs ys h (two lx hx ex) (two ly hy ey) = moved bs cs _ _ xs ys ex ey (digit (omega arith) (λ e. here (omega arith)))
less x y bs cs xs ys h (two lx hx ex) (three ly hy ey) = moved bs cs _ _ xs ys ex ey (here (omega arith))
less x y bs cs xs ys h (two lx hx ex) (four ly ey) = moved bs cs _ _ xs ys ex ey (here (omega arith))
less x y bs cs xs ys h (three lx hx ex) (one hy ey) = absurd (omega arith)
less x y bs cs xs ys h (three lx hx ex) (two ly hy ey) = absurd (omega arith)
less x y bs cs xs ys h (three lx hx ex) (three ly hy ey) = moved bs cs _ _ xs ys ex ey (digit (omega arith) (λ e. digit (omega arith) (λ f. here (omega arith))))
less x y bs cs xs ys h (three lx hx ex) (four ly ey) = moved bs cs _ _ xs ys ex ey (here (omega arith))
less x y bs cs xs ys h (four lx ex) (one hy ey) = absurd (omega arith)
less x y bs cs xs ys h (four lx ex) (two ly hy ey) = absurd (omega arith)
less x y bs cs xs ys h (four lx ex) (three ly hy ey) = absurd (omega arith)
less x y bs cs xs ys h (four lx ex) (four ly ey) =
    moved bs cs _ _ xs ys ex ey (digit (omega arith) (λ e. digit (omega arith) (λ f. digit (omega arith) (λ g. here (omega arith)))))

-- a front that two lists share decides nothing, and one that stands alone is greater than none
same-front : (bs xs ys : List ℕ) → slice_cmp nat_cmp (bs ++ xs) (bs ++ ys) ≡ slice_cmp nat_cmp xs ys
same-front [] xs ys = refl
same-front (b ∷ bs) xs ys = ap (λ r. ordering_then r (slice_cmp nat_cmp (bs ++ xs) (bs ++ ys))) (cmp-same b b refl) ∙ same-front bs xs ys

none-less : (bs xs : List ℕ) → 0 < length bs → slice_cmp nat_cmp [] (bs ++ xs) ≡ Less
none-less [] xs h = absurd (omega arith)
none-less (b ∷ bs) xs h = refl

some : (c : ℕ) → 0 < length (encode c)
some c = let e = length-encode c in let h = len_utf8_bounds c in omega (arith, h.0)

pub bytes_order : BytesOrderTexts
bytes_order [] [] = refl
bytes_order [] (c ∷ cs) = none-less (encode c) (encodes cs) (some c)
bytes_order (c ∷ cs) [] = nat_list_cmp_total.antisymm (encodes (c ∷ cs)) [] ∙ ap ordering_reverse (none-less (encode c) (encodes cs) (some c))
bytes_order (x ∷ xs) (y ∷ ys) = elim (cases_order x y) [
  | inl e ↦
      ap (λ c. slice_cmp nat_cmp (encode c ++ encodes xs) (encode y ++ encodes ys)) e
      ∙ same-front (encode y) (encodes xs) (encodes ys)
      ∙ bytes_order xs ys
      ∙ sym (ap (λ r. ordering_then r (slice_cmp nat_cmp xs ys)) (cmp-same x y e))
  | inr (inl h) ↦
      below-less (less x y (encode x) (encode y) (encodes xs) (encodes ys) h (width x) (width y))
      ∙ sym (ap (λ r. ordering_then r (slice_cmp nat_cmp xs ys)) (cmp-less x y h))
  | inr (inr h) ↦
      nat_list_cmp_total.antisymm (encodes (x ∷ xs)) (encodes (y ∷ ys))
      ∙ ap ordering_reverse (below-less (less y x (encode y) (encode x) (encodes ys) (encodes xs) h (width y) (width x)))
      ∙ sym (ap (λ r. ordering_then r (slice_cmp nat_cmp xs ys)) (cmp-greater x y h))
]
