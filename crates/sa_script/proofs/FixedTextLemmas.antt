-- Bytes and units one after another, of which no more are kept than a list may have.
use Rattle.std.proofs.Common.{◌≡◌, ◌≤◌, ◌<◌, ◌+◌, ℕ, zero, suc, ◌-◌, ◌*◌, ◌^◌, Bool, true, false, cond, eqb, nat_lt, List, [], ◌∷◌, ◌++◌, length, take, Option, Some, None, option_map, refl, sym, ap, subst, ◌∙◌, arith, append-nil, append_assoc, length-append}
use Rattle.std.specs.List.{slice_split, position_or_len}
use Rattle.std.specs.Option.{IfSome}
use Rattle.std.proofs.lemmas.Bool.{eqb-true, ltb-true, ltb-false}
use Rattle.std.proofs.lemmas.List.Sums.{fails_before_first}
use Rattle.std.proofs.lemmas.List.Splits.{slice_split_none, slice_split_first}
use Rattle.std.proofs.lemmas.List.{take-append-le, length-take}
use Rattle.std.proofs.Math.Seq.{take_all}
use Rattle.sa_script.specs.FixedTexts.{byte_of, bytes_spelled, kept, unit_of, units_in, units_spelled}
use Rattle.sa_script.specs.Views.{cut_at, parted}

-- these cells with those that were read behind them, as many as are kept
abbrev pub kept_behind : List ℕ → Option (List ℕ) → Option (List ℕ)
kept_behind cells None = None
kept_behind cells (Some more) = Some (kept (cells ++ more))

take-again : (n : ℕ) (xs ys : List ℕ) → take n (take n xs ++ ys) ≡ take n (xs ++ ys)
take-again zero xs ys = refl
take-again (suc n) [] ys = refl
take-again (suc n) (x ∷ xs) ys = ap (λ l. x ∷ l) (take-again n xs ys)

kept-more : (cells more : List ℕ) (cell : ℕ) → kept (kept (cells ++ cell ∷ []) ++ more) ≡ kept (cells ++ cell ∷ more)
kept-more cells more cell = take-again 257 (cells ++ cell ∷ []) more ∙ ap (take 257) (append_assoc cells (cell ∷ []) more)

pub kept-behind : (cells : List ℕ) (cell : ℕ) (read : Option (List ℕ)) → kept_behind (kept (cells ++ cell ∷ [])) read ≡ kept_behind cells (option_map (λ more. cell ∷ more) read)
kept-behind cells cell None = refl
kept-behind cells cell (Some more) = ap Some (kept-more cells more cell)

pub kept-none : (cells : List ℕ) → length cells ≤ 257 → kept_behind cells (Some []) ≡ Some cells
kept-none cells few = ap (λ l. Some (take 257 l)) (append-nil cells) ∙ ap Some (take_all 257 cells few)

pub kept-first : (read : Option (List ℕ)) → kept_behind [] read ≡ option_map kept read
kept-first None = refl
kept-first (Some more) = refl

pub kept-few : (more cells : List ℕ) (cell : ℕ) → more ≡ take 257 (cells ++ cell ∷ []) → length more ≤ 257
kept-few more cells cell pushed = let size = ap length pushed ∙ length-take 257 (cells ++ cell ∷ []) in omega arith

-- one more, where there are as many as are kept, and where there are fewer
pub keep-full : {A : Type 0} (cells : List A) (cell : A) → length cells ≤ 257 → 257 ≤ length cells → cells ≡ take 257 (cells ++ cell ∷ [])
keep-full cells cell few many = sym (take-append-le 257 cells (cell ∷ []) many ∙ take_all 257 cells few)

pub keep-more : {A : Type 0} (cells more : List A) (cell : A) → length cells < 257 → more ≡ cells ++ cell ∷ [] → more ≡ take 257 (cells ++ cell ∷ [])
keep-more cells more cell few pushed = let longer = length-append cells (cell ∷ []) in pushed ∙ sym (take_all 257 (cells ++ cell ∷ []) (omega arith))

-- bytes
pub bytes-odd : (rest behind : List ℕ) (a : ℕ) → rest ≡ a ∷ behind → behind ≡ [] → bytes_spelled rest ≡ None
bytes-odd rest behind a cut none = ap bytes_spelled (cut ∙ ap (λ l. a ∷ l) none)

pub bytes-wrong : (rest behind others : List ℕ) (a b : ℕ) → rest ≡ a ∷ behind → behind ≡ b ∷ others → byte_of a b ≡ None → bytes_spelled rest ≡ None
bytes-wrong rest behind others a b cut then wrong = ap bytes_spelled (cut ∙ ap (λ l. a ∷ l) then) ∙ rw wrong refl

pub bytes-more : (rest behind others : List ℕ) (a b byte : ℕ) → rest ≡ a ∷ behind → behind ≡ b ∷ others → byte_of a b ≡ Some byte → bytes_spelled rest ≡ option_map (λ more. byte ∷ more) (bytes_spelled others)
bytes-more rest behind others a b byte cut then right = ap bytes_spelled (cut ∙ ap (λ l. a ∷ l) then) ∙ rw right refl

-- units
abbrev pub parts_behind : Option (List ℕ) → List (List ℕ)
parts_behind None = []
parts_behind (Some bs) = slice_split (λ x. eqb x 46) bs

-- how many bytes are left, and one where there are parts
abbrev pub left_behind : Option (List ℕ) → ℕ
left_behind None = 0
left_behind (Some bs) = suc (length bs)

pub split-cut : (bs : List ℕ) → parts_behind (Some bs) ≡ (cut_at 46 bs).0 ∷ parts_behind (cut_at 46 bs).1
split-cut bs = go (nat_lt (position_or_len (λ x. eqb x 46) bs) (length bs)) refl
  where
    place : ℕ
    place = position_or_len (λ x. eqb x 46) bs

    go : (b : Bool) → nat_lt place (length bs) ≡ b → parts_behind (Some bs) ≡ (parted bs (cond b (Some place) None)).0 ∷ parts_behind (parted bs (cond b (Some place) None)).1
    go true is = slice_split_first (λ x. eqb x 46) bs 0 (ltb-true place (length bs) is)
    go false is = slice_split_none (λ x. eqb x 46) bs (λ k d below. fails_before_first (λ x. eqb x 46) bs k d (omega (arith, ltb-false place (length bs) is)))

pub units-first : (bs : List ℕ) → eqb (length bs) 0 ≡ false → units_in (parts_behind (Some bs)) ≡ units_spelled bs
units-first [] some = cc
units-first (b ∷ bs) some = refl

pub units-none : (bs : List ℕ) → eqb (length bs) 0 ≡ true → units_in (parts_behind None) ≡ units_spelled bs
units-none [] none = refl
units-none (b ∷ bs) none = let empty = eqb-true (length (b ∷ bs)) 0 none in absurd (omega arith)

pub left-falls : {B : Type 0} (shown : B → List ℕ) (o : Option B) (n : ℕ) → IfSome o (λ r. length (shown r) < n) → left_behind (option_map shown o) < suc n
left-falls shown None n less = omega arith
left-falls shown (Some r) n less = omega (arith, less)

pub units-wrong : (bs : List ℕ) → unit_of (cut_at 46 bs).0 ≡ None → units_in (parts_behind (Some bs)) ≡ None
units-wrong bs wrong = ap units_in (split-cut bs) ∙ rw wrong refl

pub units-more : (bs : List ℕ) (unit : ℕ) → unit_of (cut_at 46 bs).0 ≡ Some unit → units_in (parts_behind (Some bs)) ≡ option_map (λ more. unit ∷ more) (units_in (parts_behind (cut_at 46 bs).1))
units-more bs unit right = ap units_in (split-cut bs) ∙ rw right refl

-- one more of at most eight digits behind a number: it is below the power of 16 that the digits so far make, and fits 32 bits
digit-room : (n value d : ℕ) → n < 8 → value < 16 ^ (8 - suc n) → d ≤ 15 → 16 * value + d < 16 ^ (8 - n)
digit-room zero value d few small digit = omega arith
digit-room (suc zero) value d few small digit = omega arith
digit-room (suc (suc zero)) value d few small digit = omega arith
digit-room (suc (suc (suc zero))) value d few small digit = omega arith
digit-room (suc (suc (suc (suc zero)))) value d few small digit = omega arith
digit-room (suc (suc (suc (suc (suc zero))))) value d few small digit = omega arith
digit-room (suc (suc (suc (suc (suc (suc zero)))))) value d few small digit = omega arith
digit-room (suc (suc (suc (suc (suc (suc (suc zero))))))) value d few small digit = omega arith
digit-room (suc (suc (suc (suc (suc (suc (suc (suc n)))))))) value d few small digit = absurd (omega arith)

digit-fits : (n value d : ℕ) → n < 8 → value < 16 ^ (8 - suc n) → d ≤ 15 → 16 * value + d < 2 ^ 32
digit-fits zero value d few small digit = omega arith
digit-fits (suc zero) value d few small digit = omega arith
digit-fits (suc (suc zero)) value d few small digit = omega arith
digit-fits (suc (suc (suc zero))) value d few small digit = omega arith
digit-fits (suc (suc (suc (suc zero)))) value d few small digit = omega arith
digit-fits (suc (suc (suc (suc (suc zero))))) value d few small digit = omega arith
digit-fits (suc (suc (suc (suc (suc (suc zero)))))) value d few small digit = omega arith
digit-fits (suc (suc (suc (suc (suc (suc (suc zero))))))) value d few small digit = omega arith
digit-fits (suc (suc (suc (suc (suc (suc (suc (suc n)))))))) value d few small digit = absurd (omega arith)

pub number-room : (digits rest : List ℕ) (b value d : ℕ) → digits ≡ b ∷ rest → length digits ≤ 8 → value < 16 ^ (8 - length digits) → d ≤ 15 → 16 * value + d < 16 ^ (8 - length rest)
number-room digits rest b value d cut few small digit =
    let size : length digits ≡ suc (length rest) = ap length cut in
    digit-room (length rest) value d (omega arith) (subst (λ n. value < 16 ^ (8 - n)) size small) digit

pub number-fits : (digits rest : List ℕ) (b value d : ℕ) → digits ≡ b ∷ rest → length digits ≤ 8 → value < 16 ^ (8 - length digits) → d ≤ 15 → 16 * value + d < 2 ^ 32
number-fits digits rest b value d cut few small digit =
    let size : length digits ≡ suc (length rest) = ap length cut in
    digit-fits (length rest) value d (omega arith) (subst (λ n. value < 16 ^ (8 - n)) size small) digit

pub some-room : (n : ℕ) → n ≤ 8 → 0 < 16 ^ (8 - n)
some-room zero few = omega arith
some-room (suc zero) few = omega arith
some-room (suc (suc zero)) few = omega arith
some-room (suc (suc (suc zero))) few = omega arith
some-room (suc (suc (suc (suc zero)))) few = omega arith
some-room (suc (suc (suc (suc (suc zero))))) few = omega arith
some-room (suc (suc (suc (suc (suc (suc zero)))))) few = omega arith
some-room (suc (suc (suc (suc (suc (suc (suc zero))))))) few = omega arith
some-room (suc (suc (suc (suc (suc (suc (suc (suc zero)))))))) few = omega arith
some-room (suc (suc (suc (suc (suc (suc (suc (suc (suc n))))))))) few = absurd (omega arith)
