-- The run at the front of a text, by the marks of its first bytes.
use Rattle.std.proofs.Common.{◌≡◌, ℕ, suc, ◌+◌, ◌*◌, ◌<◌, ◌≤◌, true, false, not, List, [], ◌∷◌, ◌++◌, length, map, take, drop, refl, sym, ap, ◌∙◌, inl, inr, arith, take-append-drop, length-take-le}
use Rattle.std.specs.List.{list_all, prefix_len}
use Rattle.std.specs.Simd.Lanes.{mask_l}
use Rattle.std.specs.Int.Count.{count_trailing_zeros}
use Rattle.std.proofs.lemmas.Bool.{cases_Bool, and_from}
use Rattle.std.proofs.lemmas.Simd.{trailing_mask_l}
use Rattle.sa_runs.specs.Runs.{is_marked, is_plain, begins_plain}

-- a plain byte, and a mark, at the front
pub prefix_len-plain : (b : ℕ) (bs : List ℕ) → is_plain b ≡ true → prefix_len is_plain (b ∷ bs) ≡ 1 + prefix_len is_plain bs
prefix_len-plain b bs t = rw t refl

pub prefix_len-mark : (b : ℕ) (bs : List ℕ) → is_plain b ≡ false → prefix_len is_plain (b ∷ bs) ≡ 0
prefix_len-mark b bs f = rw f refl

marked_first : (b : ℕ) (bs : List ℕ) → is_marked b ≡ true → 0 < mask_l (map is_marked (b ∷ bs))
marked_first b bs t = rw t (omega arith)

marked_later : (b : ℕ) (bs : List ℕ) → is_marked b ≡ false → mask_l (map is_marked (b ∷ bs)) ≡ 2 * mask_l (map is_marked bs)
marked_later b bs f = rw f (omega arith)

-- bytes without a mark are all of the run, and it goes on behind them
run_on : (xs ys : List ℕ) → mask_l (map is_marked xs) ≡ 0 → prefix_len is_plain (xs ++ ys) ≡ length xs + prefix_len is_plain ys
run_on [] ys none = omega arith
run_on (b ∷ bs) ys none = elim (cases_Bool (is_marked b)) [
  | inl t ↦ absurd (omega (arith, marked_first b bs t))
  | inr f ↦ prefix_len-plain b (bs ++ ys) (ap not f) ∙ (ap (λ n. 1 + n) (run_on bs ys (omega (arith, marked_later b bs f))) ∙ omega arith)
]

-- bytes with a mark hold the whole run
run_within : (xs ys : List ℕ) → 0 < mask_l (map is_marked xs) → prefix_len is_plain (xs ++ ys) ≡ prefix_len is_plain xs
run_within [] ys some = absurd (omega arith)
run_within (b ∷ bs) ys some = elim (cases_Bool (is_marked b)) [
  | inl t ↦ prefix_len-mark b (bs ++ ys) (ap not t) ∙ sym (prefix_len-mark b bs (ap not t))
  | inr f ↦ prefix_len-plain b (bs ++ ys) (ap not f) ∙ (ap (λ n. 1 + n) (run_within bs ys (omega (arith, marked_later b bs f))) ∙ sym (prefix_len-plain b bs (ap not f)))
]

-- the same of the first bytes of a text, by their marks
pub run_through : (n marks : ℕ) (text : List ℕ) → n ≤ length text → marks ≡ mask_l (map is_marked (take n text)) → marks ≡ 0 → n + prefix_len is_plain (drop n text) ≡ prefix_len is_plain text
run_through n marks text room is none =
    sym (ap (prefix_len is_plain) (sym (take-append-drop n text)) ∙ (run_on (take n text) (drop n text) (sym is ∙ none) ∙ ap (λ k. k + prefix_len is_plain (drop n text)) (length-take-le n text room)))

pub run_stops : (n marks : ℕ) (text : List ℕ) → n ≤ length text → n ≤ 64 → marks ≡ mask_l (map is_marked (take n text)) → 0 < marks → count_trailing_zeros 64 marks ≡ prefix_len is_plain text
run_stops n marks text room few is some =
    let within = run_within (take n text) (drop n text) (omega (arith, is)) in
    let counted = trailing_mask_l is_marked 64 (take n text) (omega (arith, length-take-le n text room)) (omega (arith, is)) in
    ap (count_trailing_zeros 64) is ∙ (counted ∙ (sym within ∙ ap (prefix_len is_plain) (take-append-drop n text)))

-- a text cut behind its run
run_more : (b : ℕ) (bs : List ℕ) → is_plain b ≡ true → prefix_len is_plain (b ∷ bs) ≡ suc (prefix_len is_plain bs)
run_more b bs t = prefix_len-plain b bs t ∙ omega arith

pub run_plain : (text : List ℕ) → list_all is_plain (take (prefix_len is_plain text) text) ≡ true
run_plain [] = refl
run_plain (b ∷ bs) = elim (cases_Bool (is_plain b)) [
  | inl t ↦ ap (λ n. list_all is_plain (take n (b ∷ bs))) (run_more b bs t) ∙ and_from (is_plain b) (list_all is_plain (take (prefix_len is_plain bs) bs)) t (run_plain bs)
  | inr f ↦ ap (λ n. list_all is_plain (take n (b ∷ bs))) (prefix_len-mark b bs f)
]

pub run_ends : (text : List ℕ) → begins_plain (drop (prefix_len is_plain text) text) ≡ false
run_ends [] = refl
run_ends (b ∷ bs) = elim (cases_Bool (is_plain b)) [
  | inl t ↦ ap (λ n. begins_plain (drop n (b ∷ bs))) (run_more b bs t) ∙ run_ends bs
  | inr f ↦ ap (λ n. begins_plain (drop n (b ∷ bs))) (prefix_len-mark b bs f) ∙ f
]
