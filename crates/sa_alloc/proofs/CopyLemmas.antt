-- Copies of values that share a block.
use Rattle.std.proofs.Common.{◌≡◌, ◌<◌, ◌≤◌, ◌+◌, ℕ, cond, ltb, List, [], ◌∷◌, ◌++◌, length, map, take, drop, get_or, sym, ap, ◌∙◌, arith, add-one, length-drop, length-append, drop-cons}
use Rattle.std.specs.List.{flat_map}
use Rattle.std.proofs.Math.Seq.{take-append_seam, drop-append_seam}
use Rattle.std.proofs.lemmas.List.{drop-drop, get_or-map, map-append, take_more}
use Rattle.std.proofs.lemmas.Str.{encodes-chars}
use Rattle.sa_text.specs.declared.value.Value.{Value}
use Rattle.sa_text.specs.declared.value.Value.TheVariants as value
use Rattle.sa_alloc.specs.declared.seen.Seen.{Seen}
use Rattle.sa_alloc.specs.declared.seen.Seen.TheVariants as seen
use Rattle.sa_alloc.specs.Copies.{long_text, value_seen, long_seen, IsSeenText}
use Rattle.sa_alloc.specs.Layouts.{Layout, value_at}
use Rattle.sa_alloc.specs.Stores.{Shows}

-- what a load shows of a value
pub value-shown : (s : Seen) (v : Value) → Shows s v → v ≡ value_seen s
value-shown seen.Missing v h = h
value-shown (seen.Bytes bytes) v h = h.0

pub long-shown : (s : Seen) (v : Value) → Shows s v → long_text v ≡ long_seen s
long-shown seen.Missing v h = ap long_text h
long-shown (seen.Bytes bytes) v h = ap long_text h.0 ∙ ap (λ (xs : List ℕ). cond (ltb 14 (length xs)) xs []) (encodes-chars bytes.now h.1)

pub text-shown : (s : Seen) (v : Value) → Shows s v → IsSeenText s
text-shown seen.Missing v h = tt
text-shown (seen.Bytes bytes) v h = (h.1, h.2)

-- what is left of a block of values' long texts, behind those of the values before one
pub record Left (values : List Value) (block : List ℕ) (k start : ℕ) : Type 0 where
  pub rest : drop start block ≡ flat_map long_text (drop k values)
  pub within : start ≤ length block

pub record Next (values : List Value) (block : List ℕ) (k start : ℕ) (s : Seen) : Type 0 where
  pub within : start + length (long_seen s) ≤ length block
  pub part : take (length (long_seen s)) (drop start block) ≡ long_seen s
  pub left : Left values block (k + 1) (start + length (long_seen s))

pub next-left : (values : List Value) (block : List ℕ) (k start : ℕ) (s : Seen) → k < length values → Shows s (get_or values k value.Missing) → Left values block k start → Next values block k start s
next-left values block k start s below shows left =
    let v = get_or values k value.Missing in
    let next : drop k values ≡ v ∷ drop (k + 1) values = drop-cons values k value.Missing below ∙ ap (λ n. v ∷ drop n values) (sym (add-one k)) in
    let bytes = long_seen s in
    let rest = flat_map long_text (drop (k + 1) values) in
    let cut : drop start block ≡ bytes ++ rest = left.rest ∙ ap (flat_map long_text) next ∙ ap (λ (b : List ℕ). b ++ rest) (long-shown s v shows) in
    let size = ap length cut in
    let whole = length-append bytes rest in
    let dropped = length-drop start block in
    let within_before = left.within in
    record {
      within = omega arith;
      part = ap (take (length bytes)) cut ∙ take-append_seam bytes rest;
      left = record {
        rest = sym (drop-drop (length bytes) start block) ∙ ap (drop (length bytes)) cut ∙ drop-append_seam bytes rest;
        within = omega arith;
      };
    }

-- the values at places, one more
abbrev pub values_from : Layout → ℕ → List ℕ → List Value
values_from l first places = map (λ p. value_at l (first + p)) places

pub values-more : (l : Layout) (first k : ℕ) (places : List ℕ) (d : ℕ) → k < length places → values_from l first (take (k + 1) places) ≡ values_from l first (take k places) ++ value_at l (first + get_or places k d) ∷ []
values-more l first k places d below =
    ap (values_from l first) (take_more places k d below) ∙ map-append (λ p. value_at l (first + p)) (take k places) (get_or places k d ∷ [])

pub value-here : (l : Layout) (first k : ℕ) (places : List ℕ) (d : ℕ) → k < length places → get_or (values_from l first places) k value.Missing ≡ value_at l (first + get_or places k d)
value-here l first k places d below = get_or-map (λ p. value_at l (first + p)) places k d value.Missing below
