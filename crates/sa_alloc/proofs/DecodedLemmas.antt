-- Extents with code points in place of bytes.
use Rattle.std.proofs.Common.{◌≡◌, ◌+◌, ◌-◌, ◌==◌, nat_le, ℕ, zero, suc, true, false, List, [], ◌∷◌, ◌++◌, map, take, Option, Some, None, is_some, option_map, unwrap_or, encode_utf8_all, IsUtf8, refl, sym, ap, ◌∙◌, subst, inl, inr, set, if◌then◌else◌}
use Rattle.std.specs.Str.{chars}
use Rattle.std.proofs.lemmas.Bool.{cases_Bool}
use Rattle.std.proofs.lemmas.List.{map-set, map-id}
use Rattle.std.proofs.lemmas.Simd.{map-map}
use Rattle.std.proofs.lemmas.Str.{encodes-chars, chars-nil}
use Rattle.std.proofs.Math.ListN.{get_or-map}
use Rattle.sa_text.specs.Texts.{text_size}
use Rattle.sa_arena.specs.Extents.{Extent, text_bytes, extent_at, has_text, is_live, number_at, offset_of, start_of, prefix_size, extent_size, cursor_of, live_bytes, live_size, with_text, trimmed, front_of, extent_for}
use Rattle.sa_arena.specs.Images.{image_of}
use Rattle.sa_arena.proofs.ExtentLemmas.{cursor-cons, live-cons}
use Rattle.sa_alloc.specs.Layouts.{fits_in, text_in, encoded}
use Rattle.sa_alloc.specs.Consistency.{decoded, HoldsText}
use Rattle.sa_alloc.specs.Transitions.{IsSpelled, killed}
use Rattle.sa_alloc.proofs.LayoutLemmas.{map-same}

pub decoded-has_text : (e : Extent) → has_text (decoded e) ≡ has_text e
decoded-has_text e = by_text e.text
  where
    by_text : (t : Option (List ℕ)) → is_some (option_map chars t) ≡ is_some t
    by_text None = refl
    by_text (Some t) = refl

pub decoded-extent_at : (es : List Extent) (k : ℕ) → extent_at (map decoded es) k ≡ decoded (extent_at es k)
decoded-extent_at es k = get_or-map decoded es k (record { capacity = 0; text = None })

pub decoded-live : (es : List Extent) (k : ℕ) → is_live (map decoded es) k ≡ is_live es k
decoded-live es k = ap has_text (decoded-extent_at es k) ∙ decoded-has_text (extent_at es k)

pub decoded-with_text : (es : List Extent) (k : ℕ) (t : Option (List ℕ)) → map decoded (with_text es k t) ≡ with_text (map decoded es) k (option_map chars t)
decoded-with_text es k t =
    let new : Extent = record { capacity = (extent_at es k).capacity; text = t } in
    let capacity : (extent_at (map decoded es) k).capacity ≡ (extent_at es k).capacity = ap (λ (e : Extent). e.capacity) (decoded-extent_at es k) in
    map-set decoded es k new
    ∙ ap (λ c. set (map decoded es) k (let x : Extent = record { capacity = c; text = option_map chars t } in x)) (sym capacity)

pub decoded-front : (e : Extent) (es : List Extent) → map decoded (front_of e es) ≡ front_of (decoded e) (map decoded es)
decoded-front e (x ∷ xs) = refl
decoded-front e [] =
    let same = decoded-has_text e in
    elim (cases_Bool (has_text e)) [
      | inl t ↦ let u : has_text (decoded e) ≡ true = same ∙ t in rw (t, u) refl
      | inr f ↦ let u : has_text (decoded e) ≡ false = same ∙ f in rw (f, u) refl
    ]

pub decoded-trimmed : (es : List Extent) → map decoded (trimmed es) ≡ trimmed (map decoded es)
decoded-trimmed [] = refl
decoded-trimmed (e ∷ es) = decoded-front e (trimmed es) ∙ ap (front_of (decoded e)) (decoded-trimmed es)

pub decoded-trim : (es : List Extent) → trimmed es ≡ es → trimmed (map decoded es) ≡ map decoded es
decoded-trim es t = sym (decoded-trimmed es) ∙ ap (map decoded) t

pub decoded-killed : (es : List Extent) (at : ℕ) → map decoded (killed es at) ≡ trimmed (with_text (map decoded es) (number_at es at) None)
decoded-killed es at = decoded-trimmed (with_text es (number_at es at) None) ∙ ap trimmed (decoded-with_text es (number_at es at) None)

pub decoded-push : (es : List Extent) (text : List ℕ) → IsSpelled text → map decoded (es ++ extent_for (text_size text) (encode_utf8_all text) ∷ []) ≡ map decoded es ++ extent_for (text_size text) text ∷ []
decoded-push [] text s = ap (λ t. extent_for (text_size text) t ∷ []) s.again
decoded-push (e ∷ es) text s = ap (λ xs. decoded e ∷ xs) (decoded-push es text s)

pub decoded-fits : (es : List Extent) (k : ℕ) (text : List ℕ) → fits_in (map decoded es) k text ≡ nat_le (text_size text) (extent_at es k).capacity
decoded-fits es k text = ap (λ (e : Extent). nat_le (text_size text) e.capacity) (decoded-extent_at es k)

pub decoded-text : (e : Extent) → text_bytes (decoded e) ≡ chars (text_bytes e)
decoded-text e = by_text e.text
  where
    by_text : (t : Option (List ℕ)) → unwrap_or (option_map chars t) [] ≡ chars (unwrap_or t [])
    by_text None = sym chars-nil
    by_text (Some t) = refl

pub text_in-decoded : (es : List Extent) (k : ℕ) → text_in (map decoded es) k ≡ chars (text_in es k)
text_in-decoded es k = ap text_bytes (decoded-extent_at es k) ∙ decoded-text (extent_at es k)

pub cursor-decoded : (es : List Extent) → cursor_of (map decoded es) ≡ cursor_of es
cursor-decoded [] = refl
cursor-decoded (e ∷ es) = cursor-cons (decoded e) (map decoded es) ∙ ap (λ n. extent_size e + n) (cursor-decoded es) ∙ sym (cursor-cons e es)

pub live-decoded : (es : List Extent) → live_bytes (map decoded es) ≡ live_bytes es
live-decoded [] = refl
live-decoded (e ∷ es) =
    let one : live_size (decoded e) ≡ live_size e = ap (λ b. if b then extent_size e else 0) (decoded-has_text e) in
    live-cons (decoded e) (map decoded es) ∙ ap (λ n. n + live_bytes (map decoded es)) one ∙ ap (λ n. live_size e + n) (live-decoded es) ∙ sym (live-cons e es)

-- where they lie

pub start-decoded : (es : List Extent) (k : ℕ) → start_of (map decoded es) k ≡ start_of es k
start-decoded es zero = refl
start-decoded [] (suc k) = refl
start-decoded (e ∷ es) (suc k) = cursor-cons (decoded e) (take k (map decoded es)) ∙ ap (λ n. extent_size e + n) (start-decoded es k) ∙ sym (cursor-cons e (take k es))

pub capacity-decoded : (es : List Extent) (k : ℕ) → (extent_at (map decoded es) k).capacity ≡ (extent_at es k).capacity
capacity-decoded es k = ap (λ (e : Extent). e.capacity) (decoded-extent_at es k)

pub offset-decoded : (es : List Extent) (k : ℕ) → offset_of (map decoded es) k ≡ offset_of es k
offset-decoded es k = ap (λ n. n + prefix_size (extent_at (map decoded es) k).capacity) (start-decoded es k) ∙ ap (λ c. start_of es k + prefix_size c) (capacity-decoded es k)

pub number_at-decoded : (es : List Extent) (at : ℕ) → number_at (map decoded es) at ≡ number_at es at
number_at-decoded [] at = refl
number_at-decoded (e ∷ es) at = ap (λ n. if prefix_size e.capacity == at then 0 else suc n) (number_at-decoded es (at - extent_size e))

-- their bytes

pub encoded-decoded : (e : Extent) → (has_text e ≡ true → HoldsText e) → encoded (decoded e) ≡ e
encoded-decoded e held = by_text e.text refl held
  where
    by_text : (t : Option (List ℕ)) → e.text ≡ t → (has_text e ≡ true → HoldsText e) → encoded (decoded e) ≡ e
    by_text None is held = ap (λ t. let x : Extent = record { capacity = e.capacity; text = option_map encode_utf8_all (option_map chars t) } in x) is ∙ ap (λ t. let x : Extent = record { capacity = e.capacity; text = t } in x) (sym is)
    by_text (Some b) is held =
        let outer = (held (ap is_some is)).outer in
        let utf8 : IsUtf8 b = subst IsUtf8 (ap (λ t. unwrap_or t []) is) outer.utf8 in
        ap (λ t. let x : Extent = record { capacity = e.capacity; text = option_map encode_utf8_all (option_map chars t) } in x) is
        ∙ ap (λ t. let x : Extent = record { capacity = e.capacity; text = Some t } in x) (encodes-chars b utf8)
        ∙ ap (λ t. let x : Extent = record { capacity = e.capacity; text = t } in x) (sym is)

pub image-from : (es : List Extent) → ((k : ℕ) → is_live es k ≡ true → HoldsText (extent_at es k)) → image_of (map encoded (map decoded es)) ≡ image_of es
image-from es held =
    ap image_of (map-map encoded decoded es
    ∙ map-same (λ (e : Extent). e) (λ (e : Extent). encoded (decoded e)) es (record { capacity = 0; text = None }) (λ k h. encoded-decoded (extent_at es k) (held k))
    ∙ map-id es)
