-- Texts that are made: what is within the limit is the text.
use Rattle.std.proofs.Common.{◌≡◌, ◌≤◌, ◌+◌, ◌*◌, ℕ, zero, suc, List, [], ◌++◌, length, replicate, Ok, refl, sym, ap, ap₂, ◌∙◌, arith, IsUtf8, append_assoc, append-nil, length-append, take, drop, take_at, drop_at, ◌-◌}
use Rattle.std.specs.List.{concat}
use Rattle.std.specs.Str.{chars}
use Rattle.std.proofs.lemmas.Bool.{le-leb}
use Rattle.std.proofs.lemmas.Str.{encodes-chars, chars-nil, chars-append, IsUtf8-nil, IsUtf8-append}
use Rattle.std.proofs.lemmas.List.{length-take}
use Rattle.sa_text.specs.Building.{bytes_of, HasRoom}
use Rattle.sa_text.specs.declared.place.Place.{Place}
use Rattle.sa_text.specs.declared.place.Place.TheVariants.{Inside, Room}
use Rattle.sa_text.specs.Making.{made, Draft}
use Rattle.sa_text.specs.Texts.{text_size, most_bytes}

pub made-within : (text : List ℕ) → text_size text ≤ most_bytes → made text ≡ Ok text
made-within text h = let e = le-leb (text_size text) 65536 h in rw e refl

pub made-utf8 : (bytes text : List ℕ) → IsUtf8 bytes → length bytes ≤ most_bytes → chars bytes ≡ text → made text ≡ Ok text
made-utf8 bytes text u h e =
    let size : text_size text ≡ length bytes = ap text_size (sym e) ∙ ap length (encodes-chars bytes u) in
    made-within text (omega arith)

pub same-draft : (text text' : List ℕ) (room room' : ℕ) → text ≡ text' → room ≡ room' → ◌≡◌ {A = Draft} (record { text = text; room = room }) (record { text = text'; room = room' })
same-draft text text' room room' e f = let draft : List ℕ → ℕ → Draft = λ t r. record { text = t; room = r } in ap₂ draft e f

pub concat-more : (n : ℕ) (part : List ℕ) → concat (replicate (n + 1) part) ≡ concat (replicate n part) ++ part
concat-more zero part = append-nil part
concat-more (suc n) part =
    let e : suc n + 1 ≡ suc (n + 1) = omega arith in
    ap (λ k. concat (replicate k part)) e ∙ ap (λ t. part ++ t) (concat-more n part) ∙ sym (append_assoc part (concat (replicate n part)) part)

-- the bytes of a place are within its room
pub room-holds : (place : Place) (size : ℕ) → HasRoom place size → length (bytes_of place) ≤ size
room-holds (Inside few) size h = let n = length-take few.filled few.bytes in omega (arith, h.0)
room-holds (Room bytes) size h = h.0

-- a part so many times
pub concat-add : (m n : ℕ) (part : List ℕ) → concat (replicate (m + n) part) ≡ concat (replicate m part) ++ concat (replicate n part)
concat-add zero n part = let e : 0 + n ≡ n = omega arith in ap (λ k. concat (replicate k part)) e
concat-add (suc m) n part =
    let e : suc m + n ≡ suc (m + n) = omega arith in
    ap (λ k. concat (replicate k part)) e ∙ ap (λ t. part ++ t) (concat-add m n part) ∙ sym (append_assoc part (concat (replicate m part)) (concat (replicate n part)))

pub length-concat : (n : ℕ) (part : List ℕ) → length (concat (replicate n part)) ≡ n * length part
length-concat zero part = let e : 0 ≡ 0 * length part = omega arith in e
length-concat (suc n) part = let e = length-concat n part in omega (arith, length-append part (concat (replicate n part)))

pub concat-none : (n : ℕ) (part : List ℕ) → part ≡ [] → concat (replicate n part) ≡ []
concat-none zero part e = refl
concat-none (suc n) part e = ap₂ ◌++◌ e (concat-none n part e)

pub IsUtf8-concat : (n : ℕ) (part : List ℕ) → IsUtf8 part → IsUtf8 (concat (replicate n part))
IsUtf8-concat zero part u = IsUtf8-nil
IsUtf8-concat (suc n) part u = IsUtf8-append part (concat (replicate n part)) u (IsUtf8-concat n part u)

pub chars-concat : (n : ℕ) (part : List ℕ) → IsUtf8 part → chars (concat (replicate n part)) ≡ concat (replicate n (chars part))
chars-concat zero part u = chars-nil
chars-concat (suc n) part u = chars-append part (concat (replicate n part)) u ∙ ap (λ t. chars part ++ t) (chars-concat n part u)

-- what stands at the end of a list is a front of it, as often as it stands there at least
pub within-repeated : (old bytes part : List ℕ) (more done : ℕ) → more ≤ done → bytes ≡ old ++ concat (replicate done part)
    → take (more * length part) (drop (length old) bytes) ≡ concat (replicate more part)
within-repeated old bytes part more done h e =
    let left = done - more in
    let sum : more + left ≡ done = omega arith in
    ap (λ b. take (more * length part) (drop (length old) b)) e
    ∙ ap (take (more * length part)) (drop_at old (concat (replicate done part)) (length old) refl ∙ ap (λ k. concat (replicate k part)) (sym sum) ∙ concat-add more left part)
    ∙ take_at (concat (replicate more part)) (concat (replicate left part)) (more * length part) (length-concat more part)
