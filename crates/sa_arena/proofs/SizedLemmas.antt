-- Extents as the arena makes them: each of them, and what keeps them so.
use Rattle.std.proofs.Common.{◌≤◌, ◌<◌, ◌*◌, ℕ, zero, suc, List, [], ◌∷◌, ◌++◌, length, take, Option, arith}
use Rattle.sa_arena.specs.Extents.{Extent, cursor_of, extent_at, with_text}
use Rattle.sa_arena.specs.Members.{least_extent, IsSized, AllSized}
use Rattle.sa_arena.proofs.ExtentLemmas.{cursor-cons, prefix_size-some}

pub sized-at : (es : List Extent) (k : ℕ) → AllSized es → k < length es → IsSized (extent_at es k)
sized-at [] k h below = absurd (omega arith)
sized-at (e ∷ es) zero h below = h.0
sized-at (e ∷ es) (suc k) h below = sized-at es k h.1 (omega arith)

pub sized-push : (es : List Extent) (e : Extent) → AllSized es → IsSized e → AllSized (es ++ e ∷ [])
sized-push [] e h one = (one, tt)
sized-push (x ∷ es) e h one = (h.0, sized-push es e h.1 one)

pub sized-take : (n : ℕ) (es : List Extent) → AllSized es → AllSized (take n es)
sized-take zero es h = tt
sized-take (suc n) [] h = tt
sized-take (suc n) (e ∷ es) h = (h.0, sized-take n es h.1)

pub sized-with_text : (es : List Extent) (k : ℕ) (t : Option (List ℕ)) → AllSized es → IsSized (record { capacity = (extent_at es k).capacity; text = t }) → AllSized (with_text es k t)
sized-with_text [] k t h one = tt
sized-with_text (e ∷ es) zero t h one = (one, h.1)
sized-with_text (e ∷ es) (suc k) t h one = (h.0, sized-with_text es k t h.1 one)

-- extents have their least bytes each
pub cursor-least : (es : List Extent) → AllSized es → least_extent * length es ≤ cursor_of es
cursor-least [] h = omega arith
cursor-least (e ∷ es) h =
    let c = cursor-cons e es in
    let p = prefix_size-some e.capacity in
    let least = h.0.least in
    let again = cursor-least es h.1 in
    omega arith
