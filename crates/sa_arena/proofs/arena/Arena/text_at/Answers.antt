-- The text of a live extent is a part of the buffer.
use Rattle.std.proofs.Common.{◌≡◌, ◌+◌, ◌-◌, ◌∙◌, ap₂, sym, refl, ℕ, List, take, drop, Some, arith}
use Rattle.sa_arena.proofs.HoldsLemmas.{opened, found, text_sliced}
use Rattle.sa_arena.proofs.arena.Arena.text_at.Goals as goal

pub overflow_add-end : goal.overflow_add-end
overflow_add-end c =
    let f = found (opened c.self.invariant c.self.view_is) c.args.at _ c.requires.live refl in
    let fits = f.sized.fits in
    omega arith

pub slice_bounds-result-end : goal.slice_bounds-result-end
slice_bounds-result-end c =
    let f = found (opened c.self.invariant c.self.view_is) c.args.at _ c.requires.live refl in
    let fits = f.sized.fits in
    omega arith

pub returns : goal.returns
returns c =
    let h = opened c.self.invariant c.self.view_is in
    let f = found h c.args.at _ c.requires.live refl in
    let n : c.args.size ≡ c.args.at + c.args.size - c.args.at = omega arith in
    text_sliced h f c.args.size c.requires.size
    ∙ ap₂ (λ (n : ℕ) (bs : List ℕ). Some (take n (drop c.args.at bs))) n (sym c.as_slice-bytes.ensures.value)
