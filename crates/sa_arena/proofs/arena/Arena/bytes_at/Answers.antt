use Rattle.std.proofs.Common.{◌+◌, ◌-◌, ◌∙◌, ap, refl, ℕ, List, take, drop, arith}
use Rattle.sa_arena.proofs.BufferLemmas.{part_of_front}
use Rattle.sa_arena.proofs.HoldsLemmas.{opened, found}
use Rattle.sa_arena.proofs.arena.Arena.bytes_at.Goals as goal

pub overflow_add-result : goal.overflow_add-result
overflow_add-result c =
    let f = found (opened c.self.invariant c.self.view_is) c.args.at _ c.requires.live refl in
    omega arith

pub slice_bounds-result-end : goal.slice_bounds-result-end
slice_bounds-result-end c =
    let f = found (opened c.self.invariant c.self.view_is) c.args.at _ c.requires.live refl in
    omega arith

pub returns : goal.returns
returns c =
    let h = opened c.self.invariant c.self.view_is in
    let f = found h c.args.at _ c.requires.live refl in
    let n = c.args.size in
    ap (λ (bs : List ℕ). take (c.args.at + n - c.args.at) (drop c.args.at bs)) c.deref.ensures.value
    ∙ part_of_front c.self.inside.bytes.items c.self.inside.cursor c.args.at n (c.args.at + n - c.args.at) (omega arith) (omega arith) (omega arith)
    ∙ ap (λ (bs : List ℕ). take n (drop c.args.at bs)) h.image_is
