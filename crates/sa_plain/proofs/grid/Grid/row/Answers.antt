use Rattle.std.proofs.Common.{◌*◌, ◌∙◌, ap, sym, [], length, take, drop, get_or, arith}
use Rattle.sa_plain.proofs.GridLemmas.{place_there, place_within, get-rows, length-part}
use Rattle.sa_plain.proofs.grid.Grid.row.Goals as goal

pub overflow_mul-k : goal.overflow_mul-k
overflow_mul-k g c =
    let within = place_within c.self.inside.count c.self.inside.width c.args.k c.self.inside.cells.items c.args.self.now.1 (ap (λ p. p.1) c.self.view_is) c.requires c.self.invariant in
    let small = c.self.inside.cells.ok.0 in
    let len = c.deref.ensures.len in
    let same = ap length c.deref.ensures.value in
    omega arith

pub row_at-requires : goal.row_at-requires
row_at-requires g c =
    let within = place_within c.self.inside.count c.self.inside.width c.args.k c.self.inside.cells.items c.args.self.now.1 (ap (λ p. p.1) c.self.view_is) c.requires c.self.invariant in
    let same = ap length c.deref.ensures.value in
    omega arith

pub returns-clause-value : goal.returns-clause-value
returns-clause-value g c =
    let n = c.self.inside.count in
    let w = c.self.inside.width in
    let k = c.args.k in
    let xs = c.self.inside.cells.items in
    let are = ap (λ p. p.1) c.self.view_is in
    c.row_at.ensures ∙ ap (λ cells. take w (drop (k * w) cells)) c.deref.ensures.value
    ∙ sym (get-rows n w k xs [] (place_there n w k xs c.args.self.now.1 are c.requires)) ∙ ap (λ rs. get_or rs k []) are

pub returns-clause-width : goal.returns-clause-width
returns-clause-width g c =
    let w = c.self.inside.width in
    let k = c.args.k in
    let within = place_within c.self.inside.count w k c.self.inside.cells.items c.args.self.now.1 (ap (λ p. p.1) c.self.view_is) c.requires c.self.invariant in
    let same = ap length c.deref.ensures.value in
    ap length c.row_at.ensures ∙ length-part w (k * w) c.deref.result.now (omega arith) ∙ ap (λ p. p.0) c.self.view_is
