use Rattle.std.proofs.Common.{◌-◌, ◌++◌, ◌∙◌, ap, ap₂, length, set, arith}
use Rattle.std.proofs.Math.ListN.{replicate}
use Rattle.sa_plain.proofs.GridLemmas.{place_there, place_within, lent_row, length-padded}
use Rattle.sa_plain.proofs.grid.Grid.put.Goals as goal

pub overflow_mul-k : goal.overflow_mul-k
overflow_mul-k g c =
    let within = place_within c.self.inside.count c.self.inside.width c.args.k c.self.inside.cells.items c.args.self.now.1 (ap (λ p. p.1) c.self.view_is) c.requires.there c.self.invariant in
    let small = c.self.inside.cells.ok.0 in
    let len = c.deref_mut.ensures.len in
    let same = ap length c.deref_mut.ensures.value in
    omega arith

pub write_at-requires-clause-within : goal.write_at-requires-clause-within
write_at-requires-clause-within g c =
    let within = place_within c.self.inside.count c.self.inside.width c.args.k c.self.inside.cells.items c.args.self.now.1 (ap (λ p. p.1) c.self.view_is) c.requires.there c.self.invariant in
    let same = ap length c.deref_mut.ensures.value in
    omega arith

pub returns-clause-rows : goal.returns-clause-rows
returns-clause-rows g c =
    let n = c.self.inside.count in
    let w = c.self.inside.width in
    let k = c.args.k in
    let xs = c.self.inside.cells.items in
    let row = c.args.row.now in
    let are = ap (λ p. p.1) c.self.view_is in
    let wide = ap (λ p. p.0) c.self.view_is in
    let fits = c.requires.fits in
    lent_row c.self.inside.cells c.deref_mut.result.now c.write_at.new.cells (row ++ replicate (w - length row) c.args.zero) n w k
    c.deref_mut.ensures.value c.deref_mut.ensures.len c.write_at.auto.cells c.write_at.ensures c.self.invariant
    (place_there n w k xs c.args.self.now.1 are c.requires.there) (length-padded row w c.args.zero (omega arith))
    ∙ ap₂ (λ rs m. set rs k (row ++ replicate (m - length row) c.args.zero)) are wide
