-- Room that is spare is room that the slab has.
use Rattle.std.proofs.Common.{◌≡◌, ◌∙◌, ◌+◌, ◌<◌, ◌≤◌, Ok, Err, OnErr, false, true, ap, arith}
use Rattle.slab.specs.Slab.{slab_len}
use Rattle.sa_outside.specs.Keyed.{Keyed}
use Rattle.sa_outside.specs.Slots.{spare_in}
use Rattle.sa_outside.proofs.outside.Outside.reserve.Goals as goal

pub returns-in_err-reserve-clause-kept : goal.returns-in_err-reserve-clause-kept
returns-in_err-reserve-clause-kept c within =
    let spare = ap (λ (k : Keyed). k.spare) c.self.view_is in
    let room : slab_len c.self.inside.texts + c.args.n ≤ c.self.inside.texts.capacity = omega arith in
    ap spare_in (c.reserve.ensures.had_room room) ∙ spare

pub returns-in_err-reserve-clause-full : goal.returns-in_err-reserve-clause-full
returns-in_err-reserve-clause-full c =
    let spare = ap (λ (k : Keyed). k.spare) c.self.view_is in
    let no : slab_len c.self.inside.texts + c.args.n ≤ c.self.inside.texts.capacity → ⊥ = λ room. let e : false ≡ true = c.in_err-reserve.ensures.succeeds room in cc in
    let short : c.args.self.now.spare < c.args.n = omega arith in
    elim c.from_residual.result as (λ r. OnErr r (c.args.self.now.spare < c.args.n)) [ Ok done ↦ tt | Err none ↦ short ]

pub returns-clause-kept : goal.returns-clause-kept
returns-clause-kept c within =
    let spare = ap (λ (k : Keyed). k.spare) c.self.view_is in
    let room : slab_len c.self.inside.texts + c.args.n ≤ c.self.inside.texts.capacity = omega arith in
    ap spare_in (c.reserve.ensures.had_room room) ∙ spare
