use Rattle.std.proofs.Common.{◌≡◌, ◌∙◌, arith, rules, pos, to_z, of_z, w64}
use Rattle.std.proofs.lemmas.Int.{ints}
use Rattle.sa_view.specs.Views.{at_step, greatest_length, place_at}
use Rattle.sa_view.proofs.ViewLemmas.{fits-within, place-below, place-is}
use Rattle.sa_view.proofs.view.View.place.Goals as goal

pub overflow_cast-result : goal.overflow_cast-result
overflow_cast-result c =
    let within = fits-within greatest_length c.args.self.now c.requires.fits c.args.k c.requires.within in
    let is = c.at_step.ensures ∙ place-is greatest_length (at_step c.args.self.now c.args.k) within in
    let below = place-below greatest_length (at_step c.args.self.now c.args.k) within in
    let same : to_z w64 (of_z w64 c.at_step.result) ≡ pos (place_at c.args.self.now c.args.k) = omega (arith, ints, is, below) in
    rw same (tt, search (rules, below))

pub returns : goal.returns
returns c =
    let within = fits-within greatest_length c.args.self.now c.requires.fits c.args.k c.requires.within in
    let is = c.at_step.ensures ∙ place-is greatest_length (at_step c.args.self.now c.args.k) within in
    let below = place-below greatest_length (at_step c.args.self.now c.args.k) within in
    omega (arith, ints, is, below)
