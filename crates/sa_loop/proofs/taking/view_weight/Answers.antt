-- The values of a strings array weigh what its items weigh.
use Rattle.std.proofs.Common.{◌≡◌, IfOk, map, sym, ap, ◌∙◌, cond, Bool}
use Rattle.std.specs.List.{sum_by}
use Rattle.std.proofs.lemmas.Result.{MatchResult-weaker}
use Rattle.sa_base.specs.Items.{Item}
use Rattle.sa_text.specs.Values.{item_of}
use Rattle.sa_plain.specs.Items.{item_weight}
use Rattle.sa_plain.specs.Plains.{items_at}
use Rattle.sa_view.specs.Views.{places_of}
use Rattle.sa_call.specs.Decls.{home_of}
use Rattle.sa_call.specs.Told.{index_at_home}
use Rattle.sa_hall.specs.Contents.{plain_at}
use Rattle.sa_loop.specs.Runs.{shown}
use Rattle.sa_loop.specs.States.{view_values}
use Rattle.sa_loop.proofs.PartLemmas.{values-weigh}
use Rattle.sa_loop.proofs.taking.view_weight.Goals as goal

pub returns-then-is_strings_array-clause-weight : goal.returns-then-is_strings_array-clause-weight
returns-then-is_strings_array-clause-weight g c =
    let d = c.args.decls.now in
    let v = c.args.view.now in
    let s = shown (g.R.Rooms.holds c.args.rooms.now (home_of d v.array)) in
    let strings = sym c.is_strings_array.ensures ∙ c.if-is_strings_array.true in
    let other = items_at (plain_at s.plains (index_at_home d v.array)) (places_of v) in
    let same = sym (values-weigh (view_values d s v)) ∙ ap (λ (b : Bool). sum_by item_weight (cond b (map item_of (view_values d s v)) other)) (sym strings) in
    MatchResult-weaker c.strings_weight.result c.strings_weight.ensures.weight (λ w e. e ∙ same) (λ m t. t)
