-- The results are planned at the places of the output.
use Rattle.std.proofs.Common.{◌≡◌, ℕ, List, length, map, true, refl, ap, sym, ◌∙◌, subst}
use Rattle.std.specs.List.{zip}
use Rattle.sa_text.specs.Values.{stretched}
use Rattle.sa_text.specs.declared.value.Value.{Value}
use Rattle.sa_alloc.specs.PlanValues.{PlanValue}
use Rattle.sa_plain.specs.Items.{count_of}
use Rattle.sa_view.specs.Views.{places_of}
use Rattle.sa_call.specs.Told.{index_at_home}
use Rattle.sa_hall.specs.Changes.{write_of}
use Rattle.sa_hall.specs.Holds.{contents_at, held_at, is_held, room_at}
use Rattle.sa_hall.specs.declared.change.Change.TheVariants as change
use Rattle.sa_hall.specs.declared.work.Work.TheVariants as work
use Rattle.sa_loop.specs.Held.{IsViewIn}
use Rattle.sa_loop.specs.Writes.{puts_told}
use Rattle.sa_loop.proofs.LockedLemmas.{written-at}
use Rattle.sa_loop.proofs.PlanLemmas.{can-put-plain, told-plain}
use Rattle.sa_loop.proofs.ResultLemmas.{results-are}
use Rattle.sa_loop.proofs.StepLemmas.{strings-told}
use Rattle.sa_loop.proofs.ViewLemmas.{as-strings, fits-some, ready}
use Rattle.sa_loop.proofs.locked.plan_view.Goals as goal

pub places-requires : goal.places-requires
places-requires g c = fits-some c.args.decls.now c.args.out.now c.requires.output.declared c.requires.output.array c.requires.output.view

pub returns-then-not-is_strings_array-clause-writes : goal.returns-then-not-is_strings_array-clause-writes
returns-then-not-is_strings_array-clause-writes g c d =
    let decls = c.args.decls.now in
    let out = c.args.out.now in
    let results = c.args.results.now in
    let its = c.args.held.now.hold.its in
    let number = c.home_of-number.result in
    let slot = c.index_at_home-array.result in
    let output = subst (λ n. IsViewIn decls out (contents_at its n)) (sym c.home_of-number.ensures) c.requires.output in
    let other = sym c.is_strings_array.ensures ∙ c.if-not-is_strings_array.true in
    let at_places = c.from_vec.ensures ∙ c.in_ok-places.ensures in
    written-at decls out results (change.Plains slot c.from_vec.result c.in_ok-copy.field-0) (work.Plains number slot c.from_vec.result c.in_ok-copy.field-0) d c.home_of-number.ensures
    (sym (told-plain decls out results c.in_ok-copy.field-0 slot c.from_vec.result other c.index_at_home-array.ensures at_places c.in_ok-copy.ensures)) refl

pub returns-then-not-is_strings_array-clause-can : goal.returns-then-not-is_strings_array-clause-can
returns-then-not-is_strings_array-clause-can g c =
    let decls = c.args.decls.now in
    let out = c.args.out.now in
    let results = c.args.results.now in
    let its = c.args.held.now.hold.its in
    let number = c.home_of-number.result in
    let slot = c.index_at_home-array.result in
    let output = subst (λ n. IsViewIn decls out (contents_at its n)) (sym c.home_of-number.ensures) c.requires.output in
    let other = sym c.is_strings_array.ensures ∙ c.if-not-is_strings_array.true in
    let at_places = c.from_vec.ensures ∙ c.in_ok-places.ensures in (
      subst (λ n. is_held (held_at its n) ≡ true) (sym c.home_of-number.ensures) c.requires.held,
      can-put-plain decls out (contents_at its number) (room_at c.args.held.now.hold.stores number) results c.in_ok-copy.field-0 slot c.from_vec.result output other c.index_at_home-array.ensures at_places c.requires.many c.requires.fits c.in_ok-copy.ensures,
    )

pub plan-requires-clause-array : goal.plan-requires-clause-array
plan-requires-clause-array g c κs within =
    let decls = c.args.decls.now in
    let out = c.args.out.now in
    let results = c.args.results.now in
    let its = c.args.held.now.hold.its in
    let number = c.home_of-number.result in
    let slot = c.index_at_home-array.result in
    let output = subst (λ n. IsViewIn decls out (contents_at its n)) (sym c.home_of-number.ensures) c.requires.output in
    let strings = sym c.is_strings_array.ensures ∙ c.if-not-is_strings_array.false in
    let at_places = c.as_slice.ensures.value ∙ c.in_ok-places.ensures in
    let r = ready decls (contents_at its number).layout out slot c.as_slice.result.now (as-strings decls out (contents_at its number) output strings) c.index_at_home-array.ensures at_places in
    let many : count_of results ≡ length c.as_slice.result.now = c.requires.many ∙ sym r.count in
    let same = results-are (length c.as_slice.result.now) c.as_slice-2.result.now c.in-Values.values results c.in-Values.is c.as_slice-2.ensures many in
    r.index

pub plan-requires-clause-lengths : goal.plan-requires-clause-lengths
plan-requires-clause-lengths g c κs within =
    let decls = c.args.decls.now in
    let out = c.args.out.now in
    let results = c.args.results.now in
    let its = c.args.held.now.hold.its in
    let number = c.home_of-number.result in
    let slot = c.index_at_home-array.result in
    let output = subst (λ n. IsViewIn decls out (contents_at its n)) (sym c.home_of-number.ensures) c.requires.output in
    let strings = sym c.is_strings_array.ensures ∙ c.if-not-is_strings_array.false in
    let at_places = c.as_slice.ensures.value ∙ c.in_ok-places.ensures in
    let r = ready decls (contents_at its number).layout out slot c.as_slice.result.now (as-strings decls out (contents_at its number) output strings) c.index_at_home-array.ensures at_places in
    let many : count_of results ≡ length c.as_slice.result.now = c.requires.many ∙ sym r.count in
    let same = results-are (length c.as_slice.result.now) c.as_slice-2.result.now c.in-Values.values results c.in-Values.is c.as_slice-2.ensures many in
    ap length same ∙ (sym (ap count_of c.in-Values.is) ∙ many)

pub plan-requires-clause-distinct : goal.plan-requires-clause-distinct
plan-requires-clause-distinct g c κs within =
    let decls = c.args.decls.now in
    let out = c.args.out.now in
    let results = c.args.results.now in
    let its = c.args.held.now.hold.its in
    let number = c.home_of-number.result in
    let slot = c.index_at_home-array.result in
    let output = subst (λ n. IsViewIn decls out (contents_at its n)) (sym c.home_of-number.ensures) c.requires.output in
    let strings = sym c.is_strings_array.ensures ∙ c.if-not-is_strings_array.false in
    let at_places = c.as_slice.ensures.value ∙ c.in_ok-places.ensures in
    let r = ready decls (contents_at its number).layout out slot c.as_slice.result.now (as-strings decls out (contents_at its number) output strings) c.index_at_home-array.ensures at_places in
    let many : count_of results ≡ length c.as_slice.result.now = c.requires.many ∙ sym r.count in
    let same = results-are (length c.as_slice.result.now) c.as_slice-2.result.now c.in-Values.values results c.in-Values.is c.as_slice-2.ensures many in
    r.distinct

pub plan-requires-clause-places : goal.plan-requires-clause-places
plan-requires-clause-places g c κs within =
    let decls = c.args.decls.now in
    let out = c.args.out.now in
    let results = c.args.results.now in
    let its = c.args.held.now.hold.its in
    let number = c.home_of-number.result in
    let slot = c.index_at_home-array.result in
    let output = subst (λ n. IsViewIn decls out (contents_at its n)) (sym c.home_of-number.ensures) c.requires.output in
    let strings = sym c.is_strings_array.ensures ∙ c.if-not-is_strings_array.false in
    let at_places = c.as_slice.ensures.value ∙ c.in_ok-places.ensures in
    let r = ready decls (contents_at its number).layout out slot c.as_slice.result.now (as-strings decls out (contents_at its number) output strings) c.index_at_home-array.ensures at_places in
    let many : count_of results ≡ length c.as_slice.result.now = c.requires.many ∙ sym r.count in
    let same = results-are (length c.as_slice.result.now) c.as_slice-2.result.now c.in-Values.values results c.in-Values.is c.as_slice-2.ensures many in
    r.within

pub returns-clause-writes : goal.returns-clause-writes
returns-clause-writes g c d =
    let decls = c.args.decls.now in
    let out = c.args.out.now in
    let results = c.args.results.now in
    let its = c.args.held.now.hold.its in
    let number = c.home_of-number.result in
    let slot = c.index_at_home-array.result in
    let output = subst (λ n. IsViewIn decls out (contents_at its n)) (sym c.home_of-number.ensures) c.requires.output in
    let strings = sym c.is_strings_array.ensures ∙ c.if-not-is_strings_array.false in
    let at_places = c.as_slice.ensures.value ∙ c.in_ok-places.ensures in
    let r = ready decls (contents_at its number).layout out slot c.as_slice.result.now (as-strings decls out (contents_at its number) output strings) c.index_at_home-array.ensures at_places in
    let many : count_of results ≡ length c.as_slice.result.now = c.requires.many ∙ sym r.count in
    let same = results-are (length c.as_slice.result.now) c.as_slice-2.result.now c.in-Values.values results c.in-Values.is c.as_slice-2.ensures many in
    let writes = λ (k : ℕ) (ps : List ℕ) (vs : List Value). map (write_of k) (zip ps vs) in
    let planned : map (write_of c.in_ok-plan.plan.array) c.in_ok-plan.plan.puts ≡ writes (index_at_home decls out.array) (places_of out) c.in-Values.values =
    ap (λ (p : PlanValue). map (write_of p.array) p.puts) c.in_ok-plan.ensures.plan
    ∙ (ap (λ k. writes k c.as_slice.result.now (stretched (length c.as_slice.result.now) c.as_slice-2.result.now)) c.index_at_home-array.ensures
    ∙ (ap (λ ps. writes (index_at_home decls out.array) ps (stretched (length c.as_slice.result.now) c.as_slice-2.result.now)) at_places
    ∙ ap (λ vs. writes (index_at_home decls out.array) (places_of out) vs) same)) in
    let told : puts_told decls out results ≡ writes (index_at_home decls out.array) (places_of out) c.in-Values.values = ap (puts_told decls out) c.in-Values.is ∙ strings-told decls out c.in-Values.values strings in
    written-at decls out results (change.Strings c.in_ok-plan.plan) (work.Strings number c.in_ok-plan.plan) d c.home_of-number.ensures (told ∙ sym planned) refl
