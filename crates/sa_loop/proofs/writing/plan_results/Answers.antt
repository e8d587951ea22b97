use Rattle.std.proofs.Common.{◌≡◌, ℕ, List, length, map, ap, sym, ◌∙◌}
use Rattle.std.specs.List.{zip}
use Rattle.sa_text.specs.Values.{stretched}
use Rattle.sa_text.specs.declared.value.Value.{Value}
use Rattle.sa_alloc.specs.PlanValues.{PlanValue}
use Rattle.sa_plain.specs.Items.{count_of}
use Rattle.sa_plain.specs.declared.items.Items.{Items}
use Rattle.sa_view.specs.Views.{places_of}
use Rattle.sa_call.specs.Told.{index_at_home}
use Rattle.sa_hall.specs.Changes.{write_of}
use Rattle.sa_loop.specs.Runs.{room_holds}
use Rattle.sa_loop.specs.Writes.{puts_told}
use Rattle.sa_loop.proofs.PlanLemmas.{can-put-plain, told-plain}
use Rattle.sa_loop.proofs.ResultLemmas.{results-are}
use Rattle.sa_loop.proofs.StepLemmas.{strings-told}
use Rattle.sa_loop.proofs.ViewLemmas.{as-strings, ready, fits-some}
use Rattle.sa_loop.proofs.writing.plan_results.Goals as goal

pub places-requires : goal.places-requires
places-requires c = fits-some c.args.decls.now c.args.out.now c.requires.output.declared c.requires.output.array c.requires.output.view

pub returns-then-not-is_strings_array-clause-writes : goal.returns-then-not-is_strings_array-clause-writes
returns-then-not-is_strings_array-clause-writes c =
    let decls = c.args.decls.now in
    let out = c.args.out.now in
    let results = c.args.results.now in
    let room = c.args.room.now in
    let slot = c.index_at_home-array.result in
    let other = sym c.is_strings_array.ensures ∙ c.if-not-is_strings_array.true in
    let at_places = c.from_vec.ensures ∙ c.in_ok-places.ensures in
    told-plain decls out results c.in_ok-items.items slot c.from_vec.result other c.index_at_home-array.ensures at_places c.in_ok-items.ensures

pub returns-then-not-is_strings_array-clause-can : goal.returns-then-not-is_strings_array-clause-can
returns-then-not-is_strings_array-clause-can c =
    let decls = c.args.decls.now in
    let out = c.args.out.now in
    let results = c.args.results.now in
    let room = c.args.room.now in
    let slot = c.index_at_home-array.result in
    let other = sym c.is_strings_array.ensures ∙ c.if-not-is_strings_array.true in
    let at_places = c.from_vec.ensures ∙ c.in_ok-places.ensures in
    can-put-plain decls out (room_holds room) room.store.room results c.in_ok-items.items slot c.from_vec.result c.requires.output other c.index_at_home-array.ensures at_places c.requires.many c.requires.fits c.in_ok-items.ensures

pub plan-requires : goal.plan-requires
plan-requires c =
    let decls = c.args.decls.now in
    let out = c.args.out.now in
    let results = c.args.results.now in
    let room = c.args.room.now in
    let slot = c.index_at_home-array.result in
    let strings = sym c.is_strings_array.ensures ∙ c.if-not-is_strings_array.false in
    let at_places = c.as_slice.ensures.value ∙ c.in_ok-places.ensures in
    let r = ready decls (room_holds room).layout out slot c.as_slice.result.now (as-strings decls out (room_holds room) c.requires.output strings) c.index_at_home-array.ensures at_places in
    let many : count_of results ≡ length c.as_slice.result.now = c.requires.many ∙ sym r.count in
    let same = results-are (length c.as_slice.result.now) c.as_slice-2.result.now c.in-Values.values results c.in-Values.is c.as_slice-2.ensures many in
    record {
      array = r.index;
      lengths = ap length same ∙ (sym (ap count_of c.in-Values.is) ∙ many);
      distinct = r.distinct;
      places = r.within;
    }

pub returns-clause-writes : goal.returns-clause-writes
returns-clause-writes c =
    let decls = c.args.decls.now in
    let out = c.args.out.now in
    let results = c.args.results.now in
    let room = c.args.room.now in
    let slot = c.index_at_home-array.result in
    let strings = sym c.is_strings_array.ensures ∙ c.if-not-is_strings_array.false in
    let at_places = c.as_slice.ensures.value ∙ c.in_ok-places.ensures in
    let r = ready decls (room_holds room).layout out slot c.as_slice.result.now (as-strings decls out (room_holds room) c.requires.output strings) c.index_at_home-array.ensures at_places in
    let many : count_of results ≡ length c.as_slice.result.now = c.requires.many ∙ sym r.count in
    let same = results-are (length c.as_slice.result.now) c.as_slice-2.result.now c.in-Values.values results c.in-Values.is c.as_slice-2.ensures many in
    let writes = λ (k : ℕ) (ps : List ℕ) (vs : List Value). map (write_of k) (zip ps vs) in
    let planned : map (write_of c.in_ok-plan.plan.array) c.in_ok-plan.plan.puts ≡ writes (index_at_home decls out.array) (places_of out) c.in-Values.values =
    ap (λ (p : PlanValue). map (write_of p.array) p.puts) c.in_ok-plan.ensures.plan
    ∙ (ap (λ k. writes k c.as_slice.result.now (stretched (length c.as_slice.result.now) c.as_slice-2.result.now)) c.index_at_home-array.ensures
    ∙ (ap (λ ps. writes (index_at_home decls out.array) ps (stretched (length c.as_slice.result.now) c.as_slice-2.result.now)) at_places
    ∙ ap (λ vs. writes (index_at_home decls out.array) (places_of out) vs) same)) in
    let told : puts_told decls out results ≡ writes (index_at_home decls out.array) (places_of out) c.in-Values.values = ap (puts_told decls out) c.in-Values.is ∙ strings-told decls out c.in-Values.values strings in
    planned ∙ sym told
