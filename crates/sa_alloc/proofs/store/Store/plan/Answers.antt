-- A plan's puts are as many as its places, their entries exist, and what was reserved is what they need.
use Rattle.std.proofs.Common.{◌≡◌, ◌<◌, ◌+◌, ℕ, length, slice_index, sym, ap, ◌∙◌, subst, arith}
use Rattle.std.specs.List.{AllByRecursion, zip}
use Rattle.std.proofs.lemmas.Slice.Zip.{length-zip}
use Rattle.sa_text.specs.declared.value.Value.{Value}
use Rattle.sa_text.specs.Values.{stretched}
use Rattle.sa_alloc.specs.Needs.{bytes_most, keys_most}
use Rattle.sa_alloc.specs.PlanValues.{PlanValue}
use Rattle.sa_alloc.specs.Transitions.{storage}
use Rattle.sa_alloc.specs.StoreValues.{StoreValue}
use Rattle.sa_alloc.specs.Stores.{IsPlan, puts_of, puts_from}
use Rattle.sa_alloc.proofs.StoreLemmas.{stored, contents_from, cursor-now, size-now, spare-now}
use Rattle.sa_alloc.proofs.PlanLemmas.{zip-entries, zip-places, places-few, plan-apart, slots-tell, IsReserved, reserved}
use Rattle.sa_alloc.proofs.store.Store.plan.Goals as goal
use Rattle.sa_alloc.proofs.store.Store.plan.Goals.{After-new}

pub needs-bytes-requires-clause-few : goal.needs-bytes-requires-clause-few
needs-bytes-requires-clause-few c =
    let places = c.args.places.now in
    let values = stretched (length places) c.args.values.now in
    let items = ap length (c.as_slice.ensures.value ∙ c.in_ok-puts.ensures) in
    let zipped = length-zip places values in
    let few = places-few (slice_index c.args.self.now.contents.layout.lengths c.args.array) places c.requires.distinct c.requires.places in
    let within = c.first.ensures.few in
    let limit = c.first.ensures.limit in
    omega arith

pub needs-bytes-requires-clause-entries : goal.needs-bytes-requires-clause-entries
needs-bytes-requires-clause-entries c =
    subst (AllByRecursion (λ (p : ℕ × Value). c.first.result + p.0 < length c.args.self.now.contents.slots)) (sym (c.as_slice.ensures.value ∙ c.in_ok-puts.ensures))
    (zip-entries c.first.result (length c.args.self.now.contents.slots) _ c.args.places.now _ c.first.ensures.few c.requires.places)

pub returns-clause-valid : goal.returns-clause-valid
returns-clause-valid c =
    let puts = zip c.args.places.now (stretched (length c.args.places.now) c.args.values.now) in
    let it : IsPlan c.args.self.now.contents.layout.lengths (record { array = c.args.array; puts = puts }) =
    record { array = c.requires.array; places = zip-places _ c.args.places.now _ c.requires.places } in
    subst (IsPlan c.args.self.now.contents.layout.lengths) (sym (c.new.ensures ∙ ap (λ ps. let x : PlanValue = record { array = c.args.array; puts = ps } in x) c.in_ok-puts.ensures)) it

-- what was reserved, for the puts of the plan
reserved_by : (c : After-new) → IsReserved c.args.self.now (stored c.self.inside.lengths.items (storage c.reserve.new.self.extents c.reserve-2.new.self.texts) c.self.inside.entries.items c.reserve.new.self.size c.reserve-2.new.self.spare)
    (puts_of c.args.self.now.contents.layout.lengths c.new.result)
reserved_by c =
    let s = c.self.inside in
    let now = c.args.self.now in
    let new = stored s.lengths.items (storage c.reserve.new.self.extents c.reserve-2.new.self.texts) s.entries.items c.reserve.new.self.size c.reserve-2.new.self.spare in
    let first = c.first.result in
    let values = stretched (length c.args.places.now) c.args.values.now in
    let puts = puts_from first (zip c.args.places.now values) in
    let items = c.as_slice.ensures.value ∙ c.in_ok-puts.ensures in
    let same : new.contents ≡ now.contents =
    ap (λ es. contents_from s.lengths.items (storage es c.reserve-2.new.self.texts) s.entries.items) c.reserve.ensures.extents
    ∙ ap (λ ks. contents_from s.lengths.items (storage s.arena.extents ks) s.entries.items) c.reserve-2.ensures.texts
    ∙ ap (λ (x : StoreValue). x.contents) c.self.view_is in
    let spare_was = spare-now s _ c.self.view_is in
    let bytes = c.needs-bytes.ensures.bytes ∙ ap (λ ps. bytes_most now.contents.slots (puts_from first ps)) items in
    let keys = c.needs-bytes.ensures.keys ∙ ap (λ ps. keys_most now.contents.slots (puts_from first ps)) items in
    let told = slots-tell s now puts c.self.view_is (plan-apart first c.args.places.now values c.requires.distinct) in
    let it = reserved now new s.arena puts _ _ told bytes keys same (cursor-now s _ c.self.view_is) (size-now s _ c.self.view_is) c.in_ok-reserve.ensures.size c.in_ok-reserve-2.ensures.room
    (λ h. c.reserve-2.ensures.kept (omega arith) ∙ spare_was) in
    let plan_is : puts ≡ puts_of now.contents.layout.lengths c.new.result =
    ap (λ n. puts_from n (zip c.args.places.now values)) c.first.ensures.first
    ∙ ap (λ (p : PlanValue). puts_of now.contents.layout.lengths p) (sym (c.new.ensures ∙ ap (λ ps. let x : PlanValue = record { array = c.args.array; puts = ps } in x) c.in_ok-puts.ensures)) in
    subst (IsReserved now new) plan_is it

pub returns-clause-room : goal.returns-clause-room
returns-clause-room c = (reserved_by (goal.at.returns-clause-room c).After-new).room

pub returns-clause-size : goal.returns-clause-size
returns-clause-size c = (reserved_by (goal.at.returns-clause-size c).After-new).size

pub returns-clause-spare : goal.returns-clause-spare
returns-clause-spare c = (reserved_by (goal.at.returns-clause-spare c).After-new).spare
