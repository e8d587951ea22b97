-- A put is one step on the parts of the store.
use Rattle.std.proofs.Common.{ap, ◌∙◌, arith}
use Rattle.sa_alloc.specs.Layouts.{put, incoming}
use Rattle.sa_alloc.specs.StoreValues.{StoreValue}
use Rattle.sa_alloc.specs.Transitions.{storage}
use Rattle.sa_alloc.proofs.ConsistencyLemmas.{PutsOne}
use Rattle.sa_alloc.proofs.StoreLemmas.{parts, cursor-now, size-now, spare-now, present-now, bytes-now, keys-now, step-puts}
use Rattle.sa_alloc.proofs.store.Store.put.Goals as goal
use Rattle.sa_alloc.proofs.store.Store.put.Goals.{After-step}

pub step-requires-clause-present : goal.step-requires-clause-present
step-requires-clause-present c = present-now c.self.inside _ c.self.view_is c.self.invariant _ _ c.requires.entry c.index_mut.ensures.value

pub step-requires-clause-bytes : goal.step-requires-clause-bytes
step-requires-clause-bytes c =
    let bytes = bytes-now c.self.inside _ c.self.view_is c.self.invariant _ _ c.requires.entry c.index_mut.ensures.value (incoming c.args.value) in
    let cursor = cursor-now c.self.inside _ c.self.view_is in
    let size = size-now c.self.inside _ c.self.view_is in
    let room = c.requires.bytes in
    omega arith

pub step-requires-clause-keys : goal.step-requires-clause-keys
step-requires-clause-keys c =
    let keys = keys-now c.self.inside _ c.self.view_is c.self.invariant _ _ c.requires.entry c.index_mut.ensures.value (incoming c.args.value) in
    let spare = spare-now c.self.inside _ c.self.view_is in
    let room = c.requires.keys in
    omega arith

puts : (c : After-step) → PutsOne c.self.inside.lengths.items (parts c.self.inside) c.self.inside.entries.items c.args.entry c.args.value (storage c.step.new.arena.extents c.step.new.outside.texts) c.step.new.slot
puts c = step-puts c.self.inside _ c.self.view_is c.self.invariant _ _ c.requires.entry c.index_mut.ensures.value _ _ _ c.step.ensures.spelled c.step.ensures.steps

pub invariant_of-self : goal.invariant_of-self
invariant_of-self c = record { consistent = (puts (goal.at.invariant_of-self c).After-step).consistent; starts_are = c.self.invariant.starts_are; small = c.self.invariant.small }

pub returns-clause-layout : goal.returns-clause-layout
returns-clause-layout c = (puts (goal.at.returns-clause-layout c).After-step).layout ∙ ap (λ (x : StoreValue). put x.contents.layout c.args.entry c.args.value) c.self.view_is

pub returns-clause-spare : goal.returns-clause-spare
returns-clause-spare c =
    let keys = keys-now c.self.inside _ c.self.view_is c.self.invariant _ _ c.requires.entry c.index_mut.ensures.value (incoming c.args.value) in
    let spare = spare-now c.self.inside _ c.self.view_is in
    let told = c.step.ensures.spare in
    omega arith
