use Rattle.std.proofs.Common.{◌≡◌, List, ap, ◌∙◌, sym, subst}
use Rattle.sa_alloc.specs.Consistency.{IsSmall}
use Rattle.sa_alloc.specs.Layouts.{Layout, opening_layout}
use Rattle.sa_alloc.specs.StoreValues.{StoreValue}
use Rattle.sa_plain.specs.Plains.{PlainValue}
use Rattle.sa_hall.specs.Contents.{Contents}
use Rattle.sa_hall.specs.Domains.{ArePlains}
use Rattle.sa_hall.proofs.WriteLemmas as hall
use Rattle.sa_loop.specs.States.{lengths_of, opening_plains, plains_of}
use Rattle.sa_loop.proofs.SlotLemmas.{small-lengths, small-plains}
use Rattle.sa_loop.proofs.opening.opening_room.Goals as goal

pub new-requires : goal.new-requires
new-requires c = subst IsSmall (sym (c.as_slice.ensures.value ∙ c.in_ok-lengths.ensures)) (small-lengths c.args.decls.now c.args.home c.requires)

pub opening_plains-requires : goal.opening_plains-requires
opening_plains-requires c = subst ArePlains (sym (c.as_slice-2.ensures.value ∙ c.in_ok-kinds.ensures)) (small-plains c.args.decls.now c.args.home c.requires)

pub returns : goal.returns
returns c =
    let d = c.args.decls.now in
    let layout : c.in_ok-new.field-0.contents.layout ≡ opening_layout (lengths_of d c.args.home) = ap (λ (s : StoreValue). s.contents.layout) c.in_ok-new.ensures ∙ ap opening_layout (c.as_slice.ensures.value ∙ c.in_ok-lengths.ensures) in
    let plains : c.in_ok-opening_plains.field-0.items ≡ opening_plains (plains_of d c.args.home) =
    c.in_ok-opening_plains.ensures ∙ (hall.opening_plains c.as_slice-2.result.now ∙ ap opening_plains (c.as_slice-2.ensures.value ∙ c.in_ok-kinds.ensures)) in
    λ i. let held : Contents = record { layout = layout i; plains = plains i } in held
