use Rattle.std.proofs.Common.{ℕ, List, sym, ap, ◌∙◌, subst}
use Rattle.sa_alloc.specs.Layouts.{Layout}
use Rattle.sa_plain.specs.Items.{items_of}
use Rattle.sa_plain.specs.Plains.{put_items}
use Rattle.sa_hall.specs.declared.change.Change.{Change}
use Rattle.sa_hall.specs.Contents.{Contents, after_writes}
use Rattle.sa_hall.specs.Changes.{contents_of, writes_by, CanChange}
use Rattle.sa_hall.proofs.WriteLemmas.{strings-written, plains-changed}
use Rattle.sa_hall.proofs.change.carry_out.Goals as goal

pub returns-in-Strings : goal.returns-in-Strings
returns-in-Strings c =
    let old = contents_of c.args.store.now c.args.plains.now.items in
    ap (λ (l : Layout). let d : Contents = record { layout = l; plains = c.args.plains.now.items } in d) c.write.ensures.layout
    ∙ sym (strings-written c.in-Strings.plan.array old c.in-Strings.plan.puts)
    ∙ ap (λ (ch : Change). after_writes old (writes_by ch)) (sym c.in-Strings.is)

pub returns-in-Plains : goal.returns-in-Plains
returns-in-Plains c =
    let old = contents_of c.args.store.now c.args.plains.now.items in
    let can = subst (λ (ch : Change). CanChange old c.args.store.now.room ch) c.in-Plains.is c.requires in
    plains-changed c.in-Plains.array old c.in-Plains.places (items_of c.in-Plains.items) c.index_mut.result.now c.put_items.new.self can.0 c.index_mut.ensures.value
    (c.put_items.ensures ∙ ap (λ (ks : List ℕ). put_items c.index_mut.result.now ks (items_of c.in-Plains.items)) c.as_slice.ensures)
    ∙ ap (λ (ch : Change). after_writes old (writes_by ch)) (sym c.in-Plains.is)
