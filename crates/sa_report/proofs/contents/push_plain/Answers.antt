use Rattle.std.proofs.Common.{◌≡◌, ◌++◌, ap, ◌∙◌, subst}
use Rattle.std.specs.Result.{OnOk}
use Rattle.sa_plain.specs.Plains.{items_at}
use Rattle.sa_plain.specs.Written.{list_bytes}
use Rattle.sa_plain.specs.declared.items.Items.{Items}
use Rattle.sa_report.proofs.ContentLemmas.{all-items, places-below}
use Rattle.sa_report.proofs.contents.push_plain.Goals as goal

pub items_at-requires : goal.items_at-requires
items_at-requires c = places-below c.as_slice.result.now c.len.result _ (c.as_slice.ensures.value ∙ c.in_ok-places.ensures) c.len.ensures.len

pub returns : goal.returns
returns c =
    let p = c.args.plain.now in
    let at_places = c.as_slice.ensures.value ∙ c.in_ok-places.ensures in
    let same = all-items p c.len.result c.in_ok-items.items c.len.ensures.len (c.in_ok-items.ensures.items ∙ ap (items_at p) at_places) c.in_ok-items.ensures.kind in
    subst (λ (i : Items). OnOk c.push_items.result (c.push_items.new.out.items ≡ c.args.out.now.items ++ list_bytes i)) same c.push_items.ensures
