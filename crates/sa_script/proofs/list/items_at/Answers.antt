use Rattle.std.proofs.Common.{◌≡◌, ◌-◌, ◌+◌, length, arith, sym, ap, ◌∙◌, Some}
use Rattle.std.proofs.lemmas.Bool.{ne_eqb}
use Rattle.sa_script.specs.Items.{items_at, further_at}
use Rattle.sa_script.proofs.ItemLemmas.{items_at_none, items_at_comma, items_at_closed, items_at_other}
use Rattle.sa_script.proofs.list.items_at.Goals as goal

pub returns-in_default : goal.returns-in_default
returns-in_default g c =
    sym (items_at_none g.T.Item.at (length c.args.bytes.now - c.items.counter) c.items.so_far c.items.rest.now (omega arith) (sym (rw c.in_default.is at c.in_ok-byte.ensures)))
    ∙ c.items.invariant

pub returns-then-byte-eq41 : goal.returns-then-byte-eq41
returns-then-byte-eq41 g c =
    let read : further_at g.T.Item.at c.items.so_far c.items.rest.now ≡ Some (c.further_at.new.so_far, c.in-Some.byte, c.in-Some.others.now) = sym (rw c.in-Some.is at c.in_ok-byte.ensures) in
    sym (items_at_closed g.T.Item.at (length c.args.bytes.now - c.items.counter) c.items.so_far c.items.rest.now c.further_at.new.so_far c.in-Some.byte c.in-Some.others.now (omega arith) read c.if-byte-eq41.true)
    ∙ c.items.invariant

pub returns-then-byte-ne44 : goal.returns-then-byte-ne44
returns-then-byte-ne44 g c =
    let read : further_at g.T.Item.at c.items.so_far c.items.rest.now ≡ Some (c.further_at.new.so_far, c.in-Some.byte, c.in-Some.others.now) = sym (rw c.in-Some.is at c.in_ok-byte.ensures) in
    sym (items_at_other g.T.Item.at (length c.args.bytes.now - c.items.counter) c.items.so_far c.items.rest.now c.further_at.new.so_far c.in-Some.byte c.in-Some.others.now (omega arith) read
    (ne_eqb c.in-Some.byte 44 c.if-byte-ne44.true) (ne_eqb c.in-Some.byte 41 c.if-byte-eq41.false))
    ∙ c.items.invariant

pub items-preserved : goal.items-preserved
items-preserved g c =
    let read : further_at g.T.Item.at c.items.so_far c.items.rest.now ≡ Some (c.further_at.new.so_far, c.in-Some.byte, c.in-Some.others.now) = sym (rw c.in-Some.is at c.in_ok-byte.ensures) in
    let one_less : length c.args.bytes.now - (c.items.counter + 1) ≡ (length c.args.bytes.now - c.items.counter) - 1 = omega arith in
    ap (λ left. items_at g.T.Item.at left c.further_at.new.so_far c.in-Some.others.now) one_less
    ∙ sym (items_at_comma g.T.Item.at (length c.args.bytes.now - c.items.counter) c.items.so_far c.items.rest.now c.further_at.new.so_far c.in-Some.byte c.in-Some.others.now (omega arith) read c.if-byte-ne44.false)
    ∙ c.items.invariant
