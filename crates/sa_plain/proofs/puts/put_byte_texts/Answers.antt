use Rattle.std.proofs.Common.{◌≤◌, ◌∙◌, ap, sym, subst, length, take, map, get_or, arith}
use Rattle.sa_base.specs.Items.{BytesItem}
use Rattle.sa_plain.specs.Plains.{holds_bytes, width_of, put_item}
use Rattle.sa_plain.proofs.PlainLemmas.{kind_after, there_after, fits_after, put_more}
use Rattle.sa_plain.proofs.puts.put_byte_texts.Goals as goal

pub put_bytes-requires-clause-kind : goal.put_bytes-requires-clause-kind
put_bytes-requires-clause-kind c = kind_after holds_bytes c.args.plain.now c.loop-k.plain (take c.loop-k.k c.args.places.now) (map BytesItem (take c.loop-k.k c.args.rows.now)) c.loop-k.invariant c.requires.kind

pub put_bytes-requires-clause-there : goal.put_bytes-requires-clause-there
put_bytes-requires-clause-there c = there_after c.args.plain.now c.loop-k.plain (take c.loop-k.k c.args.places.now) (map BytesItem (take c.loop-k.k c.args.rows.now)) c.args.places.now c.loop-k.k 0 c.loop-k.invariant c.requires.below (omega arith)

pub put_bytes-requires-clause-fits : goal.put_bytes-requires-clause-fits
put_bytes-requires-clause-fits c =
    fits_after c.args.plain.now c.loop-k.plain (take c.loop-k.k c.args.places.now) (map BytesItem (take c.loop-k.k c.args.rows.now)) c.as_slice.result.now c.loop-k.invariant
    (subst (λ row. length row ≤ width_of c.args.plain.now.kind) (sym (c.as_slice.ensures ∙ c.index-rows-k.is)) (c.requires.fit c.loop-k.k c.index-rows-k.result (omega arith)))

pub loop-k-preserved : goal.loop-k-preserved
loop-k-preserved c =
    c.put_bytes.ensures ∙ (ap (λ row. put_item c.loop-k.plain (get_or c.args.places.now c.loop-k.k 0) (BytesItem row)) (c.as_slice.ensures ∙ c.index-rows-k.is)) ∙ ap (λ p. put_item p (get_or c.args.places.now c.loop-k.k 0) (BytesItem (get_or c.args.rows.now c.loop-k.k c.index-rows-k.result))) c.loop-k.invariant
    ∙ sym (put_more BytesItem c.args.plain.now c.args.places.now c.args.rows.now c.loop-k.k 0 c.index-rows-k.result c.requires.many (omega arith))
