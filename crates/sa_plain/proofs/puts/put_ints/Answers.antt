use Rattle.std.proofs.Common.{◌∙◌, ap, sym, take, map, get_or, pos, arith, w64, rules}
use Rattle.std.proofs.lemmas.Int.{to_z-of_z}
use Rattle.sa_base.specs.Items.{IntegerItem}
use Rattle.sa_plain.specs.Plains.{holds_ints, put_item}
use Rattle.sa_plain.proofs.PlainLemmas.{kind_after, there_after, put_more}
use Rattle.sa_plain.proofs.puts.put_ints.Goals as goal

pub put_int-requires-clause-kind : goal.put_int-requires-clause-kind
put_int-requires-clause-kind c = kind_after holds_ints c.args.plain.now c.loop-k.plain (take c.loop-k.k c.args.places.now) (map IntegerItem (take c.loop-k.k c.args.numbers.now)) c.loop-k.invariant c.requires.kind

pub put_int-requires-clause-there : goal.put_int-requires-clause-there
put_int-requires-clause-there c = there_after c.args.plain.now c.loop-k.plain (take c.loop-k.k c.args.places.now) (map IntegerItem (take c.loop-k.k c.args.numbers.now)) c.args.places.now c.loop-k.k 0 c.loop-k.invariant c.requires.below (omega arith)

pub loop-k-preserved : goal.loop-k-preserved
loop-k-preserved c =
    c.put_int.ensures ∙ ap (λ n. put_item c.loop-k.plain (get_or c.args.places.now c.loop-k.k 0) (IntegerItem n)) (to_z-of_z w64 (get_or c.args.numbers.now c.loop-k.k (pos 0)) (search rules)) ∙ ap (λ p. put_item p (get_or c.args.places.now c.loop-k.k 0) (IntegerItem (get_or c.args.numbers.now c.loop-k.k (pos 0)))) c.loop-k.invariant
    ∙ sym (put_more IntegerItem c.args.plain.now c.args.places.now c.args.numbers.now c.loop-k.k 0 (pos 0) c.requires.many (omega arith))
