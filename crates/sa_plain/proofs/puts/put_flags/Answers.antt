use Rattle.std.proofs.Common.{◌∙◌, ap, sym, take, map, get_or, false, arith}
use Rattle.sa_base.specs.Items.{FlagItem}
use Rattle.sa_plain.specs.Plains.{holds_flags, put_item}
use Rattle.sa_plain.proofs.PlainLemmas.{kind_after, there_after, put_more}
use Rattle.sa_plain.proofs.puts.put_flags.Goals as goal

pub put_flag-requires-clause-kind : goal.put_flag-requires-clause-kind
put_flag-requires-clause-kind c = kind_after holds_flags c.args.plain.now c.loop-k.plain (take c.loop-k.k c.args.places.now) (map FlagItem (take c.loop-k.k c.args.flags.now)) c.loop-k.invariant c.requires.kind

pub put_flag-requires-clause-there : goal.put_flag-requires-clause-there
put_flag-requires-clause-there c = there_after c.args.plain.now c.loop-k.plain (take c.loop-k.k c.args.places.now) (map FlagItem (take c.loop-k.k c.args.flags.now)) c.args.places.now c.loop-k.k 0 c.loop-k.invariant c.requires.below (omega arith)

pub loop-k-preserved : goal.loop-k-preserved
loop-k-preserved c =
    c.put_flag.ensures ∙ ap (λ p. put_item p (get_or c.args.places.now c.loop-k.k 0) (FlagItem (get_or c.args.flags.now c.loop-k.k false))) c.loop-k.invariant
    ∙ sym (put_more FlagItem c.args.plain.now c.args.places.now c.args.flags.now c.loop-k.k 0 false c.requires.many (omega arith))
