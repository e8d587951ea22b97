use Rattle.std.proofs.Common.{◌≡◌, take, map}
use Rattle.sa_base.specs.Items.{UnitsItem}
use Rattle.sa_plain.specs.Plains.{put_items}
use Rattle.sa_plain.proofs.puts.put_unit_texts.Given as goal

abbrev pub invariant-loop-k : goal.invariant-loop-k
invariant-loop-k l = l.plain ≡ put_items l.fn.plain (take l.k l.places) (map (λ r. UnitsItem r) (take l.k l.rows))
