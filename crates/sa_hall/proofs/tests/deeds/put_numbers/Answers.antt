use Rattle.std.proofs.Common.{◌≡◌, ℤ, List, [], ◌++◌, zip, map, ap, ◌∙◌}
use Rattle.sa_base.specs.Items.{IntegerItem}
use Rattle.sa_hall.specs.Contents.{Contents, after_writes}
use Rattle.sa_hall.specs.Holds.{contents_at}
use Rattle.sa_hall.specs.Changes.{write_of, plain_write_of}
use Rattle.sa_hall.proofs.UseLemmas.{on-ok}
use Rattle.sa_hall.proofs.RunLemmas.{numbers-step}
use Rattle.sa_hall.proofs.tests.deeds.put_numbers.Goals as goal

pub returns-clause-written : goal.returns-clause-written
returns-clause-written g c =
    let old = contents_at c.args.held.now.hold.its 0 in
    let puts = zip c.in_ok-kept.kept (map (λ (k : ℤ). IntegerItem k) c.args.numbers) in
    on-ok (λ n. contents_at c.write.new.held.hold.its 0 ≡ after_writes old (map (write_of 0) (zip c.new.result c.new-2.result) ++ (map (plain_write_of 0) puts ++ [])))
    ((contents_at c.write.new.held.hold.its 0).layout ≡ old.layout)
    c.write.result
    (λ n e. ap (λ (x : Contents). x.layout) e ∙ numbers-step old c.new.result c.new-2.result puts c.new.ensures)
    c.write.ensures.written
