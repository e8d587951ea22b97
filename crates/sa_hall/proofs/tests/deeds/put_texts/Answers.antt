use Rattle.std.proofs.Common.{◌≡◌, ℤ, List, [], ◌∷◌, ◌++◌, Option, zip, map, ap, ◌∙◌}
use Rattle.sa_base.specs.Items.{IntegerItem}
use Rattle.sa_alloc.specs.Layouts.{put_all}
use Rattle.sa_alloc.specs.Stores.{puts_from}
use Rattle.sa_hall.specs.Contents.{Contents, after_writes}
use Rattle.sa_hall.specs.Domains.{Kept}
use Rattle.sa_hall.specs.Holds.{contents_at}
use Rattle.sa_hall.specs.Changes.{write_of, plain_write_of}
use Rattle.sa_hall.specs.declared.tests.deeds.Note.{Note}
use Rattle.sa_hall.proofs.UseLemmas.{on-ok}
use Rattle.sa_hall.proofs.RunLemmas.{texts-step}
use Rattle.sa_hall.proofs.tests.deeds.put_texts.Goals as goal

pub returns-clause-written : goal.returns-clause-written
returns-clause-written g c =
    let old = contents_at c.plan.new.self.hold.its 0 in
    let puts = zip c.args.places c.args.values in
    on-ok (λ n. contents_at c.write.new.held.hold.its 0 ≡ after_writes old (map (write_of 0) puts ++ (map (plain_write_of 0) (zip c.new.result (map (λ (k : ℤ). IntegerItem k) c.new-2.result)) ++ [])))
    (contents_at c.write.new.held.hold.its 0 ≡ record { layout = put_all (contents_at c.args.held.now.hold.its 0).layout (puts_from 0 puts); plains = (contents_at c.args.held.now.hold.its 0).plains })
    c.write.result
    (λ n e. e ∙ texts-step old puts c.new.result (map (λ (k : ℤ). IntegerItem k) c.new-2.result) c.new.ensures
    ∙ ap (λ (os : List (Option (Kept Note))). let x : Contents = record { layout = put_all (contents_at os 0).layout (puts_from 0 puts); plains = (contents_at os 0).plains } in x) c.plan.ensures.its)
    c.write.ensures.written
