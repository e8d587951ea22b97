use Rattle.std.proofs.Common.{◌≡◌, Bor, Some, Option, length, sym, ap, ◌∙◌}
use Rattle.std.specs.Option.{option_map}
use Rattle.sa_alloc.specs.Layouts.{Layout}
use Rattle.sa_alloc.specs.declared.store.Store.{Store}
use Rattle.sa_hall.specs.Domains.{Kept}
use Rattle.sa_hall.specs.Holds.{contents_in, held_at}
use Rattle.sa_loop.specs.declared.act.Act.{Act}
use Rattle.sa_loop.specs.States.{lengths_of}
use Rattle.sa_work.specs.Threads.{holds_of}
use Rattle.sa_work.proofs.ThreadLemmas.{listed-at, store-below, store-none, store-some}
use Rattle.sa_work.proofs.threaded.ThreadedGathered.store.Goals as goal

pub returns-in_err-domain-clause-store : goal.returns-in_err-domain-clause-store
returns-in_err-domain-clause-store c =
    let t = c.args.self.now in
    ap (option_map (λ (s : Bor Store). s.now.contents.layout)) c.from_residual.ensures ∙ store-none t.quiet (length t.decls.now.descrs) c.args.number t.there (sym c.in_err-domain.ensures)

pub returns-clause-store : goal.returns-clause-store
returns-clause-store c =
    let t = c.args.self.now in
    ap (λ (l : Layout). Some l) c.store.ensures.layout ∙ store-some t.quiet (length t.decls.now.descrs) c.args.number c.in_ok-domain.domain.now.it t.there (sym c.in_ok-domain.ensures)

pub returns-clause-shape : goal.returns-clause-shape
returns-clause-shape c =
    let t = c.args.self.now in
    let decls = t.decls.now in
    let it = c.in_ok-domain.domain.now.it in
    let at : held_at t.quiet c.args.number ≡ Some it = sym c.in_ok-domain.ensures in
    let below = store-below t.quiet (length decls.descrs) c.args.number it t.there at in
    ap (λ (l : Layout). l.lengths) (c.store.ensures.layout ∙ ap (λ (o : Option (Kept Act)). (contents_in o).layout) (sym at))
    ∙ listed-at (λ d. (holds_of t.quiet d).layout.lengths) (lengths_of decls) (length decls.descrs) c.args.number t.shaped below
