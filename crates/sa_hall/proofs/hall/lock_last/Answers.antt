use Rattle.std.proofs.Common.{◌≡◌, List, [], ◌∷◌, length, ap, arith, length-append}
use Rattle.sa_hall.specs.Domains.{HasEntries, IsPlaced, DomainValue}
use Rattle.sa_hall.proofs.HallLemmas.{all-less, all-last}
use Rattle.sa_hall.proofs.hall.lock_last.Goals as goal

pub new-requires-after_bounds : goal.new-requires-after_bounds
new-requires-after_bounds g c κs within =
    let all = ap (λ (ds : List (DomainValue g.row.D.Denot)). length ds) c.in-Some.ensures.items in
    let one = length-append c.pop.new.self.items (c.in-Some.domain ∷ []) in
    let count : length c.pop.new.self.items ≡ g.row.K = omega (arith, all, one, c.requires.count, c.len.ensures, c.from.ensures, c.if-len-from.false) in (
      omega arith,
      (
        all-last (λ d k. IsPlaced g.B.Binding.roll g.B.Binding.ties g.B.Binding.shapes d k) c.args.domains.now.items c.pop.new.self.items c.in-Some.domain g.row.K c.in-Some.ensures.items c.requires.placed count,
        all-last (λ d k. HasEntries k.contents.layout) c.args.domains.now.items c.pop.new.self.items c.in-Some.domain g.row.K c.in-Some.ensures.items c.requires.entries count,
      ),
    )

pub returns-clause-placed : goal.returns-clause-placed
returns-clause-placed g c = all-less (λ d k. IsPlaced g.B.Binding.roll g.B.Binding.ties g.B.Binding.shapes d k) c.args.domains.now.items c.pop.new.self.items c.in-Some.domain c.in-Some.ensures.items c.requires.placed

pub returns-clause-entries : goal.returns-clause-entries
returns-clause-entries g c = all-less (λ d k. HasEntries k.contents.layout) c.args.domains.now.items c.pop.new.self.items c.in-Some.domain c.in-Some.ensures.items c.requires.entries
