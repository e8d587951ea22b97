use Rattle.std.proofs.Common.{◌≡◌, ◌+◌, List, ◌∷◌, length, slice_get, ap, sym, ◌∙◌, subst, arith}
use Rattle.std.specs.Vec.Iter.{into_iter_items}
use Rattle.sa_journal.specs.Chains.{Roomy}
use Rattle.sa_journal.specs.Journals.{IsNew}
use Rattle.sa_journal.proofs.tests.runs.parties.Goals as goal

pub new-requires-after_bounds : goal.new-requires-after_bounds
new-requires-after_bounds g c κs within =
    let all : c.args.chains ≡ c.in-Some.first ∷ into_iter_items c.next.new.self = sym c.into_vec.ensures ∙ sym c.into_iter-chains.ensures.rest ∙ c.in-Some.ensures.items in
    let new = c.requires.each 0 c.in-Some.first (ap (λ (xs : List (Roomy g.row.D.Denot)). slice_get xs 0) all) in
    let descrs : length g.B.Binding.shapes ≡ 2 = c.requires.descrs in
    (omega arith, (omega (arith, descrs), new))

pub new-requires-3-after_bounds : goal.new-requires-3-after_bounds
new-requires-3-after_bounds g c κs within =
    let all : c.args.chains ≡ c.in-Some.first ∷ into_iter_items c.next.new.self = sym c.into_vec.ensures ∙ sym c.into_iter-chains.ensures.rest ∙ c.in-Some.ensures.items in
    let both : c.args.chains ≡ c.in-Some.first ∷ c.in-Some-next.second ∷ into_iter_items c.next-2.new.self = all ∙ ap (λ xs. c.in-Some.first ∷ xs) c.in-Some-next.ensures.items in
    let new = c.requires.each 1 c.in-Some-next.second (ap (λ (xs : List (Roomy g.row.D.Denot)). slice_get xs 1) both) in
    let descrs : length g.B.Binding.shapes ≡ 2 = c.requires.descrs in
    (omega arith, (omega (arith, descrs), new))

pub new-requires-5-after_bounds : goal.new-requires-5-after_bounds
new-requires-5-after_bounds g c κs within =
    let all : c.args.chains ≡ c.in-Some.first ∷ into_iter_items c.next.new.self = sym c.into_vec.ensures ∙ sym c.into_iter-chains.ensures.rest ∙ c.in-Some.ensures.items in
    let both : c.args.chains ≡ c.in-Some.first ∷ c.in-Some-next.second ∷ into_iter_items c.next-2.new.self = all ∙ ap (λ xs. c.in-Some.first ∷ xs) c.in-Some-next.ensures.items in
    let three : c.args.chains ≡ c.in-Some.first ∷ c.in-Some-next.second ∷ c.in-Some-next-2.one ∷ into_iter_items c.next-3.new.self = both ∙ ap (λ xs. c.in-Some.first ∷ c.in-Some-next.second ∷ xs) c.in-Some-next-2.ensures.items in
    let new = c.requires.each 2 c.in-Some-next-2.one (ap (λ (xs : List (Roomy g.row.D.Denot)). slice_get xs 2) three) in
    let place : 2 ≡ length g.B.Binding.shapes + 0 = omega (arith, c.requires.descrs) in
    subst (λ k. IsNew g.B.Binding.roll g.B.Binding.ties (length g.B.Binding.shapes) k c.in-Some-next-2.one.it) place new

pub new-requires-6-after_bounds : goal.new-requires-6-after_bounds
new-requires-6-after_bounds g c κs within =
    let all : c.args.chains ≡ c.in-Some.first ∷ into_iter_items c.next.new.self = sym c.into_vec.ensures ∙ sym c.into_iter-chains.ensures.rest ∙ c.in-Some.ensures.items in
    let both : c.args.chains ≡ c.in-Some.first ∷ c.in-Some-next.second ∷ into_iter_items c.next-2.new.self = all ∙ ap (λ xs. c.in-Some.first ∷ xs) c.in-Some-next.ensures.items in
    let three : c.args.chains ≡ c.in-Some.first ∷ c.in-Some-next.second ∷ c.in-Some-next-2.one ∷ into_iter_items c.next-3.new.self = both ∙ ap (λ xs. c.in-Some.first ∷ c.in-Some-next.second ∷ xs) c.in-Some-next-2.ensures.items in
    let four : c.args.chains ≡ c.in-Some.first ∷ c.in-Some-next.second ∷ c.in-Some-next-2.one ∷ c.in-Some-next-3.two ∷ into_iter_items c.next-4.new.self =
    three ∙ ap (λ xs. c.in-Some.first ∷ c.in-Some-next.second ∷ c.in-Some-next-2.one ∷ xs) c.in-Some-next-3.ensures.items in
    let new = c.requires.each 3 c.in-Some-next-3.two (ap (λ (xs : List (Roomy g.row.D.Denot)). slice_get xs 3) four) in
    let place : 3 ≡ length g.B.Binding.shapes + 1 = omega (arith, c.requires.descrs) in
    subst (λ k. IsNew g.B.Binding.roll g.B.Binding.ties (length g.B.Binding.shapes) k c.in-Some-next-3.two.it) place new
