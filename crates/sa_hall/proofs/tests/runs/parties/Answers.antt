use Rattle.std.proofs.Common.{◌≡◌, ℕ, List, ◌∷◌, slice_get, ap, sym, ◌∙◌, subst}
use Rattle.std.specs.Vec.Iter.{into_iter_items}
use Rattle.sa_journal.specs.Chains.{Roomy}
use Rattle.sa_journal.specs.Journals.{IsNew}
use Rattle.sa_hall.specs.declared.tests.deeds.Note.{Note}
use Rattle.sa_hall.proofs.tests.runs.parties.Goals as goal

pub returns-clause-first : goal.returns-clause-first
returns-clause-first g c =
    let one : c.args.chains ≡ c.in-Some.first ∷ into_iter_items c.next.new.self = sym c.into_vec.ensures ∙ sym c.into_iter-chains.ensures.rest ∙ c.in-Some.ensures.items in
    subst (λ (n : ℕ). IsNew g.B.Binding.roll g.B.Binding.ties n 0 c.in-Some.first.it) c.requires.descrs (c.requires.each 0 c.in-Some.first (ap (λ (xs : List (Roomy Note)). slice_get xs 0) one))

pub returns-clause-second : goal.returns-clause-second
returns-clause-second g c =
    let one : c.args.chains ≡ c.in-Some.first ∷ into_iter_items c.next.new.self = sym c.into_vec.ensures ∙ sym c.into_iter-chains.ensures.rest ∙ c.in-Some.ensures.items in
    let two : c.args.chains ≡ c.in-Some.first ∷ c.in-Some-next.second ∷ into_iter_items c.next-2.new.self = one ∙ ap (λ xs. c.in-Some.first ∷ xs) c.in-Some-next.ensures.items in
    subst (λ (n : ℕ). IsNew g.B.Binding.roll g.B.Binding.ties n 1 c.in-Some-next.second.it) c.requires.descrs (c.requires.each 1 c.in-Some-next.second (ap (λ (xs : List (Roomy Note)). slice_get xs 1) two))

pub returns-clause-one : goal.returns-clause-one
returns-clause-one g c =
    let one : c.args.chains ≡ c.in-Some.first ∷ into_iter_items c.next.new.self = sym c.into_vec.ensures ∙ sym c.into_iter-chains.ensures.rest ∙ c.in-Some.ensures.items in
    let two : c.args.chains ≡ c.in-Some.first ∷ c.in-Some-next.second ∷ into_iter_items c.next-2.new.self = one ∙ ap (λ xs. c.in-Some.first ∷ xs) c.in-Some-next.ensures.items in
    let three : c.args.chains ≡ c.in-Some.first ∷ c.in-Some-next.second ∷ c.in-Some-next-2.one ∷ into_iter_items c.next-3.new.self = two ∙ ap (λ xs. c.in-Some.first ∷ c.in-Some-next.second ∷ xs) c.in-Some-next-2.ensures.items in
    subst (λ (n : ℕ). IsNew g.B.Binding.roll g.B.Binding.ties n 2 c.in-Some-next-2.one.it) c.requires.descrs (c.requires.each 2 c.in-Some-next-2.one (ap (λ (xs : List (Roomy Note)). slice_get xs 2) three))

pub returns-clause-two : goal.returns-clause-two
returns-clause-two g c =
    let one : c.args.chains ≡ c.in-Some.first ∷ into_iter_items c.next.new.self = sym c.into_vec.ensures ∙ sym c.into_iter-chains.ensures.rest ∙ c.in-Some.ensures.items in
    let two : c.args.chains ≡ c.in-Some.first ∷ c.in-Some-next.second ∷ into_iter_items c.next-2.new.self = one ∙ ap (λ xs. c.in-Some.first ∷ xs) c.in-Some-next.ensures.items in
    let three : c.args.chains ≡ c.in-Some.first ∷ c.in-Some-next.second ∷ c.in-Some-next-2.one ∷ into_iter_items c.next-3.new.self = two ∙ ap (λ xs. c.in-Some.first ∷ c.in-Some-next.second ∷ xs) c.in-Some-next-2.ensures.items in
    let four : c.args.chains ≡ c.in-Some.first ∷ c.in-Some-next.second ∷ c.in-Some-next-2.one ∷ c.in-Some-next-3.two ∷ into_iter_items c.next-4.new.self = three ∙ ap (λ xs. c.in-Some.first ∷ c.in-Some-next.second ∷ c.in-Some-next-2.one ∷ xs) c.in-Some-next-3.ensures.items in
    subst (λ (n : ℕ). IsNew g.B.Binding.roll g.B.Binding.ties n 3 c.in-Some-next-3.two.it) c.requires.descrs (c.requires.each 3 c.in-Some-next-3.two (ap (λ (xs : List (Roomy Note)). slice_get xs 3) four))
