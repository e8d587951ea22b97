-- The locks are those of the call, and the pass comes back with its line.
use Rattle.std.proofs.Common.{◌≡◌, ◌<◌, ℕ, List, length, ap, sym, ◌∙◌, subst, arith}
use Rattle.std.specs.List.{All}
use Rattle.std.proofs.lemmas.Result.{MatchResult-weaker}
use Rattle.sa_call.specs.Told.{homes_of, is_named}
use Rattle.sa_journal.specs.Parties.{IsParty, most_descrs}
use Rattle.sa_hall.specs.Passes.{Passed, PassValue, pass_with}
use Rattle.sa_loop.specs.declared.act.Act.{Act}
use Rattle.sa_loop.proofs.HomeLemmas.{home-above}
use Rattle.sa_loop.proofs.LockedLemmas.{one-more}
use Rattle.sa_loop.proofs.OpenLemmas.{many-shapes}
use Rattle.sa_loop.proofs.locked.perform_call.Goals as goal

pub take_all-requires-clause-there : goal.take_all-requires-clause-there
take_all-requires-clause-there g c κs within =
    let decls = c.args.decls.now in
    let n = length decls.descrs in
    let locks = c.as_slice.ensures.numbers ∙ c.homes-locks.ensures in
    subst (λ m. All (λ k. k < m) c.as_slice.result.now) (sym (many-shapes decls g.B.Binding.shapes c.requires.shapes)) (subst (λ (ds : List ℕ). All (λ k. k < n) ds) (sym locks) (home-above (is_named decls c.args.call.now) n))

pub perform-done-requires-clause-descrs : goal.perform-done-requires-clause-descrs
perform-done-requires-clause-descrs g c k d below =
    let decls = c.args.decls.now in
    let n = length decls.descrs in
    let locks = c.take_all.ensures.numbers ∙ (c.as_slice.ensures.numbers ∙ c.homes-locks.ensures) in
    let all = subst (λ (ds : List ℕ). All (λ m. m < n) ds) (sym locks) (home-above (is_named decls c.args.call.now) n) in
    let within = all k d below in
    let few = c.arrays-declared.ensures.declared.descrs in
    let same = many-shapes decls g.B.Binding.shapes c.requires.shapes in
    (omega arith, omega arith)

pub returns-clause-done : goal.returns-clause-done
returns-clause-done g c =
    let before : c.take_all.new.self.pass.it ≡ c.args.pass.it = ap (λ (p : PassValue Act). p.it) (c.take_all.ensures.pass ∙ c.begin-held.ensures.pass) in
    let after = ap (λ (p : PassValue Act). p.it) c.release.ensures.pass in
    MatchResult-weaker c.perform-done.result c.perform-done.ensures.done
    (λ reply is. one-more c.args.decls.now c.args.call.now c.args.number reply c.take_all.new.self c.perform-done.new.held c.args.pass.it c.release.result.it is before after) (λ m t. t)
