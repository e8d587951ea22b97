-- A dead last extent goes, and a live one stays.
use Rattle.std.proofs.Common.{◌≡◌, ◌∙◌, ◌+◌, ◌-◌, ap, sym, length, take, None, arith, length-set}
use Rattle.sa_arena.specs.Extents.{with_text, trimmed}
use Rattle.sa_arena.proofs.HoldsLemmas.{count-dead, count-live}
use Rattle.sa_arena.proofs.arena.Arena.count_without.Goals as goal

pub dead-preserved : goal.dead-preserved
dead-preserved c =
    let es = with_text c.args.self.now.extents c.args.number None in
    let n = c.dead.count - 1 in
    let all : length es ≡ length c.args.self.now.extents = length-set _ _ _ in
    let one : n + 1 ≡ c.dead.count = omega arith in
    record {
      within = omega arith;
      same = count-dead es n (omega arith) (sym c.lives_without.ensures ∙ c.if-not-lives_without.true) ∙ ap (λ k. trimmed (take k es)) one ∙ c.dead.invariant.same;
    }

pub returns-else-not-lives_without-clause-trimmed : goal.returns-else-not-lives_without-clause-trimmed
returns-else-not-lives_without-clause-trimmed c =
    let es = with_text c.args.self.now.extents c.args.number None in
    let n = c.dead.count - 1 in
    let all : length es ≡ length c.args.self.now.extents = length-set _ _ _ in
    let one : n + 1 ≡ c.dead.count = omega arith in
    ap (λ k. take k es) (sym one) ∙ sym (count-live es n (omega arith) (sym c.lives_without.ensures ∙ c.if-not-lives_without.false))
    ∙ ap (λ k. trimmed (take k es)) one ∙ c.dead.invariant.same
