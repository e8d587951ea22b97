use Rattle.std.proofs.Common.{◌≡◌, ◌+◌, ◌-◌, ℕ, suc, length, List, sym, ap, ◌∙◌, subst, arith}
use Rattle.std.proofs.lemmas.Bool.{false≢true}
use Rattle.std.proofs.lemmas.List.{length-append}
use Rattle.sa_crew.specs.Shares.{firsts, firsts_in, others}
use Rattle.sa_crew.proofs.ShareLemmas.{IsWoven, both-many, first-left, other-left, woven_first, woven_other}
use Rattle.sa_crew.proofs.shares.woven.Goals as goal
use Rattle.sa_crew.proofs.shares.woven.Goals.{then-before-eq0+in-Some+in_ok-push, else-before-eq0+in-Some-next+in_ok-push-2}

pub unreachable-requires : goal.unreachable-requires
unreachable-requires g c =
    let l = c.loop-k in
    let is = l.invariant in
    let left : firsts_in c.args.skip 0 (length l.mine.rest.items + length l.rest.rest.items) ≡ length l.mine.rest.items =
    ap (λ t. firsts_in c.args.skip t (length l.mine.rest.items + length l.rest.rest.items)) (sym c.if-before-eq0.true) ∙ is.left_is in
    let some = (first-left c.args.skip (length l.mine.rest.items) (length l.rest.rest.items) left (omega (arith, is.many, c.loop-k-test.true))).0 in
    false≢true (c.in_default.ensures.variant.1 (omega (arith, some, l.mine.rest.ok.0)))

pub unreachable-requires-in_default-next : goal.unreachable-requires-in_default-next
unreachable-requires-in_default-next g c =
    let l = c.loop-k in
    let is = l.invariant in
    let apart = c.if-before-eq0.false in
    let less : l.before ≡ suc (l.before - 1) = omega arith in
    let left : firsts_in c.args.skip (suc (l.before - 1)) (length l.mine.rest.items + length l.rest.rest.items) ≡ length l.mine.rest.items =
    ap (λ t. firsts_in c.args.skip t (length l.mine.rest.items + length l.rest.rest.items)) (sym less) ∙ is.left_is in
    let some = (other-left c.args.skip (l.before - 1) (length l.mine.rest.items) (length l.rest.rest.items) left (omega (arith, is.many, c.loop-k-test.true))).0 in
    false≢true (c.in_default-next.ensures.variant.1 (omega (arith, some, l.rest.rest.ok.0)))

pub loop-k-preserved : goal.loop-k-preserved
loop-k-preserved g c =
    let l = c.loop-k in
    let skip = c.args.skip in
    let mine = c.args.mine.items in
    let rest = c.args.rest.items in
    let n = c.len.result + c.len-2.result in
    let below = c.loop-k-test.true in
    let more : n - l._k ≡ suc (n - (l._k + 1)) = omega arith in
    let now = subst (λ m. IsWoven skip l.before m mine rest l.all.items l.mine.rest.items l.rest.rest.items) more l.invariant in
    elim c.if-before-eq0.branch [
      | then-before-eq0+in-Some+in_ok-push w ↦
          let one = woven_first skip l.before (n - (l._k + 1)) mine rest l.all.items l.mine.rest.items l.rest.rest.items w.next.new.self.rest.items w.in-Some.thing now w.if-before-eq0.true w.in-Some.ensures.items in
          let At = λ (x : ℕ × List g.row.P.Denot × List g.row.P.Denot × List g.row.P.Denot). IsWoven skip x.0 (n - (l._k + 1)) mine rest x.1 x.2 x.3 in
          subst At (λ i. (sym w.before-is i, sym (ap (λ v. v.items) w.all-is ∙ w.in_ok-push.ensures.items) i, sym (ap (λ v. v.rest.items) w.mine-is) i, sym (ap (λ v. v.rest.items) w.rest-is) i)) one
      | else-before-eq0+in-Some-next+in_ok-push-2 w ↦
          let apart = w.if-before-eq0.false in
          let less : l.before ≡ suc (l.before - 1) = omega arith in
          let turned = subst (λ t. IsWoven skip t (suc (n - (l._k + 1))) mine rest l.all.items l.mine.rest.items l.rest.rest.items) less now in
          let one = woven_other skip (l.before - 1) (n - (l._k + 1)) mine rest l.all.items l.mine.rest.items l.rest.rest.items w.next-else-before-eq0.new.self.rest.items w.in-Some-next.thing turned w.in-Some-next.ensures.items in
          let At = λ (x : ℕ × List g.row.P.Denot × List g.row.P.Denot × List g.row.P.Denot). IsWoven skip x.0 (n - (l._k + 1)) mine rest x.1 x.2 x.3 in
          subst At (λ i. (sym w.before-is i, sym (ap (λ v. v.items) w.all-is ∙ w.in_ok-push-2.ensures.items) i, sym (ap (λ v. v.rest.items) w.mine-is) i, sym (ap (λ v. v.rest.items) w.rest-is) i)) one
    ]

pub returns-clause-many : goal.returns-clause-many
returns-clause-many g c =
    let l = c.loop-k in
    let left = l.invariant.many in
    let mine = ap length l.invariant.mine_is in
    let rest = ap length l.invariant.rest_is in
    let end = c.loop-k-test.false in
    let both = both-many c.args.skip 0 l.all.items in
    omega (arith, length-append (firsts c.args.skip 0 l.all.items) l.mine.rest.items, length-append (others c.args.skip 0 l.all.items) l.rest.rest.items)
