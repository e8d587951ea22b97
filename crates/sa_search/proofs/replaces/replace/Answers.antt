use Rattle.std.proofs.Common.{length, ap, sym, subst, ◌∙◌, arith}
use Rattle.std.proofs.lemmas.Int.{to_z-of_z}
use Rattle.sa_text.specs.Making.{made, GivesText}
use Rattle.sa_search.specs.Replaces.{spread, replaced, limit}
use Rattle.sa_search.proofs.CountLemmas.{count-most, when-empty, when-some}
use Rattle.sa_search.proofs.WindowLemmas.{empty-part, some-part}
use Rattle.sa_search.proofs.ReplaceLemmas.{replaced-same}
use Rattle.sa_search.proofs.SpreadLemmas.{spread-same}
use Rattle.sa_search.proofs.replaces.replace.Goals as goal
use mir.Syntax.{w64}

pub returns-then-size-eq0 : goal.returns-then-size-eq0
returns-then-size-eq0 c =
    let a = c.args.a.now in
    let old = c.args.old.now in
    let new = c.args.new.now in
    let most = limit (length a) c.args.count in
    let h = rw (to_z-of_z w64 c.args.count c.ranges.count) at c.limit-most.ensures in
    let empty = (empty-part old (omega (arith, c.size.ensures.size))).none in
    let same = spread-same new c.limit-most.result most a h ∙ sym (when-empty old (spread new most a) (replaced old new most 0 a) (ap length empty)) in
    subst (λ t. GivesText c.spread.result (made t)) same c.spread.ensures

pub returns : goal.returns
returns c =
    let a = c.args.a.now in
    let old = c.args.old.now in
    let new = c.args.new.now in
    let most = limit (length a) c.args.count in
    let h = rw (to_z-of_z w64 c.args.count c.ranges.count) at c.limit-most.ensures in
    let some = some-part old (omega (arith, c.size.ensures.size)) in
    let few = count-most old 0 a in
    let same = replaced-same old new c.limit-most.result most 0 a (omega arith) ∙ sym (when-some old (spread new most a) (replaced old new most 0 a) some) in
    subst (λ t. GivesText c.replace_some.result (made t)) same c.replace_some.ensures
