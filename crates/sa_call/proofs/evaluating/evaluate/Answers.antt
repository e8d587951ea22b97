use Rattle.std.proofs.Common.{◌≡◌, nat_lt, Bool, true, false, cond, List, Option, Some, None, refl, ap, ◌∙◌}
use Rattle.std.proofs.lemmas.Result.{MatchResult-weaker}
use Rattle.sa_plain.specs.declared.items.Items.{Items}
use Rattle.sa_base.specs.Deeds.{picture_weight}
use Rattle.sa_view.specs.declared.view.View.{View}
use Rattle.sa_call.specs.declared.operands.Picture.{Picture}
use Rattle.sa_call.specs.declared.reply.Outcome.{Outcome}
use Rattle.sa_call.specs.declared.reply.Refusal.TheVariants as refusal
use Rattle.sa_call.specs.declared.reply.Reply.TheVariants as reply
use Rattle.sa_call.specs.Columns.{columns_read, outcome_read}
use Rattle.sa_call.specs.Decides.{done, refused_with}
use Rattle.sa_call.specs.Decls.{Declared}
use Rattle.sa_call.specs.Kinds.{output_fits}
use Rattle.sa_call.proofs.DecideLemmas.{big-decide, items-decide, picture-decide, stats-decide}
use Rattle.sa_call.proofs.evaluating.evaluate.Goals as goal

pub returns-in-Big-clause-decided : goal.returns-in-Big-clause-decided
returns-in-Big-clause-decided c =
    let heavy = rw c.in-Big.is at c.requires.read in
    rw c.in-Big.is (λ weights are. c.refused.ensures ∙ big-decide c.args.decls.now c.args.call.now c.in-Big.field-0 weights heavy.1 are.0 are.1)

pub returns-in-Stats-clause-decided : goal.returns-in-Stats-clause-decided
returns-in-Stats-clause-decided c =
    let call = c.args.call.now in
    let valid = c.requires.call in
    let given = rw c.in-Stats.is at c.requires.read in
    rw c.in-Stats.is (λ weights are. c.answered.ensures ∙ stats-decide c.args.decls.now call c.in-Stats.stats weights given valid)

pub returns-in-Picture-clause-decided : goal.returns-in-Picture-clause-decided
returns-in-Picture-clause-decided c =
    let call = c.args.call.now in
    let valid = c.requires.call in
    let given = rw c.in-Picture.is at c.requires.read in
    rw c.in-Picture.is (MatchResult-weaker c.drawn.result c.drawn.ensures
    (λ o e weights are. e ∙ picture-decide c.args.decls.now call c.in-Picture.picture weights given.0 valid) (λ m t. t))

pub returns-in-Items-clause-decided : goal.returns-in-Items-clause-decided
returns-in-Items-clause-decided c =
    let d = c.args.decls.now in
    let call = c.args.call.now in
    let given = rw c.in-Items.is at c.requires.read in
    let same = ap (λ (lists : List Items). outcome_read d call (columns_read call.operands lists)) c.as_slice.ensures in
    rw c.in-Items.is (MatchResult-weaker c.evaluate_items.result c.evaluate_items.ensures.outcome
    (λ o e weights are. e ∙ same ∙ items-decide d call c.in-Items.lists weights c.limits_hold.ensures c.requires.call given.0 given.1) (λ m t. t))

-- a picture has no results, whether it is refused or not
drawn-fits : (d : Declared) (out : Option View) (b : Bool) (p : Picture) → output_fits d out (cond b (refused_with refusal.TooMuch 0) (done (reply.Pictured p))).results ≡ true
drawn-fits d None b p = refl
drawn-fits d (Some v) true p = refl
drawn-fits d (Some v) false p = refl

pub returns-in-Picture-clause-fits : goal.returns-in-Picture-clause-fits
returns-in-Picture-clause-fits c =
    let d = c.args.decls.now in
    let out = c.args.call.now.out in
    let p = c.in-Picture.picture in
    MatchResult-weaker c.drawn.result c.drawn.ensures
    (λ o e. ap (λ (x : Outcome). output_fits d out x.results) e ∙ drawn-fits d out (nat_lt 1048576 (picture_weight p.entries p.arena)) p) (λ m t. t)
