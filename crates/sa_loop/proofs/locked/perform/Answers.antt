-- The call is taken from what is held, its act fits that, and what is left is its effect.
use Rattle.std.proofs.Common.{◌≡◌, ℕ, true, sym, ap, ◌∙◌, subst}
use Rattle.sa_base.specs.Deeds.{writes_at}
use Rattle.sa_call.specs.Decides.{decide}
use Rattle.sa_call.specs.Told.{is_named, parts_told}
use Rattle.sa_journal.specs.Said.{Said}
use Rattle.sa_hall.specs.Holds.{Hold, contents_at, held_at, is_held, lent_at}
use Rattle.sa_hall.specs.Passes.{PassValue}
use Rattle.sa_loop.specs.declared.act.Act.{Act}
use Rattle.sa_loop.specs.Held.{CanTake, HasShape}
use Rattle.sa_loop.specs.Locked.{world_held}
use Rattle.sa_loop.specs.Runs.{world_of}
use Rattle.sa_loop.specs.States.{World}
use Rattle.sa_loop.specs.Takes.{parts_of}
use Rattle.sa_loop.proofs.LockedLemmas.{IsActOf, act-says, can-plan, can-take, fits-said, lent-world, named-held, performed, shape-held}
use Rattle.sa_loop.proofs.OpenLemmas.{shape-at}
use Rattle.sa_loop.proofs.locked.perform.Goals as goal

pub take-requires-clause-can : goal.take-requires-clause-can
take-requires-clause-can g c =
    let B = g.B.Binding in
    let h = c.args.held.now in
    let decls = c.args.decls.now in
    let call = c.args.call.now in
    subst (λ l. CanTake decls (λ d. is_held (held_at l d)) (λ d. lent_at l d) call) (sym c.lent.ensures)
    (can-take B.roll B.ties B.shapes decls call h.numbers h.hold.its c.arrays-declared.ensures.declared c.requires.call c.numbers-taken.ensures.taken c.requires.locks (shape-at decls B.shapes c.arrays-declared.ensures.declared c.requires.shapes))

pub plan_work-requires-after_bounds : goal.plan_work-requires-after_bounds
plan_work-requires-after_bounds g c κs within =
    let B = g.B.Binding in
    let h = c.args.held.now in
    let decls = c.args.decls.now in
    let call = c.args.call.now in
    let declared = c.arrays-declared.ensures.declared in
    let taken = c.numbers-taken.ensures.taken in
    can-plan decls call (parts_told decls call c.in_ok-read.read c.in_ok-read.weights) c.in_ok-outcome.outcome h.hold declared c.requires.call (c.in_ok-outcome.ensures.decided c.in_ok-read.weights c.in_ok-read.ensures.taken.are_weights) c.in_ok-outcome.ensures.fits
    (named-held B.roll B.ties B.shapes decls call h.numbers h.hold.its declared c.requires.call taken c.requires.locks (shape-at decls B.shapes c.arrays-declared.ensures.declared c.requires.shapes))
    (shape-held B.roll B.ties B.shapes decls call h.numbers h.hold.its declared c.requires.call taken c.requires.locks (shape-at decls B.shapes c.arrays-declared.ensures.declared c.requires.shapes))

pub commit-requires-clause-fits : goal.commit-requires-clause-fits
commit-requires-clause-fits g c κs within =
    let B = g.B.Binding in
    let h = c.args.held.now in
    let mid = c.plan_work.new.held in
    let decls = c.args.decls.now in
    let call = c.args.call.now in
    let declared = c.arrays-declared.ensures.declared in
    let planned = c.in_ok-work.ensures in
    let made = c.new-act.ensures in
    let is : IsActOf decls c.task-2.result c.args.number call c.in_ok-read.read c.in_ok-read.weights c.in_ok-outcome.outcome c.new-act.result =
    record { decls_is = made.0; task_is = made.1; number_is = made.2; body_is = made.3; outcome_is = made.4; read_is = made.5; weights_is = made.6; locks_is = made.7 } in
    let said = act-says decls c.task-2.result c.args.number call c.in_ok-read.read c.in_ok-read.weights c.in_ok-outcome.outcome c.new-act.result is in
    let shapes = shape-held B.roll B.ties B.shapes decls call h.numbers h.hold.its declared c.requires.call c.numbers-taken.ensures.taken c.requires.locks (shape-at decls B.shapes c.arrays-declared.ensures.declared c.requires.shapes) in
    let seen : world_of (λ d. lent_at c.lent.result d) ≡ world_held mid.hold =
    ap (λ l. world_of (λ d. lent_at l d)) c.lent.ensures ∙ (lent-world h.hold.its ∙ ap (λ its. world_of (contents_at {D = Act} its)) (sym planned.its)) in
    fits-said decls call _ c.in_ok-work.work mid declared c.requires.call
    (λ d named. subst (λ its. HasShape decls d (contents_at {D = Act} its d)) (sym planned.its) (shapes d named))
    (ap (λ (s : Said). s.locks) said)
    (planned.numbers ∙ c.requires.locks)
    (ap (λ (s : Said). s.parts) said ∙ (c.in_ok-read.ensures.taken.parts ∙ ap (λ (w : World). parts_of decls w call) seen))
    (λ d. ap (λ (s : Said). writes_at s.writes d) said ∙ planned.writes d)
    planned.can

pub returns-clause-done : goal.returns-clause-done
returns-clause-done g c =
    let B = g.B.Binding in
    let h = c.args.held.now in
    let mid = c.plan_work.new.held in
    let decls = c.args.decls.now in
    let call = c.args.call.now in
    let declared = c.arrays-declared.ensures.declared in
    let taken = c.numbers-taken.ensures.taken in
    let planned = c.in_ok-work.ensures in
    let made = c.new-act.ensures in
    let is : IsActOf decls c.task-2.result c.args.number call c.in_ok-read.read c.in_ok-read.weights c.in_ok-outcome.outcome c.new-act.result =
    record { decls_is = made.0; task_is = made.1; number_is = made.2; body_is = made.3; outcome_is = made.4; read_is = made.5; weights_is = made.6; locks_is = made.7 } in
    let seen : world_of (λ d. lent_at c.lent.result d) ≡ world_held h.hold = ap (λ l. world_of (λ d. lent_at l d)) c.lent.ensures ∙ lent-world h.hold.its in
    performed decls call c.task-2.result c.args.number c.in_ok-commit.field-0 c.in_ok-read.read c.in_ok-read.weights c.in_ok-outcome.outcome c.in_ok-reply.reply h mid c.commit.new.self c.new-act.result c.requires.call
    (named-held B.roll B.ties B.shapes decls call h.numbers h.hold.its declared c.requires.call taken c.requires.locks (shape-at decls B.shapes c.arrays-declared.ensures.declared c.requires.shapes))
    (shape-held B.roll B.ties B.shapes decls call h.numbers h.hold.its declared c.requires.call taken c.requires.locks (shape-at decls B.shapes c.arrays-declared.ensures.declared c.requires.shapes))
    is
    (c.task-2.ensures ∙ ap (λ (p : PassValue Act). p.it.task) planned.pass)
    (c.in_ok-outcome.ensures.decided c.in_ok-read.weights c.in_ok-read.ensures.taken.are_weights ∙ ap (decide decls call) (c.in_ok-read.ensures.taken.parts ∙ ap (λ (w : World). parts_of decls w call) seen))
    c.in_ok-reply.ensures
    planned.sound
    (record { its = planned.its; numbers = planned.numbers; pass = ap (λ (p : PassValue Act). p.it) planned.pass })
    c.in_ok-commit.ensures.done
