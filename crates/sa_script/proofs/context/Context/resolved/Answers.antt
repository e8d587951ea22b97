use Rattle.std.proofs.Common.{◌∙◌, ◌||◌, sym, ap, subst, Option, None, is_none}
use Rattle.sa_view.specs.declared.view.View.{View}
use Rattle.sa_call.specs.declared.call.Call.{Call}
use Rattle.sa_script.specs.declared.resolving.Resolved.{Resolved}
use Rattle.sa_script.specs.Resolving.{IsResolved}
use Rattle.sa_script.specs.Terms.{view_in, view_unfit}
use Rattle.sa_script.proofs.ResolvingLemmas.{resolved-alone, resolved-into, none-unfit}
use Rattle.sa_script.proofs.context.Context.resolved.Goals as goal
use Rattle.sa_script.proofs.context.Context.resolved.Goals.{in-Some, in_default}

pub returns : goal.returns
returns c =
    let l = c.args.line in
    let self = c.args.self.now in
    let alone = c.in_ok-resolved.resolved in
    let told = c.match-out.resolved in
    elim c.match-out.branch [
      | in-Some w ↦
          let v = w.in-Some.out in
          let note = w.note.ensures in
          let view = w.resolved_view-out.ensures in
          subst (λ o. IsResolved self (record { op = l.op; operands = l.operands; out = o }) told) (sym w.in-Some.is)
          (resolved-into self l.op l.operands v alone told c.in_ok-resolved.ensures
          (ap (λ (r : Resolved). r.misnamed) w.resolved-is ∙ note.misnamed ∙ ap (λ b. alone.misnamed || b) view.misnamed)
          (ap (λ (r : Resolved). r.passes) w.resolved-is ∙ note.passes ∙ ap (λ b. alone.passes || b) view.passes)
          (ap (λ (r : Resolved). r.unfit) w.resolved-is ∙ note.unfit ∙ ap (λ (o : Option View). alone.unfit || is_none o) view.view ∙ ap (λ b. alone.unfit || b) (none-unfit (view_unfit self v) (view_in self v)))
          (ap (λ (r : Resolved). r.miskinded) w.resolved-is ∙ note.miskinded)
          (ap (λ (r : Resolved). r.misfilled) w.resolved-is ∙ note.misfilled)
          (ap (λ (r : Resolved). r.call) w.resolved-is ∙ ap (λ (k : Call). record { op = k.op; operands = k.operands; out = w.resolved_view-out.result.view }) note.call ∙ ap (λ (o : Option View). record { op = alone.call.op; operands = alone.call.operands; out = o }) view.view))
      | in_default w ↦
          subst (λ o. IsResolved self (record { op = l.op; operands = l.operands; out = o }) told) (sym w.in_default.is)
          (subst (IsResolved self (record { op = l.op; operands = l.operands; out = None })) (sym w.resolved-is) (resolved-alone self l.op l.operands alone c.in_ok-resolved.ensures))
    ]
