use Rattle.std.proofs.Common.{◌≡◌, sym, ap, subst, ◌∙◌, Ok, None}
use Rattle.std.proofs.lemmas.Bool.{leb-false}
use Rattle.sa_script.specs.declared.statement.Statement.TheVariants as statement
use Rattle.sa_script.specs.Contexts.{declared_in, with_begun, with_last}
use Rattle.sa_script.specs.Faults.{fault_of}
use Rattle.sa_script.specs.Resolving.{IsMeant, call_fault}
use Rattle.sa_script.specs.Scripts.{context_after, unless_fault}
use Rattle.sa_script.proofs.ResolvingLemmas.{call_fault-is, faultless-call}
use Rattle.sa_script.proofs.ValidLemmas.{line-meant}
use Rattle.sa_script.proofs.context.Context.take_call.Goals as goal

pub call_fault-requires-clause-meant : goal.call_fault-requires-clause-meant
call_fault-requires-clause-meant c =
    λ known few fit.
    let is = c.in_ok-resolved.ensures in
    let self = c.args.self.now in
    subst (IsMeant (declared_in self)) (sym (is.call fit)) (line-meant self c.args.line c.requires.sound c.requires.spelled (sym is.misnamed ∙ known) (sym is.passes ∙ few) (sym is.unfit ∙ fit))

pub add_call-requires : goal.add_call-requires
add_call-requires c =
    leb-false 1024 c.args.self.now.calls (faultless-call c.args.self.now c.has_slices-slices.result c.in_ok-resolved.resolved (sym c.in_ok-fault.ensures ∙ c.in_default.is)).1

pub returns : goal.returns
returns c =
    let self = c.args.self.now in
    let l = c.args.line in
    let told = c.in_ok-resolved.resolved in
    let is = c.in_ok-resolved.ensures in
    let faultless = sym c.in_ok-fault.ensures ∙ c.in_default.is in
    let fit = (faultless-call self c.has_slices-slices.result told faultless).0 in
    let none : fault_of self (statement.Call l) ≡ None = sym (call_fault-is self l told is) ∙ ap (λ b. call_fault self b told) (sym c.has_slices-slices.ensures) ∙ faultless in
    ap (unless_fault (context_after self (statement.Call l))) none ∙ ap (λ d. Ok (with_begun d)) (sym (c.in_ok-add_call.ensures ∙ ap (with_last self) (is.call fit)))
