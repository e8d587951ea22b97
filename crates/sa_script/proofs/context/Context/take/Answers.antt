use Rattle.std.proofs.Common.{◌≡◌, sym, subst, IfOk}
use Rattle.sa_script.specs.Faults.{fault_of}
use Rattle.sa_script.specs.Scripts.{context_after, unless_fault}
use Rattle.sa_script.proofs.context.Context.take.Goals as goal

pub returns-in-Descr : goal.returns-in-Descr
returns-in-Descr c =
    let self = c.args.self.now in
    subst (λ s. IfOk c.take_descr.result (λ fault. unless_fault (context_after self s) (fault_of self s) ≡ unless_fault c.take_descr.new.self fault)) (sym c.in-Descr.is) c.take_descr.ensures

pub returns-in-Call : goal.returns-in-Call
returns-in-Call c =
    let self = c.args.self.now in
    subst (λ s. IfOk c.take_call.result (λ fault. unless_fault (context_after self s) (fault_of self s) ≡ unless_fault c.take_call.new.self fault)) (sym c.in-Call.is) c.take_call.ensures
