use Rattle.std.proofs.Common.{sym, ap, ◌∙◌, subst}
use Rattle.sa_loop.specs.Histories.{calls_of}
use Rattle.sa_script.specs.Scripts.{GivesFault, meaning}
use Rattle.sa_script.specs.declared.fault.ScriptFault.{ScriptFault}
use Rattle.sa_work.proofs.SerialLemmas.{serial-is-history}
use Rattle.strarr.proofs.NamedLemmas.{if-ok-more}
use Rattle.strarr.proofs.SampleLemmas.{no-fault, sampled}
use Rattle.strarr.proofs.top.summary_of_sample.Goals as goal

pub unreachable-requires : goal.unreachable-requires
unreachable-requires c =
    no-fault c.as_slice.result.now c.args.number c.in-Err-Fault.field-0-0 c.in-Err-Fault.field-0-1 c.samples_are_scripts.ensures (c.as_slice.ensures.value ∙ c.in_ok-text.ensures)
    (subst (λ (f : ScriptFault). GivesFault f (meaning c.as_slice.result.now)) c.in-Err-Fault.field-0-is c.in-Err-Fault.ensures)

pub summary-requires-clause-history : goal.summary-requires-clause-history
summary-requires-clause-history c = record {
  calls = λ task. ap (calls_of task) c.in_ok-run.ensures.history ∙ (serial-is-history c.in-Ok.script.tasks).calls task;
}

pub returns : goal.returns
returns c =
    if-ok-more c.summary.result _ _
    (λ bytes made. sampled c.args.number c.len.result c.as_slice.result.now c.in-Ok.script _ bytes.items (c.as_slice.ensures.value ∙ c.in_ok-text.ensures) c.in-Ok.ensures (c.len.ensures ∙ sym c.as_slice.ensures.len) c.in_ok-run.ensures.history made)
    c.summary.ensures
