use Rattle.std.proofs.Common.{Some, map, string_bytes, sym, ap, ◌∙◌}
use Rattle.strarr.specs.Outputs.{GivenBy, summary_for}
use Rattle.strarr.specs.declared.status.Status.TheVariants as status
use Rattle.strarr.proofs.EndingLemmas.{still-ends, still-completes, sample-ends, sample-completes}
use Rattle.strarr.proofs.SampleLemmas.{sample-keeps}
use Rattle.strarr.proofs.top.run_still.Goals as goal

pub returns-in-Ok-clause-ends : goal.returns-in-Ok-clause-ends
returns-in-Ok-clause-ends g c = still-ends (map string_bytes c.args.words.now) _ _ _ _ c.in-Ok.status (sym c.read_words.ensures ∙ c.in-Some-Serial.is ∙ ap Some c.in-Some-Serial.field-0-is) c.in-Ok.ensures.ends

pub returns-in-Ok-clause-complete : goal.returns-in-Ok-clause-complete
returns-in-Ok-clause-complete g c = still-completes (map string_bytes c.args.words.now) _ _ _ _ c.in-Ok.status (sym c.read_words.ensures ∙ c.in-Some-Serial.is ∙ ap Some c.in-Some-Serial.field-0-is) c.in-Ok.ensures.command c.in-Ok.ensures.ends

pub returns-in-Ok-2-clause-ends : goal.returns-in-Ok-2-clause-ends
returns-in-Ok-2-clause-ends g c = still-ends (map string_bytes c.args.words.now) _ _ _ _ c.in-Ok.status (sym c.read_words.ensures ∙ c.in-Some-Serial.is ∙ ap Some c.in-Some-Serial.field-0-is) c.in-Ok.ensures.ends

pub returns-in-Ok-2-clause-complete : goal.returns-in-Ok-2-clause-complete
returns-in-Ok-2-clause-complete g c = still-completes (map string_bytes c.args.words.now) _ _ _ _ c.in-Ok.status (sym c.read_words.ensures ∙ c.in-Some-Serial.is ∙ ap Some c.in-Some-Serial.field-0-is) c.in-Ok.ensures.command c.in-Ok.ensures.ends

pub returns-in-Ok-perform_sample-clause-ends : goal.returns-in-Ok-perform_sample-clause-ends
returns-in-Ok-perform_sample-clause-ends g c = sample-ends (map string_bytes c.args.words.now) c.in-Some-Sample.number _ _ _ c.in-Ok-perform_sample.status (sym c.read_words.ensures ∙ c.in-Some-Sample.is ∙ ap Some c.in-Some-Sample.field-0-is) (c.in-Ok-perform_sample.ensures.ends (g.S.Source.stream c.args.source.now))

pub returns-in-Ok-perform_sample-clause-complete : goal.returns-in-Ok-perform_sample-clause-complete
returns-in-Ok-perform_sample-clause-complete g c = sample-completes (map string_bytes c.args.words.now) c.in-Some-Sample.number _ _ _ c.in-Ok-perform_sample.status (sym c.read_words.ensures ∙ c.in-Some-Sample.is ∙ ap Some c.in-Some-Sample.field-0-is) c.in-Ok-perform_sample.ensures.command (c.in-Ok-perform_sample.ensures.ends (g.S.Source.stream c.args.source.now))

pub returns-in-Ok-perform_sample-clause-no_write_failed : goal.returns-in-Ok-perform_sample-clause-no_write_failed
returns-in-Ok-perform_sample-clause-no_write_failed g c = sample-keeps (GivenBy (λ input. (status.Done, summary_for c.in-Some-Sample.number))) (g.S.Source.stream c.args.source.now) (g.K.Sink.stream c.args.sink.now) (g.K.Sink.stream c.perform_sample.new.sink) c.in-Ok-perform_sample.status (c.in-Ok-perform_sample.ensures.ends (g.S.Source.stream c.args.source.now))

pub returns-in-Ok-perform_sample-2-clause-ends : goal.returns-in-Ok-perform_sample-2-clause-ends
returns-in-Ok-perform_sample-2-clause-ends g c = sample-ends (map string_bytes c.args.words.now) c.in-Some-Sample.number _ _ _ c.in-Ok-perform_sample.status (sym c.read_words.ensures ∙ c.in-Some-Sample.is ∙ ap Some c.in-Some-Sample.field-0-is) (c.in-Ok-perform_sample.ensures.ends (g.S.Source.stream c.args.source.now))

pub returns-in-Ok-perform_sample-2-clause-complete : goal.returns-in-Ok-perform_sample-2-clause-complete
returns-in-Ok-perform_sample-2-clause-complete g c = sample-completes (map string_bytes c.args.words.now) c.in-Some-Sample.number _ _ _ c.in-Ok-perform_sample.status (sym c.read_words.ensures ∙ c.in-Some-Sample.is ∙ ap Some c.in-Some-Sample.field-0-is) c.in-Ok-perform_sample.ensures.command (c.in-Ok-perform_sample.ensures.ends (g.S.Source.stream c.args.source.now))

pub returns-in-Ok-perform_sample-2-clause-no_write_failed : goal.returns-in-Ok-perform_sample-2-clause-no_write_failed
returns-in-Ok-perform_sample-2-clause-no_write_failed g c = sample-keeps (GivenBy (λ input. (status.Done, summary_for c.in-Some-Sample.number))) (g.S.Source.stream c.args.source.now) (g.K.Sink.stream c.args.sink.now) (g.K.Sink.stream c.perform_sample.new.sink) c.in-Ok-perform_sample.status (c.in-Ok-perform_sample.ensures.ends (g.S.Source.stream c.args.source.now))
