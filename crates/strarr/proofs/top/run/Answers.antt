use Rattle.std.proofs.Common.{Some, map, string_bytes, sym, ap, ◌∙◌}
use Rattle.strarr.specs.Outputs.{command_of}
use Rattle.strarr.proofs.EndingLemmas.{asks-workers, run-ends, run-completes, waits-ends, waits-completes}
use Rattle.strarr.proofs.top.run.Goals as goal

pub returns-in-Ok-clause-ends : goal.returns-in-Ok-clause-ends
returns-in-Ok-clause-ends g c = run-ends (map string_bytes c.args.words.now) c.in-Some.workers _ _ _ _ c.in-Ok.status (asks-workers (command_of (map string_bytes c.args.words.now)) c.in-Some.workers (sym c.workers_in.ensures.workers ∙ c.in-Some.is)) c.in-Ok.ensures.ends

pub returns-in-Ok-clause-complete : goal.returns-in-Ok-clause-complete
returns-in-Ok-clause-complete g c = run-completes (map string_bytes c.args.words.now) c.in-Some.workers _ _ _ _ c.in-Ok.status (asks-workers (command_of (map string_bytes c.args.words.now)) c.in-Some.workers (sym c.workers_in.ensures.workers ∙ c.in-Some.is)) c.in-Ok.ensures.command c.in-Ok.ensures.ends

pub returns-in-Ok-2-clause-ends : goal.returns-in-Ok-2-clause-ends
returns-in-Ok-2-clause-ends g c = run-ends (map string_bytes c.args.words.now) c.in-Some.workers _ _ _ _ c.in-Ok.status (asks-workers (command_of (map string_bytes c.args.words.now)) c.in-Some.workers (sym c.workers_in.ensures.workers ∙ c.in-Some.is)) c.in-Ok.ensures.ends

pub returns-in-Ok-2-clause-complete : goal.returns-in-Ok-2-clause-complete
returns-in-Ok-2-clause-complete g c = run-completes (map string_bytes c.args.words.now) c.in-Some.workers _ _ _ _ c.in-Ok.status (asks-workers (command_of (map string_bytes c.args.words.now)) c.in-Some.workers (sym c.workers_in.ensures.workers ∙ c.in-Some.is)) c.in-Ok.ensures.command c.in-Ok.ensures.ends

pub returns-in_default-clause-ends : goal.returns-in_default-clause-ends
returns-in_default-clause-ends g c =
    waits-ends (map string_bytes c.args.words.now) (g.S.Source.stream c.args.source.now) (g.S.Source.stream c.run_still.new.source) (g.K.Sink.stream c.args.sink.now) (g.K.Sink.stream c.run_still.new.sink) c.run_still.result
    (sym c.workers_in.ensures.workers ∙ c.in_default.is) c.run_still.ensures.ends

pub returns-in_default-clause-complete : goal.returns-in_default-clause-complete
returns-in_default-clause-complete g c =
    waits-completes (map string_bytes c.args.words.now) (g.S.Source.stream c.args.source.now) (g.S.Source.stream c.run_still.new.source) (g.K.Sink.stream c.args.sink.now) (g.K.Sink.stream c.run_still.new.sink) c.run_still.result
    (sym c.workers_in.ensures.workers ∙ c.in_default.is) c.run_still.ensures.complete
