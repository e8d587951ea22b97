use Rattle.std.proofs.Common.{ap, ◌∙◌, take, drop}
use Rattle.std.specs.List.{list_all}
use Rattle.sa_runs.specs.Runs.{is_plain, begins_plain}
use Rattle.sa_runs.proofs.RunLemmas.{run_plain, run_ends}
use Rattle.sa_runs.proofs.run.cut_run.Goals as goal

pub returns-clause-plain : goal.returns-clause-plain
returns-clause-plain c =
    ap (list_all is_plain) (c.split_at-2.ensures.front ∙ ap (λ n. take n c.args.bytes.now) c.plain_len.ensures.plain) ∙ run_plain c.args.bytes.now

pub returns-clause-stops : goal.returns-clause-stops
returns-clause-stops c =
    ap begins_plain (c.split_at-2.ensures.back ∙ ap (λ n. drop n c.args.bytes.now) c.plain_len.ensures.plain) ∙ run_ends c.args.bytes.now
