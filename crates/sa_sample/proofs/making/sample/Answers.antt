use Rattle.std.proofs.Common.{[], ◌∷◌, ◌++◌, codes, sym, ap, ◌∙◌, arith}
use Rattle.std.specs.List.{flat_map}
use Rattle.sa_lines.specs.Lines.{line}
use Rattle.sa_sample.proofs.LineLemmas.{no-task, task-written}
use Rattle.sa_sample.proofs.making.sample.Goals as goal

pub loop-preserved : goal.loop-preserved
loop-preserved c =
    task-written 8 c.loop.counter c.loop.draws.state c.push_calls.new.draws.state c.loop.out.items c.extend_from_slice-in-loop.new.self.items c.push_calls.new.out.items
    c.loop-test.true c.in_ok-extend_from_slice-2.ensures.items c.in_ok-push_calls.ensures.written c.in_ok-push_calls.ensures.drawn
    ∙ c.loop.invariant

pub returns : goal.returns
returns c =
    c.in_ok-extend_from_slice-3.ensures.items
    ∙ (ap (λ ls. c.loop.out.items ++ flat_map line (ls ++ codes "end" ∷ [])) (sym (no-task 8 c.loop.counter c.loop.draws.state (omega arith))) ∙ c.loop.invariant)
