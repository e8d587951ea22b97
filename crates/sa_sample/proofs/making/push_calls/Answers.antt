use Rattle.std.proofs.Common.{◌++◌, ◌+◌, ◌-◌, ◌<◌, sym, ap, ◌∙◌, arith, append-nil}
use Rattle.std.specs.List.{flat_map}
use Rattle.sa_lines.specs.Lines.{line}
use Rattle.sa_sample.specs.Samples.{after_calls, call_lines, call_tokens}
use Rattle.sa_sample.specs.declared.drawing.DrawnCall.{DrawnCall}
use Rattle.sa_lines.specs.Tokens.{joined}
use Rattle.sa_sample.proofs.LineLemmas.{after-first, no-call, after-none, call-written}
use Rattle.sa_sample.proofs.making.push_calls.Goals as goal

pub loop-preserved : goal.loop-preserved
loop-preserved c =
    let k = c.loop.counter in
    let x = c.loop.draws.state in
    let below : k < 64 = c.loop-test.true in (
      ap (λ s. c.push.new.self.items ++ flat_map line (call_lines (64 - (k + 1)) s)) c.call-call.ensures.moves
          ∙ (call-written 64 k x c.loop.out.items c.push_call.new.out.items c.push.new.self.items below
          (c.in_ok-push_call.ensures ∙ ap (λ (d : DrawnCall). c.loop.out.items ++ joined (call_tokens d)) c.call-call.ensures.gives) c.in_ok-push.ensures.items
          ∙ c.loop.invariant.0),
      ap (λ s. after_calls (64 - (k + 1)) s) c.call-call.ensures.moves ∙ (sym (after-first 64 k x below) ∙ c.loop.invariant.1),
    )

pub returns-clause-written : goal.returns-clause-written
returns-clause-written c =
    sym (append-nil c.loop.out.items) ∙ (ap (λ ls. c.loop.out.items ++ flat_map line ls) (sym (no-call 64 c.loop.counter c.loop.draws.state (omega arith))) ∙ c.loop.invariant.0)

pub returns-clause-drawn : goal.returns-clause-drawn
returns-clause-drawn c = sym (after-none 64 c.loop.counter c.loop.draws.state (omega arith)) ∙ c.loop.invariant.1
