use Rattle.std.proofs.Common.{◌++◌, take, replicate, sym, ap, ◌∙◌, arith, append_assoc}
use Rattle.std.specs.List.{concat}
use Rattle.sa_text.proofs.MakingLemmas.{concat-more}
use Rattle.sa_text.proofs.place.Few.repeat.Goals as goal

pub loop-turn-preserved : goal.loop-turn-preserved
loop-turn-preserved c =
    let part = c.args.part.now in
    let n = c.loop-turn._turn in
    let old = take c.args.self.now.filled c.args.self.now.bytes in
    let before = c.loop-turn.invariant in
    record {
      filled = omega arith;
      whole = c.push.ensures.whole;
      bytes = c.push.ensures.bytes ∙ ap (λ t. t ++ part) before.bytes ∙ append_assoc old (concat (replicate n part)) part ∙ ap (λ t. old ++ t) (sym (concat-more n part));
    }
