use Rattle.std.proofs.Common.{◌≡◌, sym, ap, subst, ◌∙◌, Ok, arith}
use Rattle.sa_lines.specs.Lines.{lines_of}
use Rattle.sa_script.specs.Scripts.{lines_after, line_after}
use Rattle.sa_script.specs.SoundContexts.{IsSoundContext}
use Rattle.sa_script.proofs.LineLemmas.{lines_after_one}
use Rattle.sa_script.proofs.SoundLemmas.{sound_nothing}
use Rattle.sa_script.proofs.parsing.parse.Goals as goal

pub lines-init : goal.lines-init
lines-init c = record {
  read = ap (λ d. lines_after d 0 (lines_of c.args.bytes.now)) c.new-context.ensures;
  sound = subst IsSoundContext (sym c.new-context.ensures) sound_nothing;
  counted = omega arith;
}

pub lines-preserved : goal.lines-preserved
lines-preserved c =
    let taken : line_after c.lines.context c.cut_line.result.0.now ≡ Ok c.line.new.self = rw c.in-Ok-None.field-0-is at c.in-Ok-None.ensures.line in
    let shorter = c.cut_line.ensures.shorter in
    let counted = c.lines.invariant.counted in
    record {
      read =
          sym (lines_after_one c.lines.context c.line.new.self c.lines.number c.cut_line.result.0.now (lines_of c.cut_line.result.1.now) taken)
          ∙ ap (lines_after c.lines.context c.lines.number) (sym c.cut_line.ensures.cut)
          ∙ c.lines.invariant.read;
      sound = c.in-Ok-None.ensures.sound c.in-Ok-None.field-0-is;
      counted = omega arith;
    }
