use Rattle.std.proofs.Common.{◌≡◌, ◌-◌, ap, sym, ◌∙◌, length, arith}
use Rattle.std.specs.Vec.{vec_len, vec_capacity}
use Rattle.sa_journal.specs.Journals.{Written}
use Rattle.sa_journal.proofs.TieLemmas.{turn_opens}
use Rattle.sa_journal.proofs.turn.Turn.new.Goals as goal

pub invariant_of-result : goal.invariant_of-result
invariant_of-result g c =
    let room : vec_capacity c.lines.inside.tokens - vec_len c.lines.inside.tokens ≡ c.args.lines.room = ap (λ (v : Written g.row.D.Denot). v.room) c.lines.view_is in (
      c.requires.descrs,
      turn_opens g.D.Deed.said _ _ _ _ _ _ _ _ _ c.lines.invariant.0 c.lines.invariant.1 (omega (arith, room, c.requires.room)) c.requires.shown
          (c.requires.next ∙ ap (λ (v : Written g.row.D.Denot). length v.lines) (sym c.lines.view_is)) c.requires.parties c.requires.owed,
    )
