use Rattle.std.proofs.Common.{◌≡◌, ◌-◌, refl, arith, take, drop, length, length-append, length-drop}
use Rattle.std.proofs.Math.Seq.{take_all}
use Rattle.std.proofs.lemmas.Grind.{common_steps}
use Rattle.sa_base.proofs.PieceLemmas.{piece-and-rest}
use Rattle.sa_base.proofs.mem_source.MemSourceSource.read.Goals as goal

pub returns-clause-reads : goal.returns-clause-reads
returns-clause-reads c =
    let place = c.self.inside.place in
    let count = c.min-count.result in
    let bytes = c.deref-2.result.now in
    let all = take_all (length bytes - place) (drop place bytes) (omega (arith, length-drop place bytes)) in
    let piece : c.copy_from_slice.new.self ≡ take count (drop place c.self.inside.bytes.items) = grind (arith, common_steps, all, c.copy_from_slice.ensures.after, c.deref-2.ensures.value) in
    rw (← c.self.view_is) (
      record { some = grind (arith, common_steps); room = grind (arith, common_steps, length-append) },
      record {
        taken = piece-and-rest c.self.inside.bytes.items c.copy_from_slice.new.self (drop count c.args.to.now) place count piece (grind (arith, common_steps));
        faults = refl;
      },
    )
