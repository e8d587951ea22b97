use Rattle.sa_script.proofs.DeclLemmas.{length-few}
use Rattle.sa_script.proofs.context.Context.len_of.Goals as goal

pub returns-then-number-arrays-clause-few : goal.returns-then-number-arrays-clause-few
returns-then-number-arrays-clause-few c =
    let below = rw c.as_slice-arrays.ensures at c.if-number-arrays.true in
    rw c.as_slice-arrays.ensures (length-few c.args.self.now.arrays 8192 c.args.number c.requires.sound.declared.entries below)
