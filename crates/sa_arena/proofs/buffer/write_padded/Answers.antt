-- Two writes, one behind the other, are one.
use Rattle.std.proofs.Common.{◌≡◌, ◌∙◌, ap, ℕ, List, ◌+◌, ◌-◌, replicate, length, arith}
use Rattle.std.proofs.lemmas.List.{length-replicate}
use Rattle.sa_arena.specs.Buffers.{written}
use Rattle.sa_arena.proofs.BufferLemmas.{written_twice}
use Rattle.sa_arena.proofs.buffer.write_padded.Goals as goal

pub returns : goal.returns
returns c =
    let t = c.args.text.now in
    let n = c.args.at in
    let zeros : List ℕ = replicate (c.args.capacity - length t) 0 in
    let z : length zeros ≡ c.args.capacity - length t = length-replicate (c.args.capacity - length t) 0 in
    c.write_zeros.ensures ∙ ap (λ (bs : List ℕ). written bs (n + length t) zeros) c.write.ensures
    ∙ written_twice c.args.bytes.now n (n + length t) t zeros (omega arith) (omega arith)
