-- Two writes, one behind the other, are one; behind a text that fills its extent there are no zeros.
use Rattle.std.proofs.Common.{◌≡◌, ◌+◌, ◌-◌, ◌∙◌, ap, sym, ℕ, List, ◌++◌, length, replicate, arith}
use Rattle.std.proofs.lemmas.List.{append-nil}
use Rattle.sa_arena.specs.Buffers.{written}
use Rattle.sa_arena.specs.Images.{prefix_bytes}
use Rattle.sa_arena.proofs.BufferLemmas.{written_twice}
use Rattle.sa_arena.proofs.ImageLemmas.{length-prefix_bytes}
use Rattle.sa_arena.proofs.buffer.write_extent.Goals as goal

pub returns : goal.returns
returns c =
    let t = c.args.text.now in
    let n = length t in
    let p = length-prefix_bytes n in
    let none : n - n ≡ 0 = omega arith in
    let full : t ++ replicate (n - n) 0 ≡ t = ap (λ k. t ++ replicate k 0) none ∙ append-nil t in
    c.write.ensures ∙ ap (λ (bs : List ℕ). written bs (c.args.at + c.prefix_len.result) t) c.write_prefix.ensures
    ∙ written_twice c.args.bytes.now c.args.at (c.args.at + c.prefix_len.result) (prefix_bytes n) t (omega arith) (omega arith)
    ∙ ap (λ (u : List ℕ). written c.args.bytes.now c.args.at (prefix_bytes n ++ u)) (sym full)
