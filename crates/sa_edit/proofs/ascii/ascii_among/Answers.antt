use Rattle.std.proofs.Common.{false, nat_eq, ap, ◌∙◌, arith}
use Rattle.std.specs.List.{list_any}
use Rattle.std.proofs.lemmas.List.{get_or-replicate, take_all}
use Rattle.sa_edit.proofs.AsciiLemmas.{ascii-any}
use Rattle.sa_edit.proofs.ascii.ascii_among.Goals as goal

pub loop-byte-init : goal.loop-byte-init
loop-byte-init c = λ point h. get_or-replicate 128 point false false h

pub returns : goal.returns
returns c = λ point h.
    c.loop-byte.invariant point h
    ∙ ap (list_any (nat_eq point)) (take_all c.loop-byte.byte-index c.as_bytes-bytes.result.now (omega arith) ∙ c.as_bytes-bytes.ensures.bytes)
    ∙ ascii-any point c.args.points.now h
