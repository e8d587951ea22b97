-- What `memchr` says of the line feed that it found, or that there is none, cuts the text.
use Rattle.std.proofs.Common.{◌+◌, length, arith, eq-eqb, eqb-true}
use Rattle.std.proofs.lemmas.List.{take_rest, drop_all}
use Rattle.sa_lines.proofs.LineLemmas.{lines_of-cut, lines_of-whole}
use Rattle.sa_lines.proofs.line.cut_line.Goals as goal

pub returns-in-Some-clause-cut : goal.returns-in-Some-clause-cut
returns-in-Some-clause-cut c =
    let bytes = c.args.bytes.now in
    let at = c.in-Some.at in
    let h = c.in-Some.ensures in
    let cut = lines_of-cut bytes at h.0.high (eqb-true _ 10 h.1) (λ k below feed. h.0.before k (omega arith) below (eq-eqb _ 10 feed)) in
    rw (take_rest bytes (at + 1), c.without_return.ensures) cut

pub returns-in-None-clause-cut : goal.returns-in-None-clause-cut
returns-in-None-clause-cut c =
    let bytes = c.args.bytes.now in
    let h = c.in-None.ensures in
    let whole = lines_of-whole bytes c.requires (λ k below feed. h k (omega arith) below (eq-eqb _ 10 feed)) in
    rw (take_rest bytes (length bytes), drop_all (length bytes) bytes (omega arith)) whole
