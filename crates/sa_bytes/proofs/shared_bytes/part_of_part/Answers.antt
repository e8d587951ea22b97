-- A part of a part is a part.
use Rattle.std.proofs.Common.{◌≡◌, ◌≤◌, ◌+◌, ◌-◌, ℕ, List, take, drop, refl, sym, ap, ap₂, ◌∙◌, arith}
use Rattle.std.specs.Arc.{arc_value}
use Rattle.std.proofs.lemmas.List.{take-take, drop-take, drop-drop}
use Rattle.sa_bytes.proofs.shared_bytes.part_of_part.Goals as goal

part-part : (size start more first : ℕ) (bytes : List ℕ) → size ≤ more → take size (drop (first + start) bytes) ≡ take size (drop start (take (start + more) (drop first bytes)))
part-part size start more first bytes fits =
    ap (take size) (sym (drop-drop start first bytes))
    ∙ sym (take-take size more (drop start (drop first bytes)) fits)
    ∙ ap (take size) (sym (drop-take start more (drop first bytes)))

pub returns : goal.returns
returns c =
    let size = c.args.size in
    let start = c.args.start in
    let first = c.args.first in
    let more = c.args.last + 1 - start in
    let bytes : List ℕ = (arc_value c.args.block.now).items in
    let block : arc_value c.in_ok-block.block ≡ arc_value c.args.block.now = c.in_ok-block.ensures in
    let one : size - 1 + 1 ≡ size = omega arith in
    let whole : start + more ≡ c.args.last + 1 = omega arith in
    c.of_part.ensures
    ∙ ap (λ n. take n (drop (first + start) (arc_value c.in_ok-block.block).items)) one
    ∙ ap (take size) (ap (drop (first + start)) (cc))
    ∙ part-part size start more first bytes (omega arith)
    ∙ ap (λ n. take size (drop start (take n (drop first bytes)))) whole
