-- The bounds of a number with one more digit.
use Rattle.std.proofs.Common.{arith, ◌∙◌, sym}
use Rattle.sa_lines.proofs.QuoteLemmas.{hex_room, hex_fits, hex_value-small}
use Rattle.sa_lines.proofs.quote.+hex_at.Goals as goal

pub overflow_mul-value : goal.overflow_mul-value
overflow_mul-value t c =
    let fits = hex_fits c.args.left c.args.value 0 (omega arith) c.requires.few c.requires.small (omega arith) in
    omega arith

pub overflow_add-value : goal.overflow_add-value
overflow_add-value t c =
    let small = hex_value-small c.in_ok-byte.byte c.in_ok-digit.digit (sym c.hex_value.ensures ∙ c.in_ok-digit.was) in
    let fits = hex_fits c.args.left c.args.value c.in_ok-digit.digit (omega arith) c.requires.few c.requires.small small in
    omega arith

pub hex_at-requires : goal.hex_at-requires
hex_at-requires t c =
    let small = hex_value-small c.in_ok-byte.byte c.in_ok-digit.digit (sym c.hex_value.ensures ∙ c.in_ok-digit.was) in
    (omega arith, (omega arith, hex_room c.args.left c.args.value c.in_ok-digit.digit (omega arith) c.requires.few c.requires.small small))
