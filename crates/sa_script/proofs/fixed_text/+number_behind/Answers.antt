-- The bounds of a number with one more digit.
use Rattle.std.proofs.Common.{arith, ap, length}
use Rattle.sa_script.proofs.FixedTextLemmas.{number-fits, number-room}
use Rattle.sa_script.proofs.fixed_text.+number_behind.Goals as goal

pub overflow_mul-value : goal.overflow_mul-value
overflow_mul-value t c =
    let fits = number-fits c.args.digits.now c.in-Some.rest.now c.in-Some.byte c.args.value 0 c.in-Some.ensures.cut c.requires.few c.requires.small (omega arith) in
    omega arith

pub overflow_add-value : goal.overflow_add-value
overflow_add-value t c =
    let fits = number-fits c.args.digits.now c.in-Some.rest.now c.in-Some.byte c.args.value c.in_ok-digit.digit c.in-Some.ensures.cut c.requires.few c.requires.small c.in_ok-digit.ensures.small in
    omega (arith, c.from.ensures)

pub number_behind-requires : goal.number_behind-requires
number_behind-requires t c =
    let size = ap length c.in-Some.ensures.cut in
    let room = number-room c.args.digits.now c.in-Some.rest.now c.in-Some.byte c.args.value c.in_ok-digit.digit c.in-Some.ensures.cut c.requires.few c.requires.small c.in_ok-digit.ensures.small in
    (omega arith, (omega arith, omega (arith, c.from.ensures, room)))
