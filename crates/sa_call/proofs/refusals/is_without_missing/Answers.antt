use Rattle.std.proofs.Common.{◌≡◌, false, length, map, sym, ap, ◌∙◌, subst}
use Rattle.std.specs.List.{list_any}
use Rattle.sa_text.specs.Values.{item_of}
use Rattle.sa_call.specs.Elements.{is_missing_item}
use Rattle.sa_call.proofs.RefusalLemmas.{bytes-present, flags-present, ints-present, stretched-present, units-present}
use Rattle.sa_call.proofs.refusals.is_without_missing.Goals as goal

pub returns-in-Values : goal.returns-in-Values
returns-in-Values c present =
    rw c.in-Values.is (ap (λ vs. list_any is_missing_item (map item_of vs)) c.as_slice.ensures ∙ stretched-present (length c.in-Values.values) c.as_slice.result.now (sym c.are_present.ensures ∙ present))

pub returns-in-Ints : goal.returns-in-Ints
returns-in-Ints c present = rw c.in-Ints.is (ints-present c.in-Ints._numbers)

pub returns-in-Flags : goal.returns-in-Flags
returns-in-Flags c present = rw c.in-Flags.is (flags-present c.in-Flags._flags)

pub returns-in-Bytes : goal.returns-in-Bytes
returns-in-Bytes c present = rw c.in-Bytes.is (bytes-present c.in-Bytes._rows)

pub returns-in-Units : goal.returns-in-Units
returns-in-Units c present = rw c.in-Units.is (units-present c.in-Units._rows)
