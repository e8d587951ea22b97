-- An entry's field is given back by what its bytes spell.
use Rattle.std.specs.Prelude.{◌≡◌, List, ℕ}
use Rattle.std.proofs.Common.{ap}
use Rattle.sa_entry.specs.Slots.{spelling}
use Rattle.sa_entry.specs.Readings.{slot_of, IsSpelling}
use Rattle.sa_entry.specs.declared.entry.Entry.TheInside.{Inside}

abbrev pub again : List ℕ → Inside
again bytes = record { bytes = bytes }

pub entry_again : (e : Inside) → IsSpelling e.bytes → again (spelling (slot_of e.bytes)) ≡ e
entry_again e h = ap again h.spelled
