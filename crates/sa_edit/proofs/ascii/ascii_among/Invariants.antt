use Rattle.std.proofs.Common.{◌≡◌, ◌<◌, ℕ, false, nat_eq, get_or, take}
use Rattle.std.specs.List.{list_any}
use Rattle.sa_edit.proofs.ascii.ascii_among.Given as goal

abbrev pub invariant-loop-byte : goal.invariant-loop-byte
invariant-loop-byte l = (point : ℕ) → point < 128 → get_or l.table point false ≡ list_any (nat_eq point) (take l.byte-index l.bytes)
