-- Where the bytes of a value stand: this project's own layout.
use Rattle.std.specs.Prelude.{ℕ, ◌+◌, ◌≤◌, ◌<◌, ◌^◌, List, length, take, drop}
use Rattle.std.specs.Arc.{arc_value}
use Rattle.sa_bytes.specs.declared.shared_bytes.TheConstants.{INSIDE_MOST}
use Rattle.sa_bytes.specs.declared.shared_bytes.Held.{Held}
use Rattle.sa_bytes.specs.declared.shared_bytes.Held.TheVariants.{Inside, Part}

-- the bytes that are held, wherever they stand
abbrev pub bytes_of : Held → List ℕ
bytes_of (Inside size bytes) = take size bytes
bytes_of (Part last start block) = take (last + 1) (drop start (arc_value block).items)

-- the bytes that are told are there, in a block of less than 4 GiB
abbrev pub IsHeld : Held → Type 0
IsHeld (Inside size bytes) = size ≤ INSIDE_MOST
IsHeld (Part last start block) = (start + last < length (arc_value block).items) × (length (arc_value block).items < 2 ^ 32)
