-- Laws of extents, whatever their texts are.
use Rattle.std.specs.Prelude.{◌≡◌, ℕ, ◌+◌, ◌<◌, ◌≤◌, List, length}
use Rattle.sa_arena.specs.Extents.{Extent, extent_at, cursor_of, live_bytes, dead_bytes, start_of, offset_of, number_at}

-- Of two extents the later one begins, prefix included, no earlier than where the room of the earlier one ends: they share no byte.
abbrev pub ShareNoByte : Type 0
ShareNoByte = (es : List Extent) (i j : ℕ) → i < j → j < length es → offset_of es i + (extent_at es i).capacity ≤ start_of es j

-- each extent ends at the cursor or below it
abbrev pub LieBelowCursor : Type 0
LieBelowCursor = (es : List Extent) (k : ℕ) → k < length es → offset_of es k + (extent_at es k).capacity ≤ cursor_of es

-- the cursor is the live bytes and the dead bytes
abbrev pub CursorIsLiveAndDead : Type 0
CursorIsLiveAndDead = (es : List Extent) → cursor_of es ≡ live_bytes es + dead_bytes es

-- an offset tells its extent
abbrev pub OffsetsTellExtents : Type 0
OffsetsTellExtents = (es : List Extent) (k : ℕ) → k < length es → number_at es (offset_of es k) ≡ k

-- an offset that tells an extent is that of its text
abbrev pub NumbersTellOffsets : Type 0
NumbersTellOffsets = (es : List Extent) (at : ℕ) → number_at es at < length es → offset_of es (number_at es at) ≡ at
