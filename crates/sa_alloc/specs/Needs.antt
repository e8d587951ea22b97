-- What puts need of a store: bytes of the arena and keys. Source: this project.
use Rattle.std.specs.Prelude.{ℕ, ◌+◌, List, [], ◌∷◌, nat_le, if◌then◌else◌, sum_by}
use Rattle.sa_text.specs.Texts.{text_size}
use Rattle.sa_text.specs.declared.value.Value.{Value}
use Rattle.sa_entry.specs.Slots.{Slot, form_of}
use Rattle.sa_entry.specs.declared.form.Form.{Form}
use Rattle.sa_entry.specs.declared.form.Form.TheVariants as form
use Rattle.sa_arena.specs.Extents.{Extent, extent_at, prefix_size}
use Rattle.sa_alloc.specs.declared.needs.Needs.{Needs}
use Rattle.sa_alloc.specs.Layouts.{Layout, EntryState, Fresh, InArena, Outside, Incoming, Outer, incoming, state_at, put}
use Rattle.sa_alloc.specs.Consistency.{slot_at}

-- the bytes of the extent, prefix included, that a long text of this size appends
abbrev pub outer_bytes : EntryState → ℕ → ℕ
outer_bytes Fresh size = prefix_size size + size
outer_bytes old size = 0

abbrev pub bytes_appended : EntryState → Incoming → ℕ
bytes_appended old (Outer text) = outer_bytes old (text_size text)
bytes_appended old new = 0

-- the keys that a long text of this size takes: one where its entry moves outside
abbrev pub outer_keys : List Extent → EntryState → ℕ → ℕ
outer_keys extents Fresh size = 0
outer_keys extents (InArena k) size = if nat_le size (extent_at extents k).capacity then 0 else 1
outer_keys extents (Outside old) size = 0
outer_keys extents old size = 1

abbrev pub keys_taken : List Extent → EntryState → Incoming → ℕ
keys_taken extents old (Outer text) = outer_keys extents old (text_size text)
keys_taken extents old new = 0

-- the bytes that puts one after another append, and the keys that they take
abbrev pub bytes_needed : Layout → List (ℕ × Value) → ℕ
bytes_needed l [] = 0
bytes_needed l (p ∷ ps) = bytes_appended (state_at l.states p.0) (incoming p.1) + bytes_needed (put l p.0 p.1) ps

abbrev pub keys_needed : Layout → List (ℕ × Value) → ℕ
keys_needed l [] = 0
keys_needed l (p ∷ ps) = keys_taken l.extents (state_at l.states p.0) (incoming p.1) + keys_needed (put l p.0 p.1) ps

-- What a put needs at most, by the form of its entry before it: the bytes are exact, and a key counts wherever a text of some size would go outside.
abbrev pub outer_needs : Form → ℕ → Needs
outer_needs form.Fresh size = record { bytes = prefix_size size + size; keys = 0 }
outer_needs (form.Outside key old) size = record { bytes = 0; keys = 0 }
outer_needs old size = record { bytes = 0; keys = 1 }

abbrev pub needs_of : Form → Incoming → Needs
needs_of old (Outer text) = outer_needs old (text_size text)
needs_of old new = record { bytes = 0; keys = 0 }

-- the needs of puts of different entries, each by its entry's slot before the first of them
abbrev pub put_needs : List Slot → ℕ × Value → Needs
put_needs slots p = needs_of (form_of (slot_at slots p.0)) (incoming p.1)

abbrev pub bytes_most : List Slot → List (ℕ × Value) → ℕ
bytes_most slots puts = sum_by (λ p. (put_needs slots p).bytes) puts

abbrev pub keys_most : List Slot → List (ℕ × Value) → ℕ
keys_most slots puts = sum_by (λ p. (put_needs slots p).keys) puts
