-- One put over what the texts of a store lie in: the table of transitions once more, over bytes and keys.
use Rattle.std.specs.Prelude.{◌≡◌, ℕ, ◌+◌, ◌≤◌, nat_lt, nat_le, true, List, [], ◌∷◌, ◌++◌, length, Option, Some, None, IsUtf8, encode_utf8_all}
use Rattle.std.specs.Bool.{MatchBool}
use Rattle.std.specs.Str.{chars}
use Rattle.sa_text.specs.Texts.{text_size, most_bytes}
use Rattle.sa_text.specs.declared.value.Value.{Value}
use Rattle.sa_text.specs.declared.value.Value.TheVariants as value
use Rattle.sa_entry.specs.Slots.{Slot, Inline, InArena, Outside, Missing, most_short}
use Rattle.sa_entry.specs.declared.form.Form.{Form}
use Rattle.sa_entry.specs.declared.form.Form.TheVariants as form
use Rattle.sa_arena.specs.Extents.{Extent, extent_at, is_live, number_at, with_text, trimmed, extent_for, cursor_of, prefix_size}
use Rattle.sa_outside.specs.Keyed.{bytes_at, is_used, used_count, Changes}
use Rattle.sa_alloc.specs.Layouts as layouts
use Rattle.sa_alloc.specs.Layouts.{EntryState, Incoming, Nothing, Short, Outer}

-- what texts lie in besides slots: the arena's extents, with the bytes of their texts, and the bytes or nothing at each key
pub record Storage : Type 0 where
  pub extents : List Extent
  pub texts : List (Option (List ℕ))

abbrev pub storage : List Extent → List (Option (List ℕ)) → Storage
storage extents texts = record { extents = extents; texts = texts }

-- a text is that of its bytes, which are UTF-8 and not too many
pub record IsSpelled (text : List ℕ) : Type 0 where
  pub again : chars (encode_utf8_all text) ≡ text
  pub utf8 : IsUtf8 (encode_utf8_all text)
  pub most : text_size text ≤ most_bytes

abbrev pub Spelled : Value → Type 0
Spelled value.Missing = Unit {0}
Spelled (value.Of text) = IsSpelled text

-- the state that a form tells, but for its text
abbrev pub state_by : List Extent → Form → EntryState
state_by extents form.Fresh = layouts.Fresh
state_by extents (form.Inline size) = layouts.Inline []
state_by extents (form.Arena at size long) = layouts.InArena (number_at extents at)
state_by extents (form.Outside key size) = layouts.Outside []
state_by extents form.Missing = layouts.Missing

-- what a form names is there
abbrev pub IsPresent : Storage → Form → Type 0
IsPresent t (form.Arena at size long) = (is_live t.extents (number_at t.extents at) ≡ true) × (nat_lt most_short (extent_at t.extents (number_at t.extents at)).capacity ≡ long)
IsPresent t (form.Outside key size) = is_used t.texts key ≡ true
IsPresent t other = Unit {0}

-- the extents once the one at an offset is dead
abbrev pub killed : List Extent → ℕ → List Extent
killed extents at = trimmed (with_text extents (number_at extents at) None)

-- a key is used no more; has another text; or is new
pub record FreesKey (old new : List (Option (List ℕ))) (key : ℕ) : Type 0 where
  pub changes : Changes old new key None
  pub count : used_count new + 1 ≡ used_count old

pub record SwapsKey (old new : List (Option (List ℕ))) (key : ℕ) (bytes : List ℕ) : Type 0 where
  pub changes : Changes old new key (Some bytes)
  pub count : used_count new ≡ used_count old

pub record GainsKey (old new : List (Option (List ℕ))) (key : ℕ) (bytes : List ℕ) : Type 0 where
  pub vacant : bytes_at old key ≡ None
  pub changes : Changes old new key (Some bytes)
  pub count : used_count new ≡ used_count old + 1

-- what an entry of a form named is given up
abbrev pub ReleasesText : Storage → Form → Storage → Type 0
ReleasesText t (form.Arena at size long) t' = (t'.extents ≡ killed t.extents at) × (t'.texts ≡ t.texts)
ReleasesText t (form.Outside key size) t' = (t'.extents ≡ t.extents) × FreesKey t.texts t'.texts key
ReleasesText t other t' = (t'.extents ≡ t.extents) × (t'.texts ≡ t.texts)

abbrev pub key_of : Slot → ℕ
key_of (Outside key size) = key
key_of other = 0

-- a text goes outside, under the key of the new slot
pub record GoesOutside (old new : List (Option (List ℕ))) (bytes : List ℕ) (slot : Slot) : Type 0 where
  pub named : slot ≡ Outside (key_of slot) (length bytes)
  pub gains : GainsKey old new (key_of slot) bytes

-- a text that does not fit into a slot comes in, by the form of its entry
abbrev pub TakesText : Storage → Form → List ℕ → Storage → Slot → Type 0
TakesText t form.Fresh bytes t' slot =
    (t'.extents ≡ t.extents ++ extent_for (length bytes) bytes ∷ []) × (t'.texts ≡ t.texts) × (slot ≡ InArena (cursor_of t.extents + prefix_size (length bytes)) (length bytes) (nat_lt most_short (length bytes)))
TakesText t (form.Arena at size long) bytes t' slot =
    MatchBool (nat_le (length bytes) (extent_at t.extents (number_at t.extents at)).capacity)
    ((t'.extents ≡ with_text t.extents (number_at t.extents at) (Some bytes)) × (t'.texts ≡ t.texts) × (slot ≡ InArena at (length bytes) long))
    ((t'.extents ≡ killed t.extents at) × GoesOutside t.texts t'.texts bytes slot)
TakesText t (form.Outside key size) bytes t' slot = (t'.extents ≡ t.extents) × SwapsKey t.texts t'.texts key bytes × (slot ≡ Outside key (length bytes))
TakesText t other bytes t' slot = (t'.extents ≡ t.extents) × GoesOutside t.texts t'.texts bytes slot

-- a put into an entry of a form, by what comes in
abbrev pub StepsStore : Storage → Form → Incoming → Storage → Slot → Type 0
StepsStore t old Nothing t' slot = ReleasesText t old t' × (slot ≡ Missing)
StepsStore t old (Short text) t' slot = ReleasesText t old t' × (slot ≡ Inline (encode_utf8_all text))
StepsStore t old (Outer text) t' slot = TakesText t old (encode_utf8_all text) t' slot
