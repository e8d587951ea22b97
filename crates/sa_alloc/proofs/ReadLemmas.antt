-- What a store's parts show is what its layout shows.
use Rattle.std.proofs.Common.{◌≡◌, ◌≤◌, ◌<◌, ◌+◌, ◌-◌, nat_lt, ℕ, Bool, true, false, List, [], ◌∷◌, length, map, count_by, IsUtf8, refl, sym, ap, ◌∙◌, subst, arith, get_or}
use Rattle.std.specs.Str.{chars}
use Rattle.std.proofs.lemmas.Str.{encodes-chars, chars-nil, IsUtf8-nil}
use Rattle.std.proofs.lemmas.List.{length-map}
use Rattle.std.proofs.lemmas.List.Sums.{sum_by-cons}
use Rattle.sa_base.specs.declared.stats.Stats.{Stats}
use Rattle.sa_text.specs.Texts.{text_size, most_bytes}
use Rattle.sa_text.specs.Values.{value_weight}
use Rattle.sa_text.specs.declared.value.Value.{Value}
use Rattle.sa_text.specs.declared.value.Value.TheVariants as value
use Rattle.sa_entry.specs.Slots.{Slot, Fresh, Inline, InArena, Outside, form_of, is_inside, inside_bytes, slot_size, spelling, IsOuterSize}
use Rattle.sa_entry.specs.declared.form.Form.{Form}
use Rattle.sa_entry.specs.declared.form.Form.TheVariants as form
use Rattle.sa_arena.specs.Extents.{Extent, extent_at, number_at, offset_of, cursor_of, live_bytes, dead_bytes}
use Rattle.sa_arena.proofs.ExtentLemmas.{live-below, offset-number_at, cursor-live_and_dead}
use Rattle.sa_outside.specs.Keyed.{used_count}
use Rattle.sa_alloc.specs.declared.store.Store.TheInside.{Inside}
use Rattle.sa_alloc.specs.Layouts as layouts
use Rattle.sa_alloc.specs.Layouts.{Layout, EntryState, state_at, value_in, values_of, value_at, text_in, is_out, one_if, stats_of, slot_of, entry_image}
use Rattle.sa_alloc.specs.Transitions.{Storage, storage}
use Rattle.sa_alloc.specs.Consistency.{state_of, decoded, HoldsTexts, IsTrueOfSlot, slot_at, is_outside, text_under, IsSized, without_key}
use Rattle.sa_alloc.specs.StoreValues.{StoreValue, IsSoundStore}
use Rattle.sa_alloc.proofs.LayoutLemmas.{map-same}
use Rattle.sa_alloc.proofs.DecodedLemmas.{cursor-decoded, live-decoded, text_in-decoded, offset-decoded, capacity-decoded, number_at-decoded}
use Rattle.sa_alloc.proofs.StoreLemmas.{parts, contents_from, store_value, Keeps, slot-told, state-now}

-- bytes that a load may lend for a value
abbrev Lent : Value → List ℕ → Type 0
Lent v bytes = (v ≡ value.Of (chars bytes)) × IsUtf8 bytes × (length bytes ≤ most_bytes)

lent-inside : (t : Storage) (s : Slot) → is_inside s ≡ true → IsTrueOfSlot t s → Lent (value_in (map decoded t.extents) (state_of t s)) (inside_bytes s)
lent-inside t Fresh inside told = (ap value.Of (sym chars-nil), IsUtf8-nil, omega arith)
lent-inside t (Inline bytes) inside told = (refl, told.0, (let short = told.1 in omega arith))
lent-inside t s inside told = cc

abbrev form_inside : Form → Bool
form_inside form.Fresh = true
form_inside (form.Inline size) = true
form_inside other = false

inside-form : (s : Slot) → is_inside s ≡ form_inside (form_of s)
inside-form Fresh = refl
inside-form s = refl

-- what a slot says is what the layout's slot says, but for a key
slot-shown : (t : Storage) (s : Slot) → IsTrueOfSlot t s → HoldsTexts t → slot_of (map decoded t.extents) (state_of t s) ≡ without_key s
slot-shown t (Inline bytes) told holds = ap Inline (encodes-chars bytes told.0)
slot-shown t (Outside key size) told holds =
    ap (λ (b : List ℕ). Outside 0 (length b)) (encodes-chars (text_under t.texts key) (holds.kept key told.used).utf8) ∙ ap (Outside 0) told.sized
slot-shown t (InArena at size long) told holds =
    let es = t.extents in
    let n = number_at es at in
    let at_is : offset_of (map decoded es) n ≡ at = offset-decoded es n ∙ offset-number_at es at (live-below es n told.live) in
    let size_is : text_size (text_in (map decoded es) n) ≡ size =
    ap text_size (text_in-decoded es n) ∙ ap length (encodes-chars (text_in es n) (holds.held n told.live).outer.utf8) ∙ told.sized in
    let long_is : nat_lt 255 (extent_at (map decoded es) n).capacity ≡ long = ap (λ c. nat_lt 255 c) (capacity-decoded es n) ∙ told.prefix in
    ap (λ m. InArena m (text_size (text_in (map decoded es) n)) (nat_lt 255 (extent_at (map decoded es) n).capacity)) at_is
    ∙ ap (λ m. InArena at m (nat_lt 255 (extent_at (map decoded es) n).capacity)) size_is
    ∙ ap (InArena at size) long_is
slot-shown t s told holds = refl

slot-sized : (t : Storage) (s : Slot) → IsTrueOfSlot t s → HoldsTexts t → IsSized s
slot-sized t (Outside key size) told holds = subst IsOuterSize told.sized (holds.kept key told.used).size
slot-sized t s told holds = tt

size-without_key : (s : Slot) → slot_size (without_key s) ≡ slot_size s
size-without_key (Outside key size) = refl
size-without_key s = refl

weight-state : (es : List Extent) (s : EntryState) → value_weight (value_in es s) ≡ 16 + slot_size (slot_of es s)
weight-state es layouts.Fresh = refl
weight-state es s = refl

-- what a slot's value weighs is what the slot says
slot-weighs : (t : Storage) (s : Slot) → IsTrueOfSlot t s → HoldsTexts t → value_weight (value_in (map decoded t.extents) (state_of t s)) ≡ 16 + slot_size s
slot-weighs t s told holds = weight-state (map decoded t.extents) (state_of t s) ∙ ap (λ x. 16 + slot_size x) (slot-shown t s told holds) ∙ ap (λ n. 16 + n) (size-without_key s)

-- an entry that was read
module _ (s : Inside) (now : StoreValue) (e : store_value s ≡ now) (keeps : Keeps s) (i : ℕ) (slot : Slot) (h : i < length now.contents.slots) (read : slot ≡ get_or s.entries.items i slot) where
  told : IsTrueOfSlot (parts s) slot
  told = slot-told s now e keeps i slot h read

  value-now : value_at now.contents.layout i ≡ value_in (map decoded s.arena.extents) (state_of (parts s) slot)
  value-now = ap (λ (x : StoreValue). value_in x.contents.layout.extents (state_at now.contents.layout.states i)) (sym e) ∙ ap (value_in (map decoded s.arena.extents)) (state-now s now e keeps i slot h read)

  pub lent-read : (f : Form) (bytes : List ℕ) → f ≡ form_of slot → form_inside f ≡ true → bytes ≡ inside_bytes slot → Lent (value_at now.contents.layout i) bytes
  lent-read f bytes f_is inside bytes_is =
      let lent = lent-inside (parts s) slot (inside-form slot ∙ ap form_inside (sym f_is) ∙ inside) told in
      subst (λ v. Lent v bytes) (sym value-now) (subst (Lent (value_in (map decoded s.arena.extents) (state_of (parts s) slot))) (sym bytes_is) lent)

  pub sized-read : IsSized slot
  sized-read = slot-sized (parts s) slot told keeps.consistent.holds

  pub image-read : spelling (without_key slot) ≡ entry_image now.contents.layout i
  image-read =
      ap spelling (sym (slot-shown (parts s) slot told keeps.consistent.holds))
      ∙ ap (λ x. spelling (slot_of (map decoded s.arena.extents) x)) (sym (state-now s now e keeps i slot h read))
      ∙ ap (λ (x : StoreValue). spelling (slot_of x.contents.layout.extents (state_at now.contents.layout.states i))) e

  pub weight-read : 16 + slot_size slot ≡ value_weight (value_at now.contents.layout i)
  weight-read = sym (slot-weighs (parts s) slot told keeps.consistent.holds) ∙ ap value_weight (sym value-now)

-- statistics, and what every store keeps

outside-out : (t : Storage) (ss : List Slot) → count_by is_out (map (state_of t) ss) ≡ count_by is_outside ss
outside-out t [] = refl
outside-out t (s ∷ ss) =
    sum_by-cons (λ x. one_if (is_out x)) (state_of t s) (map (state_of t) ss)
    ∙ ap (λ n. one_if (is_out (state_of t s)) + n) (outside-out t ss)
    ∙ ap (λ b. one_if b + count_by is_outside ss) (same s)
    ∙ sym (sum_by-cons (λ x. one_if (is_outside x)) s ss)
  where
    same : (s : Slot) → is_out (state_of t s) ≡ is_outside s
    same (Outside key size) = refl
    same s = refl

state-decoded : (t : Storage) (s : Slot) → state_of t s ≡ state_of (storage (map decoded t.extents) t.texts) s
state-decoded t (InArena at size long) = ap layouts.InArena (sym (number_at-decoded t.extents at))
state-decoded t s = refl

abbrev stats_at : ℕ → ℕ → ℕ → ℕ → Stats
stats_at cursor live dead outside = record { cursor = cursor; live = live; dead = dead; outside = outside }

pub live-le-cursor : (es : List Extent) → live_bytes es ≤ cursor_of es
live-le-cursor es = let all = cursor-live_and_dead es in omega arith

module _ (s : Inside) (now : StoreValue) (e : store_value s ≡ now) (keeps : Keeps s) where
  pub stats-read : (cursor live outside : ℕ) → cursor ≡ cursor_of s.arena.extents → live ≡ live_bytes s.arena.extents → outside ≡ used_count s.outside.texts → stats_at cursor live (cursor - live) outside ≡ stats_of now.contents.layout
  stats-read cursor live outside cursor_is live_is outside_is =
      let es = map decoded s.arena.extents in
      let all = cursor-live_and_dead es in
      let cursor_now = cursor_is ∙ sym (cursor-decoded s.arena.extents) in
      let live_now = live_is ∙ sym (live-decoded s.arena.extents) in
      let dead_now : cursor - live ≡ dead_bytes es = omega arith in
      let outside_now = outside_is ∙ sym (outside-out (parts s) s.entries.items ∙ keeps.consistent.outside) in
      ap (λ n. stats_at n live (cursor - live) outside) cursor_now ∙ ap (λ n. stats_at (cursor_of es) n (cursor - live) outside) live_now
      ∙ ap (λ n. stats_at (cursor_of es) (live_bytes es) n outside) dead_now ∙ ap (stats_at (cursor_of es) (live_bytes es) (dead_bytes es)) outside_now
      ∙ ap (λ (x : StoreValue). stats_of x.contents.layout) e

  pub store-sound : IsSoundStore now.contents
  store-sound =
      let it : IsSoundStore (contents_from s.lengths.items (parts s) s.entries.items) = record {
        layout = keeps.consistent.sound;
        entries = length-map s.entries.items (state_of (parts s)) ∙ keeps.consistent.entries;
        small = keeps.small;
        keyed = keeps.consistent.keyed;
        outside = keeps.consistent.outside;
        states = map-same (state_of (storage (map decoded s.arena.extents) s.outside.texts)) (state_of (parts s)) s.entries.items Fresh (λ j h. state-decoded (parts s) (slot_at s.entries.items j));
      } in
      subst (λ (x : StoreValue). IsSoundStore x.contents) e it
