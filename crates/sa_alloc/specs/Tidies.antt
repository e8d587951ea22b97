-- A tidy of a layout. Source: this project.
use Rattle.std.specs.Prelude.{ℕ, suc, List, [], ◌∷◌}
use Rattle.sa_text.specs.declared.value.Value.{Value}
use Rattle.sa_arena.specs.Extents.{Extent}
use Rattle.sa_alloc.specs.Layouts.{EntryState, Fresh, Layout, opening_layout, put_all, value_in}

-- the entries of these states that are not fresh, from this number on, each with its value
abbrev pub filled : List Extent → ℕ → List EntryState → List (ℕ × Value)
filled extents entry [] = []
filled extents entry (Fresh ∷ states) = filled extents (suc entry) states
filled extents entry (state ∷ states) = (entry, value_in extents state) ∷ filled extents (suc entry) states

-- the layout that the values of all entries that are not fresh make, put one after another, in order, into a new one
abbrev pub tidy : Layout → Layout
tidy l = put_all (opening_layout l.lengths) (filled l.extents 0 l.states)
