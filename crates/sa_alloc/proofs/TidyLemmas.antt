-- A tidy changes no value: puts of all entries that are not fresh, into fresh ones.
use Rattle.std.proofs.Common.{◌≡◌, ℕ, zero, suc, List, [], ◌∷◌, length, map, sum, set, replicate, refl, sym, ap, ◌∙◌}
use Rattle.std.proofs.lemmas.List.{length-replicate}
use Rattle.sa_text.specs.declared.value.Value.{Value}
use Rattle.sa_text.specs.declared.value.Value.TheVariants as value
use Rattle.sa_arena.specs.Extents.{Extent}
use Rattle.sa_alloc.specs.Layouts.{Layout, EntryState, Fresh, IsSound, opening_layout, put, put_all, values_of, value_in}
use Rattle.sa_alloc.specs.Tidies.{filled}
use Rattle.sa_alloc.specs.Laws.{TidiesKeepValues}
use Rattle.sa_alloc.proofs.LayoutLemmas.{put-sound, put-lengths, put-entries, opening-sound, values-put}

-- values after puts, one after another
abbrev pub set_all : List Value → List (ℕ × Value) → List Value
set_all vs [] = vs
set_all vs (p ∷ ps) = set_all (set vs p.0 p.1) ps

pub all-sound : (l : Layout) (ps : List (ℕ × Value)) → IsSound l → IsSound (put_all l ps)
all-sound l [] sound = sound
all-sound l (p ∷ ps) sound = all-sound (put l p.0 p.1) ps (put-sound l p.0 p.1 sound)

pub all-lengths : (l : Layout) (ps : List (ℕ × Value)) → (put_all l ps).lengths ≡ l.lengths
all-lengths l [] = refl
all-lengths l (p ∷ ps) = all-lengths (put l p.0 p.1) ps ∙ put-lengths l p.0 p.1

pub all-entries : (l : Layout) (ps : List (ℕ × Value)) → length (put_all l ps).states ≡ length l.states
all-entries l [] = refl
all-entries l (p ∷ ps) = all-entries (put l p.0 p.1) ps ∙ put-entries l p.0 p.1

pub all-values : (l : Layout) (ps : List (ℕ × Value)) → IsSound l → values_of (put_all l ps) ≡ set_all (values_of l) ps
all-values l [] sound = refl
all-values l (p ∷ ps) sound =
    all-values (put l p.0 p.1) ps (put-sound l p.0 p.1 sound) ∙ ap (λ vs. set_all vs ps) (values-put l p.0 p.1 sound)

-- puts past the first entry leave its value
pub later : (es : List Extent) (k : ℕ) (states : List EntryState) (v : Value) (vs : List Value) → set_all (v ∷ vs) (filled es (suc k) states) ≡ v ∷ set_all vs (filled es k states)
later es k [] v vs = refl
later es k (Fresh ∷ ss) v vs = later es (suc k) ss v vs
later es k (s ∷ ss) v vs = later es (suc k) ss v (set vs k (value_in es s))

-- each entry has its value where the fresh ones begin with the value that they read as
pub all-filled : (es : List Extent) (states : List EntryState) → set_all (replicate (length states) (value.Of [])) (filled es 0 states) ≡ map (value_in es) states
all-filled es [] = refl
all-filled es (Fresh ∷ ss) = later es 0 ss (value.Of []) (replicate (length ss) (value.Of [])) ∙ ap (λ vs. value.Of [] ∷ vs) (all-filled es ss)
all-filled es (s ∷ ss) = later es 0 ss (value_in es s) (replicate (length ss) (value.Of [])) ∙ ap (λ vs. value_in es s ∷ vs) (all-filled es ss)

pub map-fresh : (n : ℕ) → map (value_in []) (replicate n Fresh) ≡ replicate n (value.Of [])
map-fresh zero = refl
map-fresh (suc n) = ap (λ vs. value.Of [] ∷ vs) (map-fresh n)

pub tidy-keeps : TidiesKeepValues
tidy-keeps l sound entries = record {
  values =
      all-values (opening_layout l.lengths) (filled l.extents 0 l.states) (opening-sound l.lengths)
      ∙ ap (λ vs. set_all vs (filled l.extents 0 l.states)) (map-fresh (sum l.lengths) ∙ ap (λ n. replicate n (value.Of [])) (sym entries))
      ∙ all-filled l.extents l.states;
  lengths = all-lengths (opening_layout l.lengths) (filled l.extents 0 l.states);
  entries = all-entries (opening_layout l.lengths) (filled l.extents 0 l.states) ∙ length-replicate (sum l.lengths) Fresh ∙ sym entries;
  sound = all-sound (opening_layout l.lengths) (filled l.extents 0 l.states) (opening-sound l.lengths);
}
