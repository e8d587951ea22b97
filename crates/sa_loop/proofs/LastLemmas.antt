-- What is known of the strings arrays stays right: after a read, after a write, and in worlds that agree.
use Rattle.std.proofs.Common.{◌≡◌, ◌≢◌, ◌<◌, ◌≤◌, ◌⊎◌, nat_lt, ℕ, true, false, inl, inr, List, [], ◌∷◌, length, replicate, set, get_or, Option, Some, None, refl, sym, ap, ◌∙◌, subst, arith, zero, suc, Bool, cond}
use Rattle.std.proofs.lemmas.Bool.{cases_Bool, ltb-true, ltb-false}
use Rattle.std.proofs.lemmas.Bool.Decides.{eqb_tells}
use Rattle.std.proofs.lemmas.List.{get_or_past, get_or-set_same, get_or-set_other, length-map}
use Rattle.sa_text.specs.declared.value.Value.{Value}
use Rattle.sa_text.specs.declared.value.Value.TheVariants.{Missing}
use Rattle.sa_view.specs.Views.{places_of, read_at}
use Rattle.sa_view.specs.declared.view.View.{View}
use Rattle.sa_call.specs.Decls.{Declared, home_of, is_strings_array}
use Rattle.sa_hall.specs.Contents.{Contents}
use Rattle.sa_loop.specs.declared.last_read.LastRead.{LastRead}
use Rattle.sa_loop.specs.Held.{IsHeldView}
use Rattle.sa_loop.specs.LastReads.{AreKnown, placed, read_in, unknown_output}
use Rattle.sa_loop.specs.Laws.{is_output}
use Rattle.sa_loop.specs.Runs.{world_of}
use Rattle.sa_loop.specs.States.{World, values_at, view_values}
use Rattle.sa_loop.proofs.WorldLemmas.{view-few}

-- a list that is known has the items of its view
pub known-list : (decls : Declared) (w : World) (lasts : List (Option LastRead)) (v : View) (list : List Value) → AreKnown decls w lasts → v.array < length decls.arrays → is_strings_array decls v.array ≡ true
    → get_or lasts v.array None ≡ Some (record { view = v; list = list }) → list ≡ view_values decls (w (home_of decls v.array)) v
known-list decls w lasts v list known below strings at = ap (λ (l : LastRead). l.list) (known v.array (record { view = v; list = list }) below strings at)

-- and few of them
pub known-few : (decls : Declared) (held : ℕ → Bool) (holds : ℕ → Contents) (lasts : List (Option LastRead)) (v : View) (list : List Value) → IsHeldView decls held holds v → is_strings_array decls v.array ≡ true → AreKnown decls (world_of holds) lasts
    → get_or lasts v.array None ≡ Some (record { view = v; list = list }) → length list ≤ 8192
known-few decls held holds lasts v list is strings known at =
    let same = known-list decls (world_of holds) lasts v list known is.inside.array strings at in
    let long = ap length same ∙ length-map (places_of v) (λ p. get_or (values_at decls (world_of holds) v.array) p Missing) in
    let few = view-few decls v is.inside.declared is.inside.array is.inside.view in
    omega arith

some-same : (a b : LastRead) → Some a ≡ Some b → a ≡ b
some-same a b e = cc

-- what is known of an array where something was placed
placed-other : (lasts : List (Option LastRead)) (at array : ℕ) (x : Option LastRead) → array ≢ at → get_or (placed lasts at x) array None ≡ get_or lasts array None
placed-other lasts at array x apart =
    elim (cases_Bool (nat_lt at (length lasts))) [
      | inl t ↦ ap (λ (b : Bool). get_or (cond b (set lasts at x) lasts) array None) t ∙ get_or-set_other lasts at array x None apart
      | inr f ↦ ap (λ (b : Bool). get_or (cond b (set lasts at x) lasts) array None) f
    ]

placed-here : (lasts : List (Option LastRead)) (at : ℕ) (x : Option LastRead) → (get_or (placed lasts at x) at None ≡ x) ⊎ (get_or (placed lasts at x) at None ≡ None)
placed-here lasts at x =
    elim (cases_Bool (nat_lt at (length lasts))) [
      | inl t ↦ inl (ap (λ (b : Bool). get_or (cond b (set lasts at x) lasts) at None) t ∙ get_or-set_same lasts at x None (ltb-true at (length lasts) t))
      | inr f ↦ inr (ap (λ (b : Bool). get_or (cond b (set lasts at x) lasts) at None) f ∙ get_or_past lasts at None (ltb-false at (length lasts) f))
    ]

nothing-known : (last : LastRead) (x : Option LastRead) → x ≡ None → x ≡ Some last → ⊥
nothing-known last x none some = let e : None ≡ Some last = sym none ∙ some in cc

-- one more is known
pub known-more : (decls : Declared) (w : World) (lasts : List (Option LastRead)) (v : View) (list : List Value) → AreKnown decls w lasts
    → list ≡ view_values decls (w (home_of decls v.array)) v → AreKnown decls w (placed lasts v.array (Some (record { view = v; list = list })))
known-more decls w lasts v list known read array last below strings at =
    let new : LastRead = record { view = v; list = list } in
    elim (eqb_tells array v.array) [
      | inl t ↦
          let moved = ap (λ (k : ℕ). get_or (placed lasts v.array (Some new)) k None) (sym t.1) ∙ at in
          elim (placed-here lasts v.array (Some new)) [
            | inl here ↦
                let same : new ≡ last = some-same new last (sym here ∙ moved) in
                let right : new ≡ read_in decls w v.array new = ap (λ (xs : List Value). record { view = v; list = xs }) read in
                subst (λ (l : LastRead). l ≡ read_in decls w array l) same (right ∙ ap (λ (k : ℕ). read_in decls w k new) (sym t.1))
            | inr away ↦ absurd (nothing-known last (get_or (placed lasts v.array (Some new)) v.array None) away moved)
          ]
      | inr f ↦ known array last below strings (sym (placed-other lasts v.array array (Some new) f.1) ∙ at)
    ]

abbrev nothing : Option LastRead
nothing = None

none-known : (n array : ℕ) → get_or (replicate n nothing) array nothing ≡ nothing
none-known zero array = refl
none-known (suc n) zero = refl
none-known (suc n) (suc array) = none-known n array

-- nothing is known at first
pub known-none : (decls : Declared) (w : World) (n : ℕ) (lasts : List (Option LastRead)) → lasts ≡ replicate n None → AreKnown decls w lasts
known-none decls w n lasts is array last below strings at =
    let at_first : get_or lasts array None ≡ None = ap (λ (ls : List (Option LastRead)). get_or ls array None) is ∙ none-known n array in
    let other : nothing ≡ Some last = sym at_first ∙ at in
    cc

-- what is known stays so where the arrays have the same items, but for the output, of which nothing is known any more
pub known-kept : (decls : Declared) (w w' : World) (lasts : List (Option LastRead)) (out : Option View) → AreKnown decls w lasts
    → ((array : ℕ) → array < length decls.arrays → is_strings_array decls array ≡ true → is_output array out ≡ false → values_at decls w' array ≡ values_at decls w array) → AreKnown decls w' (unknown_output out lasts)
known-kept decls w w' lasts out known same array last below strings at = go out same at
  where
    kept : (values_at decls w' array ≡ values_at decls w array) → get_or lasts array None ≡ Some last → last ≡ read_in decls w' array last
    kept alike before =
        known array last below strings before
        ∙ ap (λ (xs : List Value). record { view = (read_in decls w array last).view; list = read_at Missing xs (places_of last.view) }) (sym alike)

    go : (out : Option View) → ((array : ℕ) → array < length decls.arrays → is_strings_array decls array ≡ true → is_output array out ≡ false → values_at decls w' array ≡ values_at decls w array) → get_or (unknown_output out lasts) array None ≡ Some last → last ≡ read_in decls w' array last
    go None same at = kept (same array below strings refl) at
    go (Some v) same at =
        elim (eqb_tells v.array array) [
          | inl t ↦
              let moved = ap (λ (k : ℕ). get_or (placed lasts v.array None) k None) t.1 ∙ at in
              absurd (elim (placed-here lasts v.array None) [
                | inl away ↦ nothing-known last (get_or (placed lasts v.array None) v.array None) away moved
                | inr away ↦ nothing-known last (get_or (placed lasts v.array None) v.array None) away moved
              ])
          | inr f ↦ kept (same array below strings f.0) (sym (placed-other lasts v.array array None (λ e. f.1 (sym e))) ∙ at)
        ]
