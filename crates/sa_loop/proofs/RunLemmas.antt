-- A run, call by call: what its rooms and its acts are.
use Rattle.std.proofs.Common.{◌≡◌, ℕ, true, inl, inr, List, [], ◌∷◌, ◌++◌, length, map, sum, Option, Some, None, refl, sym, ap, ◌∙◌, subst}
use Rattle.std.specs.List.{AllByRecursion}
use Rattle.std.proofs.lemmas.Bool.Decides.{eqb_tells}
use Rattle.std.proofs.lemmas.Simd.{map-map}
use Rattle.sa_base.specs.Deeds.{Write, writes_at}
use Rattle.sa_alloc.specs.Layouts.{IsSound}
use Rattle.sa_view.specs.declared.view.View.{View}
use Rattle.sa_plain.specs.declared.items.Items.{Items}
use Rattle.sa_plain.specs.declared.kind.PlainKind.{PlainKind}
use Rattle.sa_hall.specs.Contents.{Contents, after_writes}
use Rattle.sa_loop.specs.declared.room.Room.{Room}
use Rattle.sa_loop.specs.Held.{HasShape}
use Rattle.sa_call.specs.declared.call.Call.{Call}
use Rattle.sa_call.specs.Decls.{Declared, home_of}
use Rattle.sa_call.specs.Valid.{is_output_of}
use Rattle.sa_loop.specs.Performs.{IsSoundAt}
use Rattle.sa_loop.specs.Plays.{outcomes_from, world_left}
use Rattle.sa_loop.specs.Runs.{IsContents, arrays_in, arrays_of, opening_holds, room_holds, shown}
use Rattle.sa_loop.specs.States.{World, opening}
use Rattle.sa_loop.specs.Takes.{outcome_in}
use Rattle.sa_loop.specs.Writes.{world_after, writes_told, written}
use Rattle.sa_loop.proofs.StepLemmas.{IsWithin, steps}
use Rattle.sa_loop.proofs.WorldLemmas.{opening-contents, opening-shown, writes-within}

-- contents of a descriptor have its arrays, said by one equation or by three

pub shape-of : (decls : Declared) (d : ℕ) (c : Contents) → IsContents decls d c → HasShape decls d c
shape-of decls d c is = record { lengths = is.lengths; states = is.states; plains = is.plains }

pub arrays-are : (decls : Declared) (d : ℕ) (c : Contents) → HasShape decls d c → arrays_in c ≡ arrays_of decls d
arrays-are decls d c is =
    let states = is.states ∙ ap sum is.lengths in
    λ i. (is.lengths i, states i, is.plains i)

pub shape-is : (decls : Declared) (d : ℕ) (c : Contents) → arrays_in c ≡ arrays_of decls d → HasShape decls d c
shape-is decls d c is = record {
  lengths = ap (λ (a : List ℕ × ℕ × List (PlainKind × ℕ)). a.0) is;
  states = ap (λ (a : List ℕ × ℕ × List (PlainKind × ℕ)). a.1) is ∙ ap sum (sym (ap (λ (a : List ℕ × ℕ × List (PlainKind × ℕ)). a.0) is));
  plains = ap (λ (a : List ℕ × ℕ × List (PlainKind × ℕ)). a.2) is;
}

map-each : {A B : Type 0} (f g : A → B) (xs : List A) → ((x : A) → f x ≡ g x) → map f xs ≡ map g xs
map-each f g [] same = refl
map-each f g (x ∷ xs) same = let head = same x in let rest = map-each f g xs same in cc

-- the rooms before the first call have the arrays
pub opening-shaped : (decls : Declared) (rooms : List Room) (ds : List ℕ) → map room_holds rooms ≡ map (opening_holds decls) ds → map (λ (r : Room). arrays_in (room_holds r)) rooms ≡ map (arrays_of decls) ds
opening-shaped decls rooms ds is =
    sym (map-map arrays_in room_holds rooms) ∙ (ap (map arrays_in) is ∙ (map-map arrays_in (opening_holds decls) ds
    ∙ map-each (λ d. arrays_in (opening_holds decls d)) (arrays_of decls) ds (λ d. arrays-are decls d (opening_holds decls d) (shape-of decls d (opening_holds decls d) (opening-contents decls d)))))

-- and they show the opening world
pub opening-left : (decls : Declared) (rooms : List Room) (ds : List ℕ) → map room_holds rooms ≡ map (opening_holds decls) ds → map (λ (r : Room). shown (room_holds r)) rooms ≡ map (opening decls) ds
opening-left decls rooms ds is =
    sym (map-map shown room_holds rooms) ∙ (ap (map shown) is ∙ (map-map shown (opening_holds decls) ds
    ∙ map-each (λ d. shown (opening_holds decls d)) (opening decls) ds (λ d. sym (opening-shown decls d).items)))

-- one call more
pub world-more : (decls : Declared) (w : World) (cs : List Call) (c : Call) → world_left decls w (cs ++ c ∷ []) ≡ world_after decls (world_left decls w cs) c
world-more decls w [] c = refl
world-more decls w (b ∷ cs) c = world-more decls (world_after decls w b) cs c

pub outcomes-more : (decls : Declared) (w : World) (cs : List Call) (c : Call) → outcomes_from decls w (cs ++ c ∷ []) ≡ outcomes_from decls w cs ++ outcome_in decls (world_left decls w cs) c ∷ []
outcomes-more decls w [] c = refl
outcomes-more decls w (b ∷ cs) c = ap (λ os. outcome_in decls w b ∷ os) (outcomes-more decls (world_after decls w b) cs c)

-- what a descriptor holds after a call's writes has the same arrays and shows the state after them
pub record IsAfter (decls : Declared) (d : ℕ) (c after : Contents) (ws : List Write) : Type 0 where
  pub shape : HasShape decls d after
  pub shows : shown after ≡ written (shown c) ws

pub after-writes : (decls : Declared) (holds : ℕ → Contents) (out : Option View) (results : Option Items) (d : ℕ) → is_output_of decls out ≡ true → IsSoundAt decls holds out results → HasShape decls d (holds d)
    → IsAfter decls d (holds d) (after_writes (holds d) (writes_at (writes_told decls out results) d)) (writes_at (writes_told decls out results) d)
after-writes decls holds None results d valid sound shape = record { shape = shape; shows = refl }
after-writes decls holds (Some v) None d valid sound shape = record { shape = shape; shows = refl }
after-writes decls holds (Some v) (Some items) d valid sound shape =
    let ws = writes_at (writes_told decls (Some v) (Some items)) d in
    let within = writes-within decls (Some v) (Some items) d valid in
    elim (eqb_tells (home_of decls v.array) d) [
      | inl here ↦
          let at_d = subst (λ (n : ℕ). IsSound (holds n).layout) here.1 sound in
          let is : IsContents decls d (holds d) = record { sound = at_d; lengths = shape.lengths; states = shape.states; plains = shape.plains } in
          let step = steps decls d (holds d) ws is (subst (λ ns. AllByRecursion (IsWithin ns) ws) (sym shape.lengths) within) in
          record { shape = shape-of decls d (after_writes (holds d) ws) step.contents; shows = step.shows }
      | inr apart ↦
          let none : ws ≡ [] = rw apart.0 refl in
          subst (λ us. IsAfter decls d (holds d) (after_writes (holds d) us) us) (sym none) (record { shape = shape; shows = refl })
    ]
