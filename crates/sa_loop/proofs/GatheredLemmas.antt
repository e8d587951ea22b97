-- What a run's rooms are, one by one.
use Rattle.std.proofs.Common.{◌≡◌, ℕ, ◌<◌, ltb, true, false, Bool, List, [], length, map, get_or, Option, Some, None, refl, sym, ap, ◌∙◌, arith}
use Rattle.std.specs.List.{range_with_len, slice_get}
use Rattle.std.specs.Option.{option_map}
use Rattle.std.proofs.lemmas.List.FromFn.{length-map-range_with_len}
use Rattle.std.proofs.Math.ListN.{length-map}
use Rattle.std.proofs.lemmas.Bool.{ltb-true, ltb-false}
use Rattle.std.proofs.lemmas.Option.{slice_get-map, slice_get-get_or, slice_get_past}
use Rattle.std.specs.Prelude.{if◌then◌else◌}
use Rattle.sa_alloc.specs.Layouts.{Layout}
use Rattle.sa_plain.specs.Plains.{PlainValue}
use Rattle.sa_call.specs.declared.call.Call.{Call}
use Rattle.sa_call.specs.Decls.{Declared}
use Rattle.sa_hall.specs.Contents.{Contents, no_shape, opening_of}
use Rattle.sa_loop.specs.declared.room.Room.{Room}
use Rattle.sa_loop.specs.Gathers.{plain_in, store_at}
use Rattle.sa_loop.specs.Plays.{play_world}
use Rattle.sa_loop.specs.Runs.{arrays_in, arrays_of, holds_in, room_holds, shown}
use Rattle.sa_loop.specs.States.{lengths_of}
use Rattle.sa_loop.proofs.RunLemmas.{shape-is}
use Rattle.sa_loop.proofs.SameLemmas.{held-at}

-- there are as many rooms as descriptors
pub as-many : {B : Type 0} (f : Room → B) (g : ℕ → B) (rooms : List Room) (n : ℕ) → map f rooms ≡ map g (range_with_len 0 n) → length rooms ≡ n
as-many f g rooms n e = sym (length-map rooms f) ∙ (ap length e ∙ length-map-range_with_len g 0 n)

-- a descriptor's contents show its state in the play
pub left-at : (decls : Declared) (rooms : List Room) (calls : List Call) (n d : ℕ) → map (λ (r : Room). shown (room_holds r)) rooms ≡ map (play_world decls calls) (range_with_len 0 n) → d < n → shown (holds_in rooms d) ≡ play_world decls calls d
left-at decls rooms calls n d e below = held-at shown (play_world decls calls) rooms n d e below

-- an element that is asked for by number
get-by_test : {X : Type 0} (xs : List X) (k : ℕ) (d : X) → slice_get xs k ≡ (if ltb k (length xs) then Some (get_or xs k d) else None)
get-by_test {X} xs k d = go (ltb k (length xs)) refl
  where
    go : (b : Bool) → ltb k (length xs) ≡ b → slice_get xs k ≡ (if b then Some (get_or xs k d) else None)
    go true e = slice_get-get_or xs k d (ltb-true k (length xs) e)
    go false e = slice_get_past xs k (ltb-false k (length xs) e)

-- what is held at a number that is asked for
pub held-by : (rooms : List Room) (n d : ℕ) → length rooms ≡ n → option_map room_holds (slice_get rooms d) ≡ (if ltb d n then Some (holds_in rooms d) else None)
held-by rooms n d e =
    sym (slice_get-map room_holds rooms d)
    ∙ (get-by_test (map room_holds rooms) d (opening_of no_shape)
    ∙ ap (λ m. if ltb d m then Some (holds_in rooms d) else None) (length-map rooms room_holds ∙ e))

-- a room that is asked for, and one that there is not
module _ (decls : Declared) (rooms : List Room) (d : ℕ) (shaped : map (λ (r : Room). arrays_in (room_holds r)) rooms ≡ map (arrays_of decls) (range_with_len 0 (length decls.descrs))) where
  many : length rooms ≡ length decls.descrs
  many = as-many (λ (r : Room). arrays_in (room_holds r)) (arrays_of decls) rooms (length decls.descrs) shaped

  pub record IsFound (r : Room) : Type 0 where
    pub below : ltb d (length decls.descrs) ≡ true
    pub holds : holds_in rooms d ≡ room_holds r

  pub found : (r : Room) → slice_get rooms d ≡ Some r → IsFound r
  found r at = go (ltb d (length decls.descrs)) refl
    where
      go : (b : Bool) → ltb d (length decls.descrs) ≡ b → IsFound r
      go true e =
          let both : Some (room_holds r) ≡ Some (holds_in rooms d) = sym (ap (option_map room_holds) at) ∙ (held-by rooms (length decls.descrs) d many ∙ ap (λ (b : Bool). if b then Some (holds_in rooms d) else None) e) in
          let same : room_holds r ≡ holds_in rooms d = cc in
          record { below = e; holds = sym same }
      go false e =
          let none : Some (room_holds r) ≡ None = sym (ap (option_map room_holds) at) ∙ (held-by rooms (length decls.descrs) d many ∙ ap (λ (b : Bool). if b then Some (holds_in rooms d) else None) e) in
          cc

  pub not-found : slice_get rooms d ≡ None → ltb d (length decls.descrs) ≡ false
  not-found at = go (ltb d (length decls.descrs)) refl
    where
      go : (b : Bool) → ltb d (length decls.descrs) ≡ b → ltb d (length decls.descrs) ≡ false
      go true e =
          let some : None ≡ Some (holds_in rooms d) = sym (ap (option_map room_holds) at) ∙ (held-by rooms (length decls.descrs) d many ∙ ap (λ (b : Bool). if b then Some (holds_in rooms d) else None) e) in
          cc
      go false e = e

  pub store-found : (r : Room) → slice_get rooms d ≡ Some r → Some (room_holds r).layout ≡ store_at (length decls.descrs) (holds_in rooms) d
  store-found r at =
      let is = found r at in
      sym (ap (λ (b : Bool). if b then Some (holds_in rooms d).layout else None) is.below ∙ ap (λ (c : Contents). Some c.layout) is.holds)

  pub store-missing : slice_get rooms d ≡ None → None ≡ store_at (length decls.descrs) (holds_in rooms) d
  store-missing at = sym (ap (λ (b : Bool). if b then Some (holds_in rooms d).layout else None) (not-found at))

  pub plain-found : (r : Room) (k : ℕ) → slice_get rooms d ≡ Some r → slice_get (room_holds r).plains k ≡ plain_in (length decls.descrs) (holds_in rooms) d k
  plain-found r k at =
      let is = found r at in
      sym (ap (λ (b : Bool). if b then slice_get (holds_in rooms d).plains k else None) is.below ∙ ap (λ (c : Contents). slice_get c.plains k) is.holds)

  pub plain-missing : (k : ℕ) → slice_get rooms d ≡ None → None ≡ plain_in (length decls.descrs) (holds_in rooms) d k
  plain-missing k at = sym (ap (λ (b : Bool). if b then slice_get (holds_in rooms d).plains k else None) (not-found at))

  pub lengths-found : (r : Room) → slice_get rooms d ≡ Some r → (room_holds r).layout.lengths ≡ lengths_of decls d
  lengths-found r at =
      let is = found r at in
      ap (λ (c : Contents). c.layout.lengths) (sym is.holds)
      ∙ (shape-is decls d (holds_in rooms d) (held-at arrays_in (arrays_of decls) rooms (length decls.descrs) d shaped (ltb-true d (length decls.descrs) is.below))).lengths
