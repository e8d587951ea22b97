-- The room of a call's output in a list of rooms.
use Rattle.std.proofs.Common.{◌≡◌, ◌<◌, ℕ, inl, inr, List, [], ◌∷◌, length, map, set, get_or, sym, ap, ◌∙◌, subst}
use Rattle.std.proofs.lemmas.Bool.Decides.{eqb_tells}
use Rattle.std.proofs.lemmas.List.{get_or-map, get_or-set_same, get_or-set_other, map-set, length-map}
use Rattle.std.proofs.Math.Seq.{map-set_same}
use Rattle.sa_base.specs.Deeds.{Write, writes_at}
use Rattle.sa_hall.specs.Contents.{after_writes, no_shape, opening_of}
use Rattle.sa_loop.specs.declared.room.Room.{Room}
use Rattle.sa_loop.specs.Runs.{holds_in, room_holds, room_keeps}

-- a room that was lent by its number holds what is held at that number
pub lent-holds : (rooms : List Room) (home : ℕ) (r : Room) → home < length rooms → r ≡ get_or rooms home r → room_holds r ≡ holds_in rooms home
lent-holds rooms home r below is = ap room_holds is ∙ sym (get_or-map room_holds rooms home r (opening_of no_shape) below)

-- where one room changes by writes, what is held at each number is the old after its own writes
pub put-home : (rooms : List Room) (home d : ℕ) (r : Room) (ws : List Write) → home < length rooms → room_holds r ≡ after_writes (holds_in rooms home) ws → holds_in (set rooms home r) d ≡ after_writes (holds_in rooms d) (writes_at ((home, ws) ∷ []) d)
put-home rooms home d r ws below after =
    let none = opening_of no_shape in
    let changed = map-set room_holds rooms home r in
    let long = length-map rooms room_holds in
    elim (eqb_tells home d) [
      | inl here ↦
          let At : ℕ → Type 0 = λ n. holds_in (set rooms home r) n ≡ after_writes (holds_in rooms n) ws in
          let same : holds_in (set rooms home r) home ≡ room_holds r = ap (λ cs. get_or cs home none) changed ∙ get_or-set_same (map room_holds rooms) home (room_holds r) none (subst (λ (n : ℕ). home < n) (sym long) below) in
          let at_d = subst At here.1 (same ∙ after) in
          rw here.0 at_d
      | inr apart ↦
          let same : holds_in (set rooms home r) d ≡ holds_in rooms d = ap (λ cs. get_or cs d none) changed ∙ get_or-set_other (map room_holds rooms) home d (room_holds r) none (λ e. apart.1 (sym e)) in
          rw apart.0 same
    ]

-- a room that keeps all leaves what all keep
pub kept-all : (rooms : List Room) (home : ℕ) (r t : Room) → t ≡ get_or rooms home t → room_keeps r ≡ room_keeps t → map room_keeps (set rooms home r) ≡ map room_keeps rooms
kept-all rooms home r t is same = map-set_same room_keeps rooms home r t (same ∙ ap room_keeps is)
