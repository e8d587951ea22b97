-- What contracts see of the two ends of a tie, and of the seats below them. Source: this project.
use Rattle.std.specs.Prelude.{◌≡◌, ℕ, false, List}
use Rattle.atomic_table.specs.Seated.{TableId}
use Rattle.atomic_table.specs.declared.shared.Seat.{Seat}
use Rattle.sa_tie.specs.declared.view.View.{View}
use Rattle.sa_tie.specs.declared.view.Part.TheVariants.{Near, Far}

-- an end: which tie it is of, and its keys
pub record End : Type 0 where
  pub tie : TableId
  pub keys : List ℕ

module _ {S : Type 0} where
  -- the end that stands on a seat: the seat's table is its tie
  abbrev pub end_of : Seat S View → End
  end_of seat = record { tie = seat.table_id; keys = seat.me.0.keys }

  -- the seat is one of the table with this name, which has two words
  abbrev pub IsSeatOf : TableId → Seat S View → Type 0
  IsSeatOf table seat = (seat.table_id ≡ table) × (table.words ≡ 2)

  -- a seat of the table on which a closed near end stands
  abbrev pub IsNear : TableId → Seat S View → Type 0
  IsNear table seat = IsSeatOf table seat × (seat.me.0.part ≡ Near) × (seat.me.0.is_open ≡ false)

  -- a seat of the table on which a far end stands
  abbrev pub IsFar : TableId → Seat S View → Type 0
  IsFar table seat = IsSeatOf table seat × (seat.me.0.part ≡ Far)

  -- the seat is of the same table as before, and has this view
  abbrev pub Turns : Seat S View → Seat S View → View → Type 0
  Turns before after view = (after.table_id ≡ before.table_id) × (after.me.0 ≡ view)
