-- What the seats of a tie's table know, and what each step makes of it. Source: this project, the rule of ties.
use Rattle.std.specs.Prelude.{ℕ, Bool, true, false, not, List, [], ◌∷◌, ◌++◌}
use Rattle.sa_tie.specs.declared.view.View.{View}
use Rattle.sa_tie.specs.declared.view.Part.{Part}
use Rattle.sa_tie.specs.declared.view.Part.TheVariants.{Both, Near, Far, Note, Receipt, Spent}

-- a view that has taken nothing in
abbrev pub new_view : Part → List ℕ → Bool → View
new_view part keys from_closed = record { part = part; is_open = false; keys = keys; taken = []; from_closed = from_closed }

-- the one seat that a table begins with: both ends before they are two
abbrev pub both_ends : View
both_ends = new_view Both [] false

-- the near end of a new tie, closed and with no key
abbrev pub near_end : View
near_end = new_view Near [] false

-- the far end of a new tie, with no key
abbrev pub far_end : View
far_end = new_view Far [] false

-- a note or a receipt that was taken in
abbrev pub spent : View
spent = new_view Spent [] false

-- the near end after the key was announced: open, and one key longer
abbrev pub announced : View → ℕ → View
announced near key = record near { is_open = true; keys = near.keys ++ key ∷ [] }

-- the far end after the key was linked: one key longer
abbrev pub linked : View → ℕ → View
linked far key = record far { keys = far.keys ++ key ∷ [] }

-- a copy of the near end's keys, which says whether the near end was closed
abbrev pub note : View → View
note near = new_view Note near.keys (not near.is_open)

-- a copy of the far end's keys
abbrev pub receipt : View → View
receipt far = new_view Receipt far.keys false

-- the far end after it took a note in
abbrev pub noted : View → View → View
noted far note = record far { taken = note.keys; from_closed = note.from_closed }

-- the near end after it took a receipt in: closed
abbrev pub receipted : View → View → View
receipted near receipt = record near { is_open = false; taken = receipt.keys }
