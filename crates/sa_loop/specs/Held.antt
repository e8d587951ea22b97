-- What is asked of the stores that a call reads and writes, and what was read of them.
use Rattle.std.specs.Prelude.{◌≡◌, ℕ, ◌<◌, ◌≤◌, Bool, true, false, List, [], ◌∷◌, length, sum}
use Rattle.std.specs.List.{AllByRecursion}
use Rattle.sa_alloc.specs.Layouts.{Layout, stats_of, entry_images, arena_image}
use Rattle.sa_plain.specs.Plains.{PlainValue}
use Rattle.sa_view.specs.Views.{fits}
use Rattle.sa_view.specs.declared.view.View.{View}
use Rattle.sa_plain.specs.Items.{count_of}
use Rattle.sa_call.specs.declared.call.Operand.{Operand}
use Rattle.sa_call.specs.declared.call.Operand.TheVariants as operand
use Rattle.sa_call.specs.declared.call.Call.{Call}
use Rattle.sa_call.specs.declared.form.Gives.{Gives}
use Rattle.sa_call.specs.declared.form.Gives.TheVariants as gives
use Rattle.sa_call.specs.declared.operands.Operands.{Operands}
use Rattle.sa_call.specs.declared.operands.Operands.TheVariants as operands
use Rattle.sa_call.specs.declared.reply.Reply.{Reply}
use Rattle.sa_call.specs.Decls.{Declared, IsDeclared, home_of, is_strings_array, length_at}
use Rattle.sa_call.specs.Limits.{most_items, most_weight}
use Rattle.sa_base.specs.Deeds.{picture_weight}
use Rattle.sa_call.specs.Told.{is_named, parts_told, AreLight, AreOperands, AreWeights}
use Rattle.sa_call.specs.Valid.{IsCall}
use Rattle.sa_loop.specs.Plays.{play_replies, play_world}
use Rattle.sa_hall.specs.Contents.{Contents}
use Rattle.sa_loop.specs.Runs.{plain_shapes, shown, world_of}
use Rattle.sa_loop.specs.States.{lengths_of, plains_of}
use Rattle.sa_loop.specs.Takes.{parts_of}

-- contents have the arrays of a descriptor
pub record HasShape (decls : Declared) (d : ℕ) (c : Contents) : Type 0 where
  pub lengths : c.layout.lengths ≡ lengths_of decls d
  pub states : length c.layout.states ≡ sum c.layout.lengths
  pub plains : plain_shapes c.plains ≡ plains_of decls d

-- the call is valid, and each descriptor that it is on is held with its arrays
pub record CanTake (decls : Declared) (held : ℕ → Bool) (holds : ℕ → Contents) (call : Call) : Type 0 where
  pub declared : IsDeclared decls
  pub valid : IsCall decls call
  pub homes : (d : ℕ) → is_named decls call d ≡ true → held d ≡ true
  pub shapes : (d : ℕ) → is_named decls call d ≡ true → HasShape decls d (holds d)

-- the view fits a declared array, and these are the contents of its home
pub record IsViewIn (decls : Declared) (v : View) (c : Contents) : Type 0 where
  pub declared : IsDeclared decls
  pub array : v.array < length decls.arrays
  pub view : fits (length_at decls.arrays v.array) v ≡ true
  pub shape : HasShape decls (home_of decls v.array) c

-- the view fits a declared strings array, and this is the layout of its home's strings arrays
pub record IsStringsIn (decls : Declared) (v : View) (l : Layout) : Type 0 where
  pub declared : IsDeclared decls
  pub array : v.array < length decls.arrays
  pub strings : is_strings_array decls v.array ≡ true
  pub view : fits (length_at decls.arrays v.array) v ≡ true
  pub lengths : l.lengths ≡ lengths_of decls (home_of decls v.array)
  pub states : length l.states ≡ sum l.lengths

-- the view fits a declared plain array, and these are the plain arrays of its home
pub record IsPlainIn (decls : Declared) (v : View) (plains : List PlainValue) : Type 0 where
  pub declared : IsDeclared decls
  pub array : v.array < length decls.arrays
  pub plain : is_strings_array decls v.array ≡ false
  pub view : fits (length_at decls.arrays v.array) v ≡ true
  pub shapes : plain_shapes plains ≡ plains_of decls (home_of decls v.array)

-- the home of the view is held, and the view is in its contents
pub record IsHeldView (decls : Declared) (held : ℕ → Bool) (holds : ℕ → Contents) (v : View) : Type 0 where
  pub home : held (home_of decls v.array) ≡ true
  pub inside : IsViewIn decls v (holds (home_of decls v.array))

abbrev pub IsHeldOperand : Declared → (ℕ → Bool) → (ℕ → Contents) → Operand → Type 0
IsHeldOperand decls held holds (operand.View v) = IsHeldView decls held holds v
IsHeldOperand decls held holds (operand.Literal items) = Unit {0}

abbrev pub AreHeld : Declared → (ℕ → Bool) → (ℕ → Contents) → List Operand → Type 0
AreHeld decls held holds operands = AllByRecursion (IsHeldOperand decls held holds) operands

-- few operands, of which the literals are no longer than a list may be
abbrev pub IsShort : Operand → Type 0
IsShort (operand.View v) = Unit {0}
IsShort (operand.Literal items) = count_of items ≤ most_items

pub record AreShort (operands : List Operand) : Type 0 where
  pub few : length operands ≤ 8
  pub short : AllByRecursion IsShort operands

-- what was read for a call is what it takes of the world that the contents show
pub record IsTaken (decls : Declared) (holds : ℕ → Contents) (call : Call) (read : Operands) (weights : List ℕ) : Type 0 where
  pub are_operands : AreOperands decls call read
  pub are_weights : AreWeights decls call read weights
  pub are_light : AreLight decls call read weights
  pub parts : parts_told decls call read weights ≡ parts_of decls (world_of holds) call

-- what was read of a whole descriptor: its statistics, its picture, or the weight of a picture that weighs too much
abbrev pub IsTakenWhole : Gives → Layout → Operands → List ℕ → Type 0
IsTakenWhole given l (operands.Items lists) weights = ⊥
IsTakenWhole given l (operands.Stats stats) weights = (given ≡ gives.Statistics) × (stats ≡ stats_of l)
IsTakenWhole given l (operands.Picture p) weights = (given ≡ gives.Picture) × (p.entries ≡ entry_images l) × (p.arena ≡ arena_image l) × (picture_weight (entry_images l) (arena_image l) ≤ most_weight)
IsTakenWhole given l (operands.Big weight) weights = (given ≡ gives.Picture) × (weight ≡ picture_weight (entry_images l) (arena_image l)) × (weights ≡ weight ∷ []) × (most_weight < weight)

-- the replies to calls, and the contents that they leave, are those of the play from the opening world
pub record IsPlay (decls : Declared) (holds : ℕ → Contents) (calls : List Call) (replies : List Reply) : Type 0 where
  pub answers : replies ≡ play_replies decls calls
  pub states : (d : ℕ) → d < length decls.descrs → shown (holds d) ≡ play_world decls calls d
