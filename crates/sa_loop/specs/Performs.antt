-- What performing a call makes of a run.
use Rattle.std.specs.Prelude.{◌≡◌, ◌<◌, ℕ, true, List, [], ◌∷◌, ◌++◌, Option, Some, None}
use Rattle.sa_alloc.specs.Layouts.{IsSound}
use Rattle.sa_view.specs.declared.view.View.{View}
use Rattle.sa_plain.specs.Items.{count_of}
use Rattle.sa_plain.specs.declared.items.Items.{Items}
use Rattle.sa_call.specs.declared.call.Call.{Call}
use Rattle.sa_call.specs.Decls.{Declared, home_of, kind_of}
use Rattle.sa_call.specs.Kinds.{fits_kind}
use Rattle.sa_hall.specs.Contents.{Contents}
use Rattle.sa_loop.specs.declared.act.Act.{Act}
use Rattle.sa_loop.specs.Held.{IsViewIn}
use Rattle.sa_loop.specs.Runs.{world_of}
use Rattle.sa_loop.specs.Takes.{outcome_in}

-- there is one more act, which is this call with what comes of it where the contents tell the world
pub record IsOneMore (decls : Declared) (holds : ℕ → Contents) (call : Call) (task number : ℕ) (acts acts' : List Act) : Type 0 where
  pub act : Act
  pub more : acts' ≡ acts ++ act ∷ []
  pub task_is : act.task ≡ task
  pub number_is : act.number ≡ number
  pub body_is : act.body.now ≡ call
  pub decls_is : act.decls.now ≡ decls
  pub outcome_is : act.outcome ≡ outcome_in decls (world_of holds) call

-- results can be put: the output fits its home's arrays, and has a place for each, and its array may hold them
abbrev pub CanPut : Declared → (ℕ → Contents) → ℕ → Option View → Option Items → Type 0
CanPut decls holds rooms None results = Unit {0}
CanPut decls holds rooms (Some out) None = Unit {0}
CanPut decls holds rooms (Some out) (Some results) = (home_of decls out.array < rooms) × IsViewIn decls out (holds (home_of decls out.array)) × (count_of results ≡ out.count) × (fits_kind (kind_of decls out.array) results ≡ true)

-- the layout of the home into which results are put is sound
abbrev pub IsSoundAt : Declared → (ℕ → Contents) → Option View → Option Items → Type 0
IsSoundAt decls holds None results = Unit {0}
IsSoundAt decls holds (Some out) None = Unit {0}
IsSoundAt decls holds (Some out) (Some results) = IsSound (holds (home_of decls out.array)).layout
