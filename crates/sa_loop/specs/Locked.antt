-- One call under its locks, and what it makes of what is held.
use Rattle.std.specs.Prelude.{◌≡◌, ℕ, true, Option, Some, None}
use Rattle.sa_alloc.specs.Layouts.{IsSound}
use Rattle.sa_view.specs.declared.view.View.{View}
use Rattle.sa_plain.specs.Items.{count_of}
use Rattle.sa_plain.specs.declared.items.Items.{Items}
use Rattle.sa_call.specs.declared.call.Call.{Call}
use Rattle.sa_call.specs.declared.reply.Reply.{Reply}
use Rattle.sa_call.specs.Decls.{Declared, home_of, kind_of}
use Rattle.sa_call.specs.Kinds.{fits_kind}
use Rattle.sa_journal.specs.Chains.{Keyed}
use Rattle.sa_journal.specs.Shapes.{Shape}
use Rattle.sa_hall.specs.Domains.{plains_said}
use Rattle.sa_hall.specs.Holds.{Hold, HeldValue, contents_at, held_at, is_held}
use Rattle.sa_hall.specs.Moves.{all_moved}
use Rattle.sa_hall.specs.Passes.{Passed, pass_with}
use Rattle.sa_loop.specs.declared.act.Act.{Act}
use Rattle.sa_loop.specs.Acts.{act_said}
use Rattle.sa_loop.specs.Held.{IsViewIn}
use Rattle.sa_loop.specs.Runs.{world_of}
use Rattle.sa_loop.specs.States.{World, lengths_of, plains_of}
use Rattle.sa_loop.specs.Takes.{outcome_in}
use Rattle.sa_loop.specs.Writes.{reply_in, world_after}

-- the shape of a descriptor's arrays
abbrev pub shape_in : Declared → ℕ → Shape
shape_in decls d = record { strings = lengths_of decls d; plains = plains_said (plains_of decls d) }

-- the world that held descriptors show; a descriptor that is not held shows no arrays
abbrev pub world_held : Hold Act → World
world_held h = world_of (contents_at h.its)

-- results can be planned: the home of the output is held, the output fits its arrays and has a place for each, and its array may hold them
abbrev pub CanPlan : {D : Type 0} → Declared → Hold D → Option View → Option Items → Type 0
CanPlan decls h None results = Unit {0}
CanPlan decls h (Some out) None = Unit {0}
CanPlan decls h (Some out) (Some results) = (is_held (held_at h.its (home_of decls out.array)) ≡ true) × IsViewIn decls out (contents_at h.its (home_of decls out.array)) × (count_of results ≡ out.count) × (fits_kind (kind_of decls out.array) results ≡ true)

-- the layout of the home into which results are planned is sound
abbrev pub IsSoundHome : {D : Type 0} → Declared → Hold D → Option View → Option Items → Type 0
IsSoundHome decls h None results = Unit {0}
IsSoundHome decls h (Some out) None = Unit {0}
IsSoundHome decls h (Some out) (Some results) = IsSound (contents_at h.its (home_of decls out.array)).layout

-- One call performed: there is one more line, which is this call with what comes of it in what is held; each held descriptor and the pass have it, what is held is the call's effect, and nothing else changed.
pub record IsPerformed (decls : Declared) (call : Call) (number : ℕ) (reply : Reply) (old new : HeldValue Act) : Type 0 where
  pub line : Keyed Act
  pub decls_is : line.1.deed.decls.now ≡ decls
  pub body_is : line.1.deed.body.now ≡ call
  pub task_is : line.1.deed.task ≡ old.pass.it.task
  pub number_is : line.1.deed.number ≡ number
  pub outcome_is : line.1.deed.outcome ≡ outcome_in decls (world_held old.hold) call
  pub reply_is : reply ≡ reply_in decls (world_held old.hold) call
  pub its : new.hold.its ≡ all_moved act_said line 0 old.hold.its
  pub world : (d : ℕ) → world_held new.hold d ≡ world_after decls (world_held old.hold) call d
  pub pass : new.pass.it ≡ pass_with old.pass.it line
  pub numbers : new.numbers ≡ old.numbers

-- a pass has one more line, which is this call, and its reply is this
pub record IsOneLineMore (decls : Declared) (call : Call) (number : ℕ) (reply : Reply) (old new : Passed Act) : Type 0 where
  pub line : Keyed Act
  pub decls_is : line.1.deed.decls.now ≡ decls
  pub body_is : line.1.deed.body.now ≡ call
  pub task_is : line.1.deed.task ≡ old.task
  pub number_is : line.1.deed.number ≡ number
  pub reply_is : reply ≡ line.1.deed.outcome.reply
  pub pass : new ≡ pass_with old line
