use Rattle.std.proofs.Common.{◌≡◌, ◌++◌, drop, map}
use Rattle.sa_plain.specs.Items.{items_of}
use Rattle.sa_loop.specs.LastReads.{AreKnown}
use Rattle.sa_loop.specs.Runs.{world_of}
use Rattle.sa_loop.specs.Takes.{views_taken}
use Rattle.sa_loop.proofs.WeighLemmas.{FitSoFar}
use Rattle.sa_loop.proofs.taking.views.Given as goal

-- the lists so far and those of what is left are all, and each fits its view's array
abbrev pub invariant-loop-operand : goal.invariant-loop-operand
invariant-loop-operand g l = record {
  all : map items_of l.lists ++ views_taken l.decls (world_of (g.R.Rooms.holds l.rooms)) (drop l.operand-index l.operands) ≡ views_taken l.decls (world_of (g.R.Rooms.holds l.rooms)) l.operands;
  fit : FitSoFar l.decls l.operands l.operand-index l.lists;
  known : AreKnown l.decls (world_of (g.R.Rooms.holds l.rooms)) l.lasts.items;
}
