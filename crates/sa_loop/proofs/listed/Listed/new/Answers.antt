use Rattle.std.proofs.Common.{length, map, List, sym, ap, ◌∙◌}
use Rattle.std.specs.List.{range_with_len}
use Rattle.sa_loop.specs.declared.act.Act.{Act}
use Rattle.sa_loop.specs.Plays.{play_world}
use Rattle.sa_loop.specs.Runs.{holds_in, world_of}
use Rattle.sa_loop.proofs.LastLemmas.{known-none}
use Rattle.sa_loop.proofs.RunLemmas.{opening-shaped, opening-left}
use Rattle.sa_loop.proofs.listed.Listed.new.Goals as goal

pub invariant_of-result-clause-shaped : goal.invariant_of-result-clause-shaped
invariant_of-result-clause-shaped c = opening-shaped c.args.decls.now c.in_ok-rooms.rooms.items (range_with_len 0 (length c.args.decls.now.descrs)) c.in_ok-rooms.ensures

pub invariant_of-result-clause-left : goal.invariant_of-result-clause-left
invariant_of-result-clause-left c =
    opening-left c.args.decls.now c.in_ok-rooms.rooms.items (range_with_len 0 (length c.args.decls.now.descrs)) c.in_ok-rooms.ensures
    ∙ ap (λ (acts : List Act). map (play_world c.args.decls.now (map (λ (a : Act). a.body.now) acts)) (range_with_len 0 (length c.args.decls.now.descrs))) (sym c.new.ensures.items)

pub invariant_of-result-clause-known : goal.invariant_of-result-clause-known
invariant_of-result-clause-known c = known-none c.args.decls.now (world_of (holds_in c.in_ok-rooms.rooms.items)) (length c.arrays-2.result.now) c.in_ok-unread.field-0.items c.in_ok-unread.ensures
