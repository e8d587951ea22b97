use Rattle.std.proofs.Common.{◌+◌, List, sym, ap, ◌∙◌, subst, arith}
use Rattle.std.specs.List.{sum_by}
use Rattle.sa_call.specs.declared.call.Operand.{Operand}
use Rattle.sa_call.specs.Kinds.{lists_fit}
use Rattle.sa_call.specs.Parts.{literal_weight}
use Rattle.sa_loop.specs.Held.{AreHeld, AreShort}
use Rattle.sa_loop.specs.Runs.{world_of}
use Rattle.sa_loop.specs.Takes.{views_taken}
use Rattle.sa_loop.proofs.TakeLemmas.{are-held, are-short, given-same, taken-heavy, taken-light}
use Rattle.sa_loop.proofs.taking.take_items.Goals as goal

pub literals_weight-requires : goal.literals_weight-requires
literals_weight-requires g c = subst AreShort (sym c.as_slice-operands.ensures) (are-short c.args.decls.now c.args.call.now c.requires.items c.requires.can.valid)

pub views-requires : goal.views-requires
views-requires g c =
    let d = c.args.decls.now in
    let has = g.R.Rooms.has c.args.rooms.now in
    let holds = g.R.Rooms.holds c.args.rooms.now in
    record { held = subst (λ (os : List Operand). AreHeld d has holds os) (sym c.as_slice-operands.ensures) (are-held d has holds c.args.call.now c.requires.can); known = c.requires.known }

pub returns-then-weight-gt-MOST_WEIGHT-clause-taken : goal.returns-then-weight-gt-MOST_WEIGHT-clause-taken
returns-then-weight-gt-MOST_WEIGHT-clause-taken g c =
    let call = c.args.call.now in
    let same = given-same call.op c.requires.items in
    let literals = c.literals_weight.ensures.weight ∙ ap (sum_by literal_weight) c.as_slice-operands.ensures in
    let read = c.in_ok-weights.ensures.sum in
    taken-heavy c.args.decls.now (g.R.Rooms.holds c.args.rooms.now) call c.in_ok-weights.weights (c.in_ok-weights.read_weight + c.literals_weight.result)
    (λ statistics. cc (same, statistics)) c.in_ok-weights.ensures.weights (omega arith) (omega arith)

pub returns-clause-taken : goal.returns-clause-taken
returns-clause-taken g c =
    let call = c.args.call.now in
    let same = given-same call.op c.requires.items in
    let literals = c.literals_weight.ensures.weight ∙ ap (sum_by literal_weight) c.as_slice-operands.ensures in
    let read = c.in_ok-weights.ensures.sum in
    let d = c.args.decls.now in
    let holds = g.R.Rooms.holds c.args.rooms.now in
    let lists = c.in_ok-lists.ensures.lists ∙ ap (λ (os : List Operand). views_taken d (world_of holds) os) c.as_slice-operands.ensures in
    let fit = ap (λ (os : List Operand). lists_fit d os c.in_ok-lists.lists) (sym c.as_slice-operands.ensures) ∙ c.in_ok-lists.ensures.fit in
    taken-light d holds call c.in_ok-weights.weights (c.in_ok-weights.read_weight + c.literals_weight.result) c.in_ok-lists.lists c.new.result
    same c.in_ok-weights.ensures.weights (omega arith) (omega arith) lists fit
