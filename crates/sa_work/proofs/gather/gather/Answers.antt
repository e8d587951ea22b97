-- What was gathered is one history.
use Rattle.std.proofs.Common.{◌≡◌, ◌<◌, ◌≤◌, ℕ, List, length, map, nat_lt, sym, ap, ◌∙◌, subst, arith}
use Rattle.std.specs.List.{AllByRecursion, range_with_len}
use Rattle.sa_tie.specs.Seated.{TableId}
use Rattle.sa_call.specs.Decls.{Declared}
use Rattle.sa_journal.specs.Journals.{IsOf, Settled}
use Rattle.sa_journal.specs.Shapes.{Shape}
use Rattle.sa_journal.specs.Table.{Shelves}
use Rattle.sa_hall.specs.Halls.{AreQuiet}
use Rattle.sa_hall.specs.Holds.{contents_at}
use Rattle.sa_hall.specs.Passes.{PassValue}
use Rattle.sa_loop.specs.declared.act.Act.{Act}
use Rattle.sa_loop.specs.OneHistory.{AreEnded}
use Rattle.sa_loop.specs.Orders.{line_call, line_reply}
use Rattle.sa_loop.specs.Plays.{play_replies, play_world}
use Rattle.sa_loop.specs.Runs.{shown}
use Rattle.sa_loop.specs.States.{lengths_of}
use Rattle.sa_loop.proofs.HistoryLemmas.{one-history}
use Rattle.sa_loop.proofs.OpenLemmas.{many-shapes}
use Rattle.sa_work.specs.Crews.{AreDone}
use Rattle.sa_work.specs.Threads.{flags_of, holds_of}
use Rattle.sa_work.proofs.ThreadLemmas.{listed, one-run, passes-of, quiet-of}
use Rattle.sa_work.proofs.gather.gather.Goals as goal

pub compare-requires-clause-of : goal.compare-requires-clause-of
compare-requires-clause-of g c κs =
    let B = g.B.Binding in
    let bound = c.in_ok-ended.ensures.bound in
    quiet-of B.roll B.ties B.shapes c.args.script.now.decls c.end-quiet.result c.in_ok-ended.ended c.tasks-sound.ensures.sound.declared c.requires.shapes bound.0 bound.1 bound.2 c.end-quiet.ensures

pub compared-requires-after_bounds : goal.compared-requires-after_bounds
compared-requires-after_bounds g c κs =
    let B = g.B.Binding in
    let script = c.args.script.now in
    let e = c.in_ok-ended.ended in
    let bound = c.in_ok-ended.ensures.bound in
    let many = many-shapes script.decls B.shapes c.requires.shapes in
    let tasks = bound.3 ∙ c.requires.tasks in
    let done = subst (λ (x : Shelves × List TableId). AreDone x.0 x.1 script 0 script.tasks (map (λ (p : PassValue Act). p.it) c.args.passes.items)) (λ i. (sym bound.0 i, sym bound.1 i)) c.requires.done in
    subst (λ (x : Settled Act). AllByRecursion (λ (p : PassValue Act). IsOf x.roll x.ties x.descrs p.it.chain × (p.it.task < x.tasks)) c.args.passes.items) (sym c.compare.ensures.same.1)
    (passes-of e.roll e.ties script 0 script.tasks c.args.passes.items e.descrs e.tasks (bound.2 ∙ many) (omega arith) done)

pub invariant_of-result : goal.invariant_of-result
invariant_of-result g c =
    let B = g.B.Binding in
    let script = c.args.script.now in
    let decls = script.decls in
    let declared = c.tasks-sound.ensures.sound.declared in
    let e2 = c.compared.new.ended in
    let its = c.compare.new.self in
    let ps = c.in_ok-passes.passes.items in
    let are = one-run B.roll B.ties B.shapes script c.in_ok-ended.ended c.compare.new.ended e2 c.end-quiet.result its c.args.passes.items ps declared c.requires.shapes (c.in_ok-ended.ensures.bound.3 ∙ c.requires.tasks) c.in_ok-ended.ensures.parties
    c.end-quiet.ensures c.compare.ensures.same.1 c.compared.ensures.ended c.compare.ensures.same.0 c.in_ok-passes.ensures.passes c.compare.ensures.whole c.requires.done c.in_ok-passes.ensures.whole in
    let h = one-history decls script.tasks e2.lines (contents_at its) (flags_of ps) declared are in
    let quiet = subst (AreQuiet B.roll B.ties B.shapes) (sym c.compare.ensures.same.0) c.end-quiet.ensures in
    let many = many-shapes decls B.shapes c.requires.shapes in
    let n = length decls.descrs in
    record {
      there = λ d. quiet.there d ∙ ap (nat_lt d) (many ∙ ap (λ (x : Declared). length x.descrs) (sym c.decls.ensures));
      shaped = subst (λ (x : Declared). map (λ d. (holds_of its d).layout.lengths) (range_with_len 0 (length x.descrs)) ≡ map (lengths_of x) (range_with_len 0 (length x.descrs))) (sym c.decls.ensures)
          (listed (λ d. (holds_of its d).layout.lengths) (lengths_of decls) n (λ d below. ap (λ (s : Shape). s.strings) (are.shapes d below)));
      replied = subst (λ (x : Declared). map line_reply e2.lines ≡ play_replies x (map line_call e2.lines)) (sym c.decls.ensures) h.played.answers;
      left = subst (λ (x : Declared). map (λ d. shown (holds_of its d)) (range_with_len 0 (length x.descrs)) ≡ map (play_world x (map line_call e2.lines)) (range_with_len 0 (length x.descrs))) (sym c.decls.ensures)
          (listed (λ d. shown (holds_of its d)) (play_world decls (map line_call e2.lines)) n h.played.states);
    }

pub returns-clause-history : goal.returns-clause-history
returns-clause-history g c =
    let B = g.B.Binding in
    let script = c.args.script.now in
    let declared = c.tasks-sound.ensures.sound.declared in
    let ps = c.in_ok-passes.passes.items in
    (one-history script.decls script.tasks c.compared.new.ended.lines (contents_at c.compare.new.self) (flags_of ps) declared
    (one-run B.roll B.ties B.shapes script c.in_ok-ended.ended c.compare.new.ended c.compared.new.ended c.end-quiet.result c.compare.new.self c.args.passes.items ps declared c.requires.shapes (c.in_ok-ended.ensures.bound.3 ∙ c.requires.tasks) c.in_ok-ended.ensures.parties
    c.end-quiet.ensures c.compare.ensures.same.1 c.compared.ensures.ended c.compare.ensures.same.0 c.in_ok-passes.ensures.passes c.compare.ensures.whole c.requires.done c.in_ok-passes.ensures.whole)).history

pub returns-clause-bodies : goal.returns-clause-bodies
returns-clause-bodies g c =
    let B = g.B.Binding in
    let script = c.args.script.now in
    let declared = c.tasks-sound.ensures.sound.declared in
    let ps = c.in_ok-passes.passes.items in
    (one-history script.decls script.tasks c.compared.new.ended.lines (contents_at c.compare.new.self) (flags_of ps) declared
    (one-run B.roll B.ties B.shapes script c.in_ok-ended.ended c.compare.new.ended c.compared.new.ended c.end-quiet.result c.compare.new.self c.args.passes.items ps declared c.requires.shapes (c.in_ok-ended.ensures.bound.3 ∙ c.requires.tasks) c.in_ok-ended.ensures.parties
    c.end-quiet.ensures c.compare.ensures.same.1 c.compared.ensures.ended c.compare.ensures.same.0 c.in_ok-passes.ensures.passes c.compare.ensures.whole c.requires.done c.in_ok-passes.ensures.whole)).bodies
