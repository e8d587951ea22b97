-- One more operand: a view or a literal.
use Rattle.std.proofs.Common.{◌≡◌, ◌∷◌, [], ◌++◌, length, drop, List, Option, map, refl, true, sym, ap, ◌∙◌, subst, arith}
use Rattle.std.proofs.lemmas.List.{append-nil, drop_all, map-append}
use Rattle.sa_base.specs.Items.{Item}
use Rattle.sa_plain.specs.Items.{items_of}
use Rattle.sa_plain.specs.declared.items.Items.{Items}
use Rattle.sa_call.specs.declared.call.Operand.{Operand}
use Rattle.sa_call.specs.Kinds.{lists_fit}
use Rattle.sa_loop.specs.declared.last_read.LastRead.{LastRead}
use Rattle.sa_loop.specs.LastReads.{AreKnown}
use Rattle.sa_loop.specs.Runs.{world_of}
use Rattle.sa_loop.specs.Takes.{views_taken}
use Rattle.sa_loop.proofs.WeighLemmas.{fit-literal, fit-view, views-next}
use Rattle.sa_loop.proofs.taking.views.Goals as goal
use Rattle.sa_loop.proofs.taking.views.Goals.{in-View+in_ok-view_list-in-View+in_ok-push-in-View, in-Literal}

pub loop-operand-preserved : goal.loop-operand-preserved
loop-operand-preserved g c =
    let d = c.args.decls.now in
    let holds = g.R.Rooms.holds c.args.rooms.now in
    let os = c.args.operands.now in
    let l = c.loop-operand in
    let k = l.operand-index in
    let o = c.operand-item.result in
    let now = c.match-operand.lists in
    let with = λ (p : Operand). map items_of l.lists ++ views_taken d (world_of holds) (p ∷ []) in
    elim c.match-operand.branch [
      | in-View+in_ok-view_list-in-View+in_ok-push-in-View w ↦
          let x : Items = w.in_ok-view_list-in-View.field-0 in
          let pushed : now ≡ l.lists ++ x ∷ [] = w.lists-is ∙ w.in_ok-push-in-View.ensures.ok in
          let more = ap (map items_of) pushed ∙ (map-append items_of l.lists (x ∷ []) ∙ (ap (λ is. map items_of l.lists ++ is ∷ []) w.in_ok-view_list-in-View.ensures.list ∙ ap with (sym w.in-View.is))) in
          record {
            all = views-next d (world_of holds) os k o (map items_of l.lists) (map items_of now) c.operand-item.is c.loop-operand-test.true l.invariant.all more;
            fit = fit-view d os k o w.in-View.view x l.lists now c.operand-item.is c.loop-operand-test.true w.in-View.is w.in_ok-view_list-in-View.ensures.fits l.invariant.fit pushed;
            known = subst (λ (ls : List (Option LastRead)). AreKnown d (world_of holds) ls) (ap (λ ls. ls.items) (sym w.lasts-is)) w.view_list.ensures.known;
          }
      | in-Literal w ↦
          let more = ap (map items_of) w.lists-is ∙ (sym (append-nil (map items_of l.lists)) ∙ ap with (sym w.in-Literal.is)) in
          record {
            all = views-next d (world_of holds) os k o (map items_of l.lists) (map items_of now) c.operand-item.is c.loop-operand-test.true l.invariant.all more;
            fit = fit-literal d os k o w.in-Literal.field-0 l.lists now c.operand-item.is c.loop-operand-test.true w.in-Literal.is l.invariant.fit w.lists-is;
            known = subst (λ (ls : List (Option LastRead)). AreKnown d (world_of holds) ls) (ap (λ ls. ls.items) (sym w.lasts-is)) l.invariant.known;
          }
    ]

pub returns-clause-fit : goal.returns-clause-fit
returns-clause-fit g c =
    let d = c.args.decls.now in
    let os = c.args.operands.now in
    let l = c.loop-operand in
    let none : drop l.operand-index os ≡ [] = drop_all l.operand-index os (omega arith) in
    ap (lists_fit d os) (sym (append-nil l.lists)) ∙ l.invariant.fit [] (ap (λ (ps : List Operand). lists_fit d ps []) none)
