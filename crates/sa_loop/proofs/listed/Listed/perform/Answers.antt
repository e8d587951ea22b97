use Rattle.std.proofs.Common.{◌≡◌, ◌++◌, ◌∷◌, [], List, length, map, replicate, sym, ap, subst, ◌∙◌}
use Rattle.std.proofs.lemmas.List.{map-append}
use Rattle.sa_call.specs.declared.call.Call.{Call}
use Rattle.sa_call.specs.declared.reply.Outcome.{Outcome}
use Rattle.sa_call.specs.Decides.{decide}
use Rattle.sa_call.specs.Told.{parts_told}
use Rattle.sa_call.specs.Valid.{IsCall}
use Rattle.sa_loop.specs.declared.act.Act.{Act}
use Rattle.sa_loop.specs.declared.listed.Listed.{Listed}
use Rattle.sa_loop.specs.LastReads.{AreKnown}
use Rattle.sa_loop.specs.Plays.{play_replies}
use Rattle.sa_loop.specs.Runs.{holds_in, world_of}
use Rattle.sa_loop.proofs.PerformLemmas.{IsRun, can-take, can-put, next, alike-more, known-next, known-same, replies-more, results-there, run-kept}
use Rattle.sa_loop.proofs.listed.Listed.perform.Goals as goal

abbrev calls_of : List Act → List Call
calls_of acts = map (λ (a : Act). a.body.now) acts

run_of : (l : Listed) → IsRun l.decls.now l.rooms.items (calls_of l.acts.items)
run_of l = record { shaped = l.shaped; left = l.left }

pub take-requires-clause-can : goal.take-requires-clause-can
take-requires-clause-can c = can-take c.args.self.now.decls.now c.args.self.now.rooms.items (calls_of c.args.self.now.acts.items) c.args.call.now (run_of c.args.self.now) c.arrays-declared.ensures.declared (subst (λ d. IsCall d c.args.call.now) c.requires.decls c.requires.call)

pub new-requires-clause-call : goal.new-requires-clause-call
new-requires-clause-call c = subst (λ d. IsCall d c.args.call.now) c.requires.decls c.requires.call

pub evaluated-requires-clause-call : goal.evaluated-requires-clause-call
evaluated-requires-clause-call c = subst (λ d. IsCall d c.args.call.now) c.requires.decls c.requires.call

pub put_outcome-requires : goal.put_outcome-requires
put_outcome-requires c = can-put c.args.self.now.decls.now c.args.self.now.rooms.items (calls_of c.args.self.now.acts.items) c.args.call.now (parts_told c.args.self.now.decls.now c.args.call.now c.in_ok-read.read c.in_ok-read.weights) c.in_ok-outcome.outcome (run_of c.args.self.now) c.arrays-declared.ensures.declared (subst (λ d. IsCall d c.args.call.now) c.requires.decls c.requires.call) (c.in_ok-outcome.ensures.decided c.in_ok-read.weights c.in_ok-read.ensures.taken.are_weights) c.in_ok-outcome.ensures.fits

pub returns-clause-act : goal.returns-clause-act
returns-clause-act c = record {
  act = c.new.result;
  more = c.push_reserved.ensures.items ∙ ap (λ acts. acts ++ c.new.result ∷ []) c.in_ok-reserve.ensures.items;
  task_is = c.new.ensures.1;
  number_is = c.new.ensures.2;
  body_is = c.new.ensures.3;
  decls_is = c.new.ensures.0;
  outcome_is = c.new.ensures.4 ∙ (c.in_ok-outcome.ensures.decided c.in_ok-read.weights c.in_ok-read.ensures.taken.are_weights ∙ ap (decide c.args.self.now.decls.now c.args.call.now) c.in_ok-read.ensures.taken.parts);
}

pub returns-clause-world : goal.returns-clause-world
returns-clause-world c =
    (next c.args.self.now.decls.now c.args.self.now.rooms.items c.put_outcome.new.rooms.items (calls_of c.args.self.now.acts.items) c.args.call.now c.in_ok-outcome.outcome (run_of c.args.self.now)
    (subst (λ d. IsCall d c.args.call.now) c.requires.decls c.requires.call)
    (c.in_ok-outcome.ensures.decided c.in_ok-read.weights c.in_ok-read.ensures.taken.are_weights ∙ ap (decide c.args.self.now.decls.now c.args.call.now) c.in_ok-read.ensures.taken.parts)
    c.in_ok-put_outcome.ensures.sound c.in_ok-put_outcome.ensures.many c.in_ok-put_outcome.ensures.written).shows

pub invariant_of-self-in-Break-branch-4 : goal.invariant_of-self-in-Break-branch-4
invariant_of-self-in-Break-branch-4 c =
    let decls = c.args.self.now.decls.now in
    let acts' = c.reserve.new.self.items in
    let acts = c.args.self.now.acts.items in
    let same : acts' ≡ acts = c.in_ok-reserve.ensures.items in
    let run = run-kept decls c.args.self.now.rooms.items c.put_outcome.new.rooms.items (calls_of acts') c.in_err-put_outcome.ensures.kept (subst (λ all. IsRun decls c.args.self.now.rooms.items (calls_of all)) (sym same) (run_of c.args.self.now)) in
    record {
      alike = subst (λ (all : List Act). map (λ (a : Act). a.decls.now) all ≡ replicate (length all) decls) (sym same) c.args.self.now.alike;
      replied = subst (λ (all : List Act). map (λ (a : Act). a.outcome.reply) all ≡ play_replies decls (calls_of all)) (sym same) c.args.self.now.replied;
      shaped = run.shaped;
      known = known-same decls c.args.self.now.rooms.items c.put_outcome.new.rooms.items c.take.new.lasts.items c.in_err-put_outcome.ensures.kept c.take.ensures.known;
      left = run.left;
    }

pub invariant_of-self-2 : goal.invariant_of-self-2
invariant_of-self-2 c =
    let decls = c.args.self.now.decls.now in
    let rooms = c.args.self.now.rooms.items in
    let call = c.args.call.now in
    let acts = c.args.self.now.acts.items in
    let act = c.new.result in
    let is = next decls rooms c.put_outcome.new.rooms.items (calls_of acts) call c.in_ok-outcome.outcome (run_of c.args.self.now)
    (subst (λ d. IsCall d call) c.requires.decls c.requires.call)
    (c.in_ok-outcome.ensures.decided c.in_ok-read.weights c.in_ok-read.ensures.taken.are_weights ∙ ap (decide decls call) c.in_ok-read.ensures.taken.parts)
    c.in_ok-put_outcome.ensures.sound c.in_ok-put_outcome.ensures.many c.in_ok-put_outcome.ensures.written in
    let more : c.push_reserved.new.self.items ≡ acts ++ act ∷ [] = c.push_reserved.ensures.items ∙ ap (λ all. all ++ act ∷ []) c.in_ok-reserve.ensures.items in
    let called : calls_of c.push_reserved.new.self.items ≡ calls_of acts ++ call ∷ [] = ap calls_of more ∙ (map-append (λ (a : Act). a.body.now) acts (act ∷ []) ∙ ap (λ b. calls_of acts ++ b ∷ []) c.new.ensures.3) in
    let valid = subst (λ d. IsCall d call) c.requires.decls c.requires.call in
    let known = known-next decls rooms c.put_outcome.new.rooms.items (calls_of acts) call c.in_ok-outcome.outcome c.take.new.lasts.items c.arrays-declared.ensures.declared valid is c.take.ensures.known in
    let came = c.in_ok-outcome.ensures.decided c.in_ok-read.weights c.in_ok-read.ensures.taken.are_weights ∙ ap (decide decls call) c.in_ok-read.ensures.taken.parts in
    let there = results-there decls rooms c.put_outcome.new.rooms.items (calls_of acts) call c.in_ok-outcome.outcome (run_of c.args.self.now) c.arrays-declared.ensures.declared valid came c.in_ok-outcome.ensures.fits is in
    let run = subst (λ cs. IsRun decls c.put_outcome.new.rooms.items cs) (sym called) is.run in
    record {
      alike = subst (λ (all : List Act). map (λ (a : Act). a.decls.now) all ≡ replicate (length all) decls) (sym more) (alike-more decls acts act c.args.self.now.alike c.new.ensures.0);
      replied = ap (map (λ (a : Act). a.outcome.reply)) more ∙ (map-append (λ (a : Act). a.outcome.reply) acts (act ∷ []) ∙ (ap (λ (o : Outcome). map (λ (a : Act). a.outcome.reply) acts ++ o.reply ∷ []) c.new.ensures.4 ∙ (replies-more decls (calls_of acts) (map (λ (a : Act). a.outcome.reply) acts) call c.in_ok-outcome.outcome c.args.self.now.replied is.came ∙ ap (play_replies decls) (sym called))));
      shaped = run.shaped;
      known = c.remember_output.ensures decls (world_of (holds_in c.put_outcome.new.rooms.items)) (subst (AreKnown decls (world_of (holds_in c.put_outcome.new.rooms.items))) (sym c.forget_output.ensures) known) there;
      left = run.left;
    }
