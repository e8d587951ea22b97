-- One call under its locks: what is held is what it takes, what it says fits that, and what it leaves is its effect.
use Rattle.std.proofs.Common.{◌≡◌, ◌≤◌, ◌<◌, ◌+◌, ℕ, zero, suc, eqb, Bool, true, false, cond, List, [], ◌∷◌, length, map, sum, get_or, Option, Some, None, refl, sym, ap, ◌∙◌, subst, arith}
use Rattle.std.specs.Option.{option_map}
use Rattle.std.proofs.lemmas.Bool.{eq-eqb, false≢true}
use Rattle.sa_tie.specs.Seated.{TableId}
use Rattle.boxcar.specs.Table.{Shelves}
use Rattle.sa_base.specs.Deeds.{Part, Write, writes_at}
use Rattle.sa_view.specs.declared.view.View.{View}
use Rattle.sa_plain.specs.Plains.{PlainValue}
use Rattle.sa_plain.specs.declared.items.Items.{Items}
use Rattle.sa_plain.specs.declared.kind.PlainKind.{PlainKind}
use Rattle.sa_call.specs.declared.call.Call.{Call}
use Rattle.sa_call.specs.declared.operands.Operands.{Operands}
use Rattle.sa_call.specs.declared.reply.Outcome.{Outcome}
use Rattle.sa_call.specs.declared.reply.Reply.{Reply}
use Rattle.sa_call.specs.Decides.{decide}
use Rattle.sa_call.specs.Decls.{Declared, IsDeclared, home_of}
use Rattle.sa_call.specs.Forms.{entry}
use Rattle.sa_call.specs.Kinds.{output_fits}
use Rattle.sa_call.specs.Parts.{Parts}
use Rattle.sa_call.specs.Told.{homes_of, is_named, output_is_at}
use Rattle.sa_call.specs.Valid.{IsCall, is_output_of}
use Rattle.sa_journal.specs.Chains.{Keyed}
use Rattle.sa_journal.specs.Parties.{among}
use Rattle.sa_journal.specs.Said.{Said}
use Rattle.sa_journal.specs.Shapes.{KindSaid, Shape}
use Rattle.sa_hall.specs.Contents.{Contents, after_writes, kind_of, kind_said, no_shape, reread}
use Rattle.sa_hall.specs.Domains.{Kept, plains_said, stepped}
use Rattle.sa_hall.specs.Holds.{Hold, HeldValue, AreTaken, contents_at, contents_in, held_at, is_held, lent_at, lent_of, parts_again}
use Rattle.sa_hall.specs.Moves.{CanWork, Commits, Fits, all_moved, moved}
use Rattle.sa_hall.specs.Passes.{Passed, pass_with}
use Rattle.sa_hall.specs.declared.work.Work.{Work}
use Rattle.sa_hall.specs.declared.change.Change.{Change}
use Rattle.sa_hall.specs.declared.change.Change.TheVariants as change
use Rattle.sa_hall.specs.Changes.{change_at, writes_by}
use Rattle.sa_hall.proofs.WriteLemmas.{kind-again}
use Rattle.sa_loop.specs.declared.act.Act.{Act}
use Rattle.sa_loop.specs.Acts.{act_said, said_by}
use Rattle.sa_loop.specs.Held.{CanTake, HasShape}
use Rattle.sa_loop.specs.Locked.{shape_in, world_held, CanPlan, IsOneLineMore, IsPerformed, IsSoundHome}
use Rattle.sa_loop.specs.Performs.{IsSoundAt}
use Rattle.sa_loop.specs.Runs.{plain_shapes, shown, world_of}
use Rattle.sa_loop.specs.States.{plains_of}
use Rattle.sa_loop.specs.Takes.{is_heavy, outcome_in, part, parts_of}
use Rattle.sa_loop.specs.Writes.{Writes, puts_told, writes_told, written}
use Rattle.sa_loop.proofs.KnownLemmas.{home-any, each-same}
use Rattle.sa_loop.proofs.OrderLemmas.{none-written, output-named}
use Rattle.sa_loop.proofs.PerformLemmas.{named-declared}
use Rattle.sa_loop.proofs.RereadLemmas.{reread-part}
use Rattle.sa_loop.proofs.ResultLemmas.{results-many}
use Rattle.sa_loop.proofs.RunLemmas.{after-writes}
use Rattle.sa_loop.proofs.WorldLemmas.{view-known}

-- what is lent is what is held

pub lent-contents : {D : Type 0} (its : List (Option (Kept D))) (d : ℕ) → lent_at (lent_of its) d ≡ contents_at its d
lent-contents [] d = refl
lent-contents (None ∷ its) zero = refl
lent-contents (Some k ∷ its) zero = refl
lent-contents (o ∷ its) (suc d) = lent-contents its d

pub lent-held : {D : Type 0} (its : List (Option (Kept D))) (d : ℕ) → is_held (held_at (lent_of its) d) ≡ is_held (held_at its d)
lent-held [] d = refl
lent-held (None ∷ its) zero = refl
lent-held (Some k ∷ its) zero = refl
lent-held (o ∷ its) (suc d) = lent-held its d

pub lent-world : {D : Type 0} (its : List (Option (Kept D))) → world_of (λ d. lent_at (lent_of its) d) ≡ world_of (contents_at its)
lent-world its = λ i d. shown (lent-contents its d i)

-- kinds and lengths as a shape says them, and back

abbrev back : KindSaid × ℕ → PlainKind × ℕ
back p = (kind_of p.0, p.1)

abbrev said_of : PlainValue → KindSaid × ℕ
said_of p = (kind_said p.kind, length p.items)

shapes-back : (ps : List PlainValue) → map back (map said_of ps) ≡ plain_shapes ps
shapes-back [] = refl
shapes-back (p ∷ ps) = let rest = shapes-back ps in let same = kind-again p.kind in λ i. (same i, length p.items) ∷ rest i

said-back : (ks : List (PlainKind × ℕ)) → map back (plains_said ks) ≡ ks
said-back [] = refl
said-back (k ∷ ks) = let rest = said-back ks in let same = kind-again k.0 in λ i. (same i, k.1) ∷ rest i

plains-back : (ps : List PlainValue) (ks : List (PlainKind × ℕ)) → map said_of ps ≡ plains_said ks → plain_shapes ps ≡ ks
plains-back ps ks same = sym (shapes-back ps) ∙ ap (map back) same ∙ said-back ks

-- the descriptors of a call are held, with their arrays

module _ {D : Type 0} (roll : Shelves) (ties : List TableId) (shapes : List Shape) (decls : Declared) (call : Call) (numbers : List ℕ) (its : List (Option (Kept D)))
    (declared : IsDeclared decls) (valid : IsCall decls call) (taken : AreTaken roll ties shapes numbers its) (locks : numbers ≡ homes_of decls call) (arrays : (d : ℕ) → get_or shapes d no_shape ≡ shape_in decls d) where
  pub named-held : (d : ℕ) → is_named decls call d ≡ true → is_held (held_at its d) ≡ true
  named-held d named = let below = named-declared decls call d declared valid named in taken.held d ∙ ap (among d) locks ∙ home-any (is_named decls call) d 0 (length decls.descrs) (omega arith) (omega arith) named

  pub shape-held : (d : ℕ) → is_named decls call d ≡ true → HasShape decls d (contents_at its d)
  shape-held d named = go (held_at its d) refl (named-held d named)
    where
      go : (o : Option (Kept D)) → held_at its d ≡ o → is_held o ≡ true → HasShape decls d (contents_in o)
      go None at held = absurd (false≢true held)
      go (Some k) at held =
          let shape = (taken.placed d k at).shape ∙ arrays d in
          record {
            lengths = ap (λ (s : Shape). s.strings) shape;
            states = taken.entries d k at;
            plains = plains-back k.contents.plains (plains_of decls d) (ap (λ (s : Shape). s.plains) shape);
          }

  pub can-take : CanTake decls (λ d. is_held (held_at (lent_of its) d)) (λ d. lent_at (lent_of its) d) call
  can-take = record {
    declared = declared;
    valid = valid;
    homes = λ d named. lent-held its d ∙ named-held d named;
    shapes = λ d named. subst (HasShape decls d) (sym (lent-contents its d)) (shape-held d named);
  }

-- what a call takes of contents with its arrays is the same when it is read again

each-again : (contents : ℕ → Contents) (f : ℕ → Part) (ds : List ℕ) → parts_again contents (map {B = ℕ × Part} (λ d. (d, f d)) ds) ≡ map (λ d. (d, reread (contents d) (f d))) ds
each-again contents f [] = refl
each-again contents f (d ∷ ds) = ap (λ ps. (d, reread (contents d) (f d)) ∷ ps) (each-again contents f ds)

pub parts-read-again : (decls : Declared) (contents : ℕ → Contents) (call : Call) → IsDeclared decls → IsCall decls call → ((d : ℕ) → is_named decls call d ≡ true → HasShape decls d (contents d))
    → parts_again contents (parts_of decls (world_of contents) call) ≡ parts_of decls (world_of contents) call
parts-read-again decls contents call declared valid shapes =
    let heavy = is_heavy decls (world_of contents) call in
    let taken : ℕ → Part = λ d. part decls (world_of contents d) call heavy d in
    each-again contents taken (homes_of decls call)
    ∙ each-same (λ d. (d, reread (contents d) (taken d))) (λ d. (d, taken d)) (is_named decls call) 0 (length decls.descrs)
    (λ d inside named. ap (λ (p : Part). (d, p)) (reread-part (entry call.op).gives decls (contents d) call heavy d declared valid.views (shapes d named)))

-- the act of a call

pub record IsActOf (decls : Declared) (task number : ℕ) (call : Call) (read : Operands) (weights : List ℕ) (outcome : Outcome) (a : Act) : Type 0 where
  pub decls_is : a.decls.now ≡ decls
  pub task_is : a.task ≡ task
  pub number_is : a.number ≡ number
  pub body_is : a.body.now ≡ call
  pub outcome_is : a.outcome ≡ outcome
  pub read_is : a.read ≡ read
  pub weights_is : a.weights ≡ weights
  pub locks_is : a.locks ≡ homes_of decls call

pub act-says : (decls : Declared) (task number : ℕ) (call : Call) (read : Operands) (weights : List ℕ) (outcome : Outcome) (a : Act) → IsActOf decls task number call read weights outcome a
    → act_said a ≡ said_by decls task number (homes_of decls call) call read weights outcome
act-says decls task number call read weights outcome a is =
    ap (λ (d : Declared). said_by d a.task a.number a.locks a.body.now a.read a.weights a.outcome) is.decls_is
    ∙ (ap (λ t. said_by decls t a.number a.locks a.body.now a.read a.weights a.outcome) is.task_is
    ∙ (ap (λ n. said_by decls task n a.locks a.body.now a.read a.weights a.outcome) is.number_is
    ∙ (ap (λ ls. said_by decls task number ls a.body.now a.read a.weights a.outcome) is.locks_is
    ∙ (ap (λ (c : Call). said_by decls task number (homes_of decls call) c a.read a.weights a.outcome) is.body_is
    ∙ (ap (λ (r : Operands). said_by decls task number (homes_of decls call) call r a.weights a.outcome) is.read_is
    ∙ (ap (λ ws. said_by decls task number (homes_of decls call) call read ws a.outcome) is.weights_is
    ∙ ap (said_by decls task number (homes_of decls call) call read weights) is.outcome_is))))))

-- what it says fits what is held
pub fits-said : (decls : Declared) (call : Call) (said : Said) (work : Work) (h : HeldValue Act) → IsDeclared decls → IsCall decls call → ((d : ℕ) → is_named decls call d ≡ true → HasShape decls d (contents_at h.hold.its d))
    → said.locks ≡ homes_of decls call → h.numbers ≡ homes_of decls call → said.parts ≡ parts_of decls (world_held h.hold) call → ((d : ℕ) → writes_at said.writes d ≡ writes_by (change_at work d)) → CanWork h.hold work → Fits said work h
fits-said decls call said work h declared valid shapes locks numbers parts writes can = record {
  locks = locks ∙ sym numbers;
  reads = ap (parts_again (contents_at h.hold.its)) parts ∙ (parts-read-again decls (contents_at h.hold.its) call declared valid shapes ∙ sym parts);
  writes = writes;
  can = can;
}

-- what is held after a line

moved-at : (line : Keyed Act) (its : List (Option (Kept Act))) (k d : ℕ) → held_at (all_moved act_said line k its) d ≡ option_map (λ x. moved act_said line (k + d) x) (held_at its d)
moved-at line [] k d = refl
moved-at line (o ∷ its) k zero = let same : k ≡ k + 0 = omega arith in ap (λ n. option_map (λ x. moved act_said line n x) o) same
moved-at line (o ∷ its) k (suc d) = let same : suc k + d ≡ k + suc d = omega arith in moved-at line its (suc k) d ∙ ap (λ n. option_map (λ x. moved act_said line n x) (held_at its d)) same

abbrev step_in : Keyed Act → ℕ → Option (Kept Act) → Contents
step_in line d None = contents_in {D = Act} None
step_in line d (Some k) = stepped d (act_said line.1.deed) k.contents

moved-in : (line : Keyed Act) (d : ℕ) (o : Option (Kept Act)) → contents_in (option_map (λ x. moved act_said line d x) o) ≡ step_in line d o
moved-in line d None = refl
moved-in line d (Some k) = refl

-- a descriptor that is held shows what it showed, with the writes to it; one that is not is not written to
contents-moved : (line : Keyed Act) (its : List (Option (Kept Act))) (d : ℕ) → contents_at (all_moved act_said line 0 its) d ≡ step_in line d (held_at its d)
contents-moved line its d =
    let here : 0 + d ≡ d = omega arith in
    ap contents_in (moved-at line its 0 d ∙ ap (λ n. option_map (λ x. moved act_said line n x) (held_at its d)) here) ∙ moved-in line d (held_at its d)

-- it has the writes of the call
step-written : (decls : Declared) (out : Option View) (results : Option Items) (line : Keyed Act) (d : ℕ) (o : Option (Kept Act)) → (act_said line.1.deed).writes ≡ writes_told decls out results
    → (is_held o ≡ false → writes_at (writes_told decls out results) d ≡ []) → step_in line d o ≡ after_writes (contents_in o) (writes_at (writes_told decls out results) d)
step-written decls out results line d None writes none = sym (ap (after_writes (contents_in {D = Act} None)) (none refl))
step-written decls out results line d (Some k) writes none = ap (λ (ws : Writes). after_writes k.contents (writes_at ws d)) writes

sound-at : (decls : Declared) (h : Hold Act) (out : Option View) (results : Option Items) → IsSoundHome decls h out results → IsSoundAt decls (contents_at h.its) out results
sound-at decls h None results sound = tt
sound-at decls h (Some v) None sound = tt
sound-at decls h (Some v) (Some items) sound = sound

shown-written : (decls : Declared) (call : Call) (results : Option Items) (line : Keyed Act) (h : Hold Act) (d : ℕ)
    → ((k : ℕ) → is_named decls call k ≡ true → is_held (held_at h.its k) ≡ true) → ((k : ℕ) → is_named decls call k ≡ true → HasShape decls k (contents_at h.its k))
    → is_output_of decls call.out ≡ true → IsSoundHome decls h call.out results → (act_said line.1.deed).writes ≡ writes_told decls call.out results
    → shown (contents_at (all_moved act_said line 0 h.its) d) ≡ written (shown (contents_at h.its d)) (writes_at (writes_told decls call.out results) d)
shown-written decls call results line h d held shapes into sound writes = go (output_is_at decls d call.out) refl
  where
    ws : List Write
    ws = writes_at (writes_told decls call.out results) d

    moved_on : (is_held (held_at h.its d) ≡ false → ws ≡ []) → shown (contents_at (all_moved act_said line 0 h.its) d) ≡ shown (after_writes (contents_at h.its d) ws)
    moved_on none = ap shown (contents-moved line h.its d) ∙ ap shown (step-written decls call.out results line d (held_at h.its d) writes none)

    go : (b : Bool) → output_is_at decls d call.out ≡ b → shown (contents_at (all_moved act_said line 0 h.its) d) ≡ written (shown (contents_at h.its d)) ws
    go true at =
        let named = output-named decls call d at in
        moved_on (λ apart. absurd (false≢true (sym apart ∙ held d named)))
        ∙ (after-writes decls (contents_at h.its) call.out results d into (sound-at decls h call.out results sound) (shapes d named)).shows
    go false at =
        let none = none-written decls call.out results d at in
        moved_on (λ apart. none) ∙ ap (λ us. shown (after_writes (contents_at h.its d) us)) none ∙ sym (ap (written (shown (contents_at h.its d))) none)

-- what planning left: what is held is as before, but for room
pub record IsSame (old new : HeldValue Act) : Type 0 where
  pub its : new.hold.its ≡ old.hold.its
  pub numbers : new.numbers ≡ old.numbers
  pub pass : new.pass.it ≡ old.pass.it

-- one call performed
pub performed : (decls : Declared) (call : Call) (task number n : ℕ) (read : Operands) (weights : List ℕ) (outcome : Outcome) (reply : Reply) (old mid new : HeldValue Act) (a : Act) → IsCall decls call
    → ((k : ℕ) → is_named decls call k ≡ true → is_held (held_at old.hold.its k) ≡ true) → ((k : ℕ) → is_named decls call k ≡ true → HasShape decls k (contents_at old.hold.its k))
    → IsActOf decls task number call read weights outcome a → task ≡ old.pass.it.task → outcome ≡ outcome_in decls (world_held old.hold) call → reply ≡ outcome.reply → IsSoundHome decls old.hold call.out outcome.results
    → IsSame old mid → Commits act_said a n mid new → IsPerformed decls call number reply old new
performed decls call task number n read weights outcome reply old mid new a valid held shapes is at_task came replied sound same commits =
    let line = commits.line in
    let said = act-says decls task number call read weights outcome a is in
    let writes : (act_said line.1.deed).writes ≡ writes_told decls call.out outcome.results = ap (λ (x : Act). (act_said x).writes) commits.deed_is ∙ ap (λ (s : Said). s.writes) said in
    let its : new.hold.its ≡ all_moved act_said line 0 old.hold.its = commits.its ∙ ap (all_moved act_said line 0) same.its in
    record {
      line = line;
      decls_is = ap (λ (x : Act). x.decls.now) commits.deed_is ∙ is.decls_is;
      body_is = ap (λ (x : Act). x.body.now) commits.deed_is ∙ is.body_is;
      task_is = ap (λ (x : Act). x.task) commits.deed_is ∙ (is.task_is ∙ at_task);
      number_is = ap (λ (x : Act). x.number) commits.deed_is ∙ is.number_is;
      outcome_is = ap (λ (x : Act). x.outcome) commits.deed_is ∙ (is.outcome_is ∙ came);
      reply_is = replied ∙ ap (λ (o : Outcome). o.reply) came;
      its = its;
      world = λ d.
          ap (λ (os : List (Option (Kept Act))). shown (contents_at os d)) its
          ∙ (shown-written decls call outcome.results line old.hold d held shapes valid.into sound writes
          ∙ ap (λ (o : Outcome). written (shown (contents_at old.hold.its d)) (writes_at (writes_told decls call.out o.results) d)) came);
      pass = commits.pass ∙ ap (λ (p : Passed Act). pass_with p line) same.pass;
      numbers = commits.numbers ∙ same.numbers;
    }

-- what the results of a call are planned into
pub can-plan : {D : Type 0} (decls : Declared) (call : Call) (parts : Parts) (outcome : Outcome) (h : Hold D) → IsDeclared decls → IsCall decls call → outcome ≡ decide decls call parts → output_fits decls call.out outcome.results ≡ true
    → ((k : ℕ) → is_named decls call k ≡ true → is_held (held_at h.its k) ≡ true) → ((k : ℕ) → is_named decls call k ≡ true → HasShape decls k (contents_at h.its k)) → CanPlan decls h call.out outcome.results
can-plan decls call parts outcome h declared valid came fits held shapes = go call.out outcome.results refl refl fits
  where
    go : (out : Option View) (results : Option Items) → call.out ≡ out → outcome.results ≡ results → output_fits decls out results ≡ true → CanPlan decls h out results
    go None results at_out at_results fit = tt
    go (Some v) None at_out at_results fit = tt
    go (Some v) (Some items) at_out at_results fit =
        let home = home_of decls v.array in
        let known = view-known decls v (ap (is_output_of decls) (sym at_out) ∙ valid.into) in
        let given : (decide decls call parts).results ≡ Some items = ap (λ (o : Outcome). o.results) (sym came) ∙ at_results in
        let named = output-named decls call home (ap (output_is_at decls home) at_out ∙ eq-eqb home home refl) in
        (held home named, record { declared = declared; array = known.0; view = known.1; shape = shapes home named }, results-many decls call parts v items valid at_out given, fit)

-- a change at the home of the output is what the results of the call write
pub written-at : {number : ℕ} (decls : Declared) (v : View) (items : Items) (c : Change) (w : Work) (d : ℕ) → number ≡ home_of decls v.array → puts_told decls v items ≡ writes_by c → change_at w d ≡ cond (eqb number d) c change.Nothing
    → writes_at (writes_told decls (Some v) (Some items)) d ≡ writes_by (change_at w d)
written-at {number} decls v items c w d home told at = go (eqb (home_of decls v.array) d) (eqb number d) (ap (λ n. eqb n d) (sym home)) ∙ ap writes_by (sym at)
  where
    go : (a b : Bool) → a ≡ b → cond a (puts_told decls v items) [] ≡ writes_by (cond b c change.Nothing)
    go true true same = told
    go true false same = absurd (false≢true (sym same))
    go false true same = absurd (false≢true same)
    go false false same = refl

-- what the pass of a call that was performed has more
pub one-more : (decls : Declared) (call : Call) (number : ℕ) (reply : Reply) (old new : HeldValue Act) (before after : Passed Act) → IsPerformed decls call number reply old new → old.pass.it ≡ before → after ≡ new.pass.it → IsOneLineMore decls call number reply before after
one-more decls call number reply old new before after is begins ends = record {
  line = is.line;
  decls_is = is.decls_is;
  body_is = is.body_is;
  task_is = is.task_is ∙ ap (λ (p : Passed Act). p.task) begins;
  number_is = is.number_is;
  reply_is = is.reply_is ∙ sym (ap (λ (o : Outcome). o.reply) is.outcome_is);
  pass = ends ∙ (is.pass ∙ ap (λ (p : Passed Act). pass_with p is.line) begins);
}
