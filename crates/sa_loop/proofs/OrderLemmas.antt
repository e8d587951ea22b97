-- A list of lines whose chains agree is a play of their calls.
use Rattle.std.proofs.Common.{◌≡◌, ◌≤◌, ◌<◌, ◌+◌, ℕ, eqb, Bool, true, false, ◌||◌, cond, nat_lt, List, [], ◌∷◌, length, map, Option, Some, None, refl, sym, ap, ◌∙◌, subst, arith}
use Rattle.std.specs.Coded.{Coded-set, coded_bool}
use Rattle.std.specs.List.{AllByRecursion, list_all, list_any}
use Rattle.std.proofs.Math.Logic.{∥∥₁_elim}
use Rattle.std.proofs.lemmas.Bool.{eqb-true, ltb-false, ltb-true, or_left, or_right, false≢true}
use Rattle.sa_base.specs.Deeds.{Write, writes_at}
use Rattle.sa_view.specs.declared.view.View.{View}
use Rattle.sa_plain.specs.declared.items.Items.{Items}
use Rattle.sa_call.specs.declared.call.Call.{Call}
use Rattle.sa_call.specs.declared.reply.Outcome.{Outcome}
use Rattle.sa_call.specs.declared.reply.Reply.{Reply}
use Rattle.sa_call.specs.Decides.{decide}
use Rattle.sa_call.specs.Decls.{Declared, IsDeclared, home_of}
use Rattle.sa_call.specs.Forms.{descr_of}
use Rattle.sa_call.specs.Told.{homes_of, is_named, is_number, operand_is_at, output_is_at, parts_told}
use Rattle.sa_call.specs.Valid.{is_operand_of, is_output_of}
use Rattle.sa_journal.specs.declared.party.Party.TheVariants.{Descr}
use Rattle.sa_journal.specs.Chains.{Keyed}
use Rattle.sa_journal.specs.Parties.{among, names}
use Rattle.sa_journal.specs.Said.{Said}
use Rattle.sa_hall.specs.Contents.{Contents, after_writes}
use Rattle.sa_hall.specs.Domains.{IsReadHere, stepped}
use Rattle.sa_hall.specs.Folds.{Agrees, left_by}
use Rattle.sa_loop.specs.declared.act.Act.{Act}
use Rattle.sa_loop.specs.Acts.{act_said, said_by}
use Rattle.sa_loop.specs.Orders.{AgreesAt, IsPlayed, OneOrder, chain_at, contents_left, line_call, line_reply}
use Rattle.sa_loop.specs.Plays.{outcomes_from, world_left}
use Rattle.sa_loop.specs.Runs.{IsContents, shown, world_of}
use Rattle.sa_loop.specs.States.{World}
use Rattle.sa_loop.specs.Takes.{outcome_in}
use Rattle.sa_loop.specs.Writes.{puts_told, world_after, writes_told, written}
use Rattle.sa_loop.proofs.KnownLemmas.{IsKnown, home-any, known, parts-agree}
use Rattle.sa_loop.proofs.PerformLemmas.{home-declared}
use Rattle.sa_loop.proofs.StepLemmas.{IsStep, IsWithin, steps}
use Rattle.sa_loop.proofs.WorldLemmas.{view-known, writes-within}

-- a call writes nothing but to its output's home

pub none-written : (decls : Declared) (out : Option View) (results : Option Items) (d : ℕ) → output_is_at decls d out ≡ false → writes_at (writes_told decls out results) d ≡ []
none-written decls None results d apart = refl
none-written decls (Some v) None d apart = refl
none-written decls (Some v) (Some results) d apart = ap (λ (b : Bool). cond b (puts_told decls v results) []) apart

-- a call is on the home of its output, which is declared

pub output-named : (decls : Declared) (call : Call) (d : ℕ) → output_is_at decls d call.out ≡ true → is_named decls call d ≡ true
output-named decls call d at =
    or_left (list_any (operand_is_at decls d) call.operands || output_is_at decls d call.out) (is_number d (descr_of call.op)) (or_right (list_any (operand_is_at decls d) call.operands) (output_is_at decls d call.out) at)

pub output-below : (decls : Declared) (out : Option View) (d : ℕ) → IsDeclared decls → is_output_of decls out ≡ true → output_is_at decls d out ≡ true → d < length decls.descrs
output-below decls None d declared into at = absurd (false≢true at)
output-below decls (Some v) d declared into at =
    let known = view-known decls v into in
    subst (λ (h : ℕ). h < length decls.descrs) (eqb-true (home_of decls v.array) d at) (home-declared decls v.array declared known.0)

-- an act, under its declarations

pub record IsAct (decls : Declared) (a : Act) : Type 0 where
  pub said : act_said a ≡ said_by decls a.task a.number a.locks a.body.now a.read a.weights a.outcome
  pub views : list_all (is_operand_of decls) a.body.now.operands ≡ true
  pub into : is_output_of decls a.body.now.out ≡ true
  pub locks : a.locks ≡ homes_of decls a.body.now
  pub known : IsKnown decls a.body.now a.read a.weights
  pub decided : a.outcome ≡ decide decls a.body.now (parts_told decls a.body.now a.read a.weights)

pub act-is : (decls : Declared) (a : Act) → a.decls.now ≡ decls → IsAct decls a
act-is decls a under = record {
  said = ap (λ (d : Declared). said_by d a.task a.number a.locks a.body.now a.read a.weights a.outcome) under;
  views = ap (λ (d : Declared). list_all (is_operand_of d) a.body.now.operands) (sym under) ∙ ∥∥₁_elim a.is_call (Coded-set coded_bool _ _) (λ is. is.views);
  into = ap (λ (d : Declared). is_output_of d a.body.now.out) (sym under) ∙ ∥∥₁_elim a.is_call (Coded-set coded_bool _ _) (λ is. is.into);
  locks = a.locks_are ∙ ap (λ (d : Declared). homes_of d a.body.now) under;
  known = subst (λ (d : Declared). IsKnown d a.body.now a.read a.weights) under (known a.decls.now a.body.now a.read a.weights a.are_operands a.are_weights a.are_light);
  decided = a.decided ∙ ap (λ (d : Declared). decide d a.body.now (parts_told d a.body.now a.read a.weights)) under;
}

-- what descriptors hold after an act
abbrev next_contents : Act → (ℕ → Contents) → ℕ → Contents
next_contents a cs d = stepped d (act_said a) (cs d)

-- the act names each descriptor that its call is on
named-there : (decls : Declared) (a : Act) (d : ℕ) → IsAct decls a → d < length decls.descrs → is_named decls a.body.now d ≡ true → names (act_said a) (Descr d) ≡ true
named-there decls a d is below named =
    ap (λ (s : Said). among d s.locks) is.said ∙ ap (among d) is.locks ∙ home-any (is_named decls a.body.now) d 0 (length decls.descrs) (omega arith) (omega arith) named

-- it writes nothing to what it does not name
unnamed-unwritten : (decls : Declared) (a : Act) (d : ℕ) (c : Contents) → IsAct decls a → IsDeclared decls → names (act_said a) (Descr d) ≡ false → stepped d (act_said a) c ≡ c
unnamed-unwritten decls a d c is declared apart = ap (λ (s : Said). stepped d s c) is.said ∙ ap (after_writes c) (none-written decls a.body.now.out a.outcome.results d (go (output_is_at decls d a.body.now.out) refl))
  where
    go : (b : Bool) → output_is_at decls d a.body.now.out ≡ b → b ≡ false
    go true at = absurd (false≢true (sym apart ∙ named-there decls a d is (output-below decls a.body.now.out d declared is.into at) (output-named decls a.body.now d at)))
    go false at = refl

-- the state of a descriptor after it

abbrev ws_of : Declared → Act → ℕ → List Write
ws_of decls a d = writes_at (writes_told decls a.body.now.out a.outcome.results) d

step-is : (decls : Declared) (a : Act) (d : ℕ) (c : Contents) → IsAct decls a → IsContents decls d c → IsStep decls d c (ws_of decls a d)
step-is decls a d c is held = steps decls d c (ws_of decls a d) held (subst (λ (ns : List ℕ). AllByRecursion (IsWithin ns) (ws_of decls a d)) (sym held.lengths) (writes-within decls a.body.now.out a.outcome.results d is.into))

after-said : (decls : Declared) (a : Act) (d : ℕ) (c : Contents) → IsAct decls a → stepped d (act_said a) c ≡ after_writes c (ws_of decls a d)
after-said decls a d c is = ap (λ (s : Said). stepped d s c) is.said

state-written : (decls : Declared) (a : Act) (d : ℕ) (c : Contents) → IsAct decls a → IsDeclared decls → (d < length decls.descrs → IsContents decls d c)
    → shown (stepped d (act_said a) c) ≡ written (shown c) (ws_of decls a d)
state-written decls a d c is declared held = go (nat_lt d (length decls.descrs)) refl (output_is_at decls d a.body.now.out) refl
  where
    go : (b : Bool) → nat_lt d (length decls.descrs) ≡ b → (o : Bool) → output_is_at decls d a.body.now.out ≡ o → shown (stepped d (act_said a) c) ≡ written (shown c) (ws_of decls a d)
    go true below o at = ap shown (after-said decls a d c is) ∙ (step-is decls a d c is (held (ltb-true d (length decls.descrs) below))).shows
    go false above true at = let under = output-below decls a.body.now.out d declared is.into at in let over = ltb-false d (length decls.descrs) above in absurd (omega arith)
    go false above false at =
        let none = none-written decls a.body.now.out a.outcome.results d at in
        ap shown (after-said decls a d c is) ∙ ap (λ ws. shown (after_writes c ws)) none ∙ sym (ap (written (shown c)) none)

-- the chain of a descriptor, with one line in front

chain-agrees : (decls : Declared) (l : Keyed Act) (ls : List (Keyed Act)) (d : ℕ) (c : Contents) → IsAct decls l.1.deed → IsDeclared decls → AgreesAt d c (l ∷ ls) → AgreesAt d (stepped d (act_said l.1.deed) c) ls
chain-agrees decls l ls d c is declared agrees = go (names (act_said l.1.deed) (Descr d)) refl agrees
  where
    All : Contents → List (Keyed Act) → Type 0
    All x lines = Agrees (λ a. stepped d (act_said a)) (λ a. IsReadHere d (act_said a)) x lines

    go : (b : Bool) → names (act_said l.1.deed) (Descr d) ≡ b → All c (cond b (l ∷ chain_at d ls) (chain_at d ls)) → AgreesAt d (stepped d (act_said l.1.deed) c) ls
    go true named all = all.1
    go false apart all = subst (λ x. All x (chain_at d ls)) (sym (unnamed-unwritten decls l.1.deed d c is declared apart)) all

chain-left : (decls : Declared) (l : Keyed Act) (ls : List (Keyed Act)) (d : ℕ) (c : Contents) → IsAct decls l.1.deed → IsDeclared decls → contents_left d c (l ∷ ls) ≡ contents_left d (stepped d (act_said l.1.deed) c) ls
chain-left decls l ls d c is declared = go (names (act_said l.1.deed) (Descr d)) refl
  where
    left : Contents → List (Keyed Act) → Contents
    left x lines = left_by (λ a. stepped d (act_said a)) (λ a. IsReadHere d (act_said a)) x lines

    go : (b : Bool) → names (act_said l.1.deed) (Descr d) ≡ b → left c (cond b (l ∷ chain_at d ls) (chain_at d ls)) ≡ left (stepped d (act_said l.1.deed) c) (chain_at d ls)
    go true named = refl
    go false apart = ap (λ x. left x (chain_at d ls)) (sym (unnamed-unwritten decls l.1.deed d c is declared apart))

first-read : (l : Keyed Act) (ls : List (Keyed Act)) (d : ℕ) (c : Contents) → names (act_said l.1.deed) (Descr d) ≡ true → AgreesAt d c (l ∷ ls) → IsReadHere d (act_said l.1.deed) c
first-read l ls d c named agrees = first (subst (λ (b : Bool). All (cond b (l ∷ chain_at d ls) (chain_at d ls))) named agrees)
  where
    All : List (Keyed Act) → Type 0
    All lines = Agrees (λ a. stepped d (act_said a)) (λ a. IsReadHere d (act_said a)) c lines

    first : All (l ∷ chain_at d ls) → IsReadHere d (act_said l.1.deed) c
    first all = all.0

-- an act whose parts are the same when they are read again is its call's effect
pub outcome-there : (decls : Declared) (cs : ℕ → Contents) (a : Act) → IsAct decls a → IsDeclared decls → ((d : ℕ) → d < length decls.descrs → IsContents decls d (cs d))
    → ((d : ℕ) → d < length decls.descrs → is_named decls a.body.now d ≡ true → IsReadHere d (act_said a) (cs d)) → a.outcome ≡ outcome_in decls (world_of cs) a.body.now
outcome-there decls cs a is declared held read =
    is.decided
    ∙ ap (decide decls a.body.now)
    (parts-agree decls cs a.body.now a.read a.weights declared is.views is.known
    (λ d below named. record { lengths = (held d below).lengths; states = (held d below).states; plains = (held d below).plains })
    (λ d below named. subst (λ (s : Said). IsReadHere d s (cs d)) is.said (read d below named)))

pub one-order : OneOrder
one-order decls cs [] declared held alike agrees = record { replies = refl; states = λ d below. refl }
one-order decls cs (l ∷ ls) declared held alike agrees =
    let a = l.1.deed in
    let call = a.body.now in
    let is = act-is decls a alike.0 in
    let outcome = outcome-there decls cs a is declared held (λ d below named. first-read l ls d (cs d) (named-there decls a d is below named) (agrees d below)) in
    let world : world_of (next_contents a cs) ≡ world_after decls (world_of cs) call =
    λ i d. (state-written decls a d (cs d) is declared (held d) ∙ ap (λ (o : Outcome). written (shown (cs d)) (writes_at (writes_told decls call.out o.results) d)) outcome) i in
    let after : (d : ℕ) → d < length decls.descrs → IsContents decls d (next_contents a cs d) =
    λ d below. subst (IsContents decls d) (sym (after-said decls a d (cs d) is)) (step-is decls a d (cs d) is (held d below)).contents in
    let rest = one-order decls (next_contents a cs) ls declared after alike.1 (λ d below. chain-agrees decls l ls d (cs d) is declared (agrees d below)) in
    let reply : Outcome → Reply = λ o. o.reply in
    record {
      replies =
          ap (λ r. reply r ∷ map line_reply ls) outcome
          ∙ ap (λ rs. reply (outcome_in decls (world_of cs) call) ∷ rs) (rest.replies ∙ ap (λ (w : World). map reply (outcomes_from decls w (map line_call ls))) world);
      states = λ d below.
          ap shown (chain-left decls l ls d (cs d) is declared)
          ∙ (rest.states d below ∙ ap (λ (w : World). world_left decls w (map line_call ls) d) world);
    }
