-- A run in threads: its passes, and what is gathered at the end.
use Rattle.std.proofs.Common.{◌≡◌, ◌≤◌, ◌<◌, ◌+◌, ℕ, zero, suc, Bool, true, false, cond, nat_lt, List, [], ◌∷◌, length, map, replicate, get_or, slice_get, Option, Some, None, Result, Ok, Err, refl, sym, ap, ◌∙◌, subst, arith}
use Rattle.std.specs.List.{All, AllByRecursion, AllZip, range_with_len}
use Rattle.std.proofs.lemmas.Bool.{false≢true, lt-ltb, ltb-true}
use Rattle.std.proofs.lemmas.List.{length-replicate}
use Rattle.std.proofs.lemmas.List.FromFn.{get_or-map-range_with_len}
use Rattle.sa_tie.specs.Seated.{TableId}
use Rattle.sa_call.specs.declared.call.Call.{Call}
use Rattle.sa_call.specs.declared.reply.Reply.{Reply}
use Rattle.sa_call.specs.Decls.{Declared, IsDeclared}
use Rattle.sa_call.specs.Valid.{IsCall}
use Rattle.sa_journal.specs.declared.party.Party.TheVariants.{Descr, Task}
use Rattle.sa_journal.specs.Chains.{Keyed, chain_of}
use Rattle.sa_journal.specs.Journals.{IsOf, Settled, NameParties}
use Rattle.sa_journal.specs.Shapes.{Shape}
use Rattle.sa_journal.specs.Table.{Shelves}
use Rattle.sa_hall.specs.Contents.{no_shape, shape_of}
use Rattle.sa_hall.specs.Domains.{IsLeftHere, Kept}
use Rattle.sa_hall.specs.Halls.{AreQuiet, IsOfEnded, IsWhole}
use Rattle.sa_hall.specs.Holds.{contents_at, contents_in, held_at, is_held}
use Rattle.sa_hall.specs.Passes.{Passed, PassValue}
use Rattle.sa_loop.specs.declared.act.Act.{Act}
use Rattle.sa_loop.specs.Acts.{act_said}
use Rattle.sa_loop.specs.Held.{IsPlay}
use Rattle.sa_loop.specs.Gathers.{plain_in}
use Rattle.sa_loop.specs.Histories.{no_call}
use Rattle.sa_loop.specs.Locked.{shape_in}
use Rattle.sa_loop.specs.OneHistory.{AreEnded, AreOneHistory, IsAt, IsDoneTo, flag_at}
use Rattle.sa_loop.specs.Openings.{AreOpeningPasses, IsOpeningPass, shapes_of}
use Rattle.sa_loop.specs.Orders.{chain_at, line_call, line_reply}
use Rattle.sa_loop.specs.Plays.{play_replies, play_world}
use Rattle.sa_loop.specs.Runs.{shown}
use Rattle.sa_loop.proofs.HistoryLemmas.{one-history}
use Rattle.sa_loop.proofs.OpenLemmas.{many-shapes, shape-at}
use Rattle.sa_script.specs.Scripts.{ScriptValue}
use Rattle.sa_work.specs.Crews.{AreDone, IsDone, IsReady, calls_at}
use Rattle.sa_work.specs.Threads.{flags_of, holds_of}

-- an element that is there, whatever stands in for one that is not
pub there : {A : Type 0} (xs : List A) (k : ℕ) (x d : A) → k < length xs → x ≡ get_or xs k x → x ≡ get_or xs k d
there xs k x d below is = is ∙ same xs k x d below
  where
    same : {A : Type 0} (xs : List A) (k : ℕ) (x d : A) → k < length xs → get_or xs k x ≡ get_or xs k d
    same [] k x d below = absurd (omega arith)
    same (y ∷ ys) zero x d below = refl
    same (y ∷ ys) (suc k) x d below = same ys k x d (omega arith)

pub all-there : {A : Type 0} (P : A → Type 0) (xs : List A) (k : ℕ) (d : A) → AllByRecursion P xs → k < length xs → P (get_or xs k d)
all-there P [] k d all below = absurd (omega arith)
all-there P (x ∷ xs) zero d all below = all.0
all-there P (x ∷ xs) (suc k) d all below = all-there P xs k d all.1 (omega arith)

-- a pass at the beginning is ready for its worker

no-flags : (n j : ℕ) → flag_at (replicate n false) j ≡ false
no-flags zero j = refl
no-flags (suc n) zero = refl
no-flags (suc n) (suc j) = no-flags n j

opening-at : (roll : Shelves) (ties : List TableId) (script : ScriptValue) (t : ℕ) (p : Passed Act) → t < length script.tasks
    → IsOpeningPass roll ties (length script.decls.descrs) t (length (calls_at script.tasks t)) p → IsReady roll ties script p
opening-at roll ties script t p below is =
    let calls : List Call = calls_at script.tasks t in
    let at : IsAt script.decls calls 0 p = record {
      done = record {
        numbers = ap (map (λ (l : Keyed Act). l.1.deed.number)) is.lines;
        bodies = subst (AllByRecursion (λ (l : Keyed Act). line_call l ≡ get_or calls l.1.deed.number no_call)) (sym is.lines) tt;
        alike = subst (AllByRecursion (λ (l : Keyed Act). l.1.deed.decls.now ≡ script.decls)) (sym is.lines) tt;
      };
      clear = λ j from. ap (λ ms. flag_at ms j) is.marks ∙ no-flags (length calls) j;
      flags = ap length is.marks ∙ length-replicate (length calls) false;
    } in
    record {
      task = subst (λ (k : ℕ). k < length script.tasks) (sym is.task_is) below;
      at = subst (λ (k : ℕ). IsAt script.decls (calls_at script.tasks k) 0 p) (sym is.task_is) at;
      of = is.of;
    }

abbrev itself : PassValue Act → Passed Act
itself p = p.it

ready-from : (roll : Shelves) (ties : List TableId) (script : ScriptValue) (t : ℕ) (rest : List (List Call)) (ps : List (PassValue Act)) → ((j : ℕ) → j < length rest → get_or rest j [] ≡ calls_at script.tasks (t + j)) → t + length rest ≡ length script.tasks
    → AreOpeningPasses roll ties (length script.decls.descrs) t (map length rest) (map itself ps) → AllByRecursion (λ (p : PassValue Act). IsReady roll ties script p.it) ps
ready-from roll ties script t [] [] at many all = tt
ready-from roll ties script t [] (p ∷ ps) at many all = absurd all
ready-from roll ties script t (calls ∷ rest) [] at many all = absurd all
ready-from roll ties script t (calls ∷ rest) (p ∷ ps) at many all =
    let here : t + 0 ≡ t = omega arith in
    let count : length calls ≡ length (calls_at script.tasks t) = ap length (at 0 (omega arith) ∙ ap (calls_at script.tasks) here) in (
      opening-at roll ties script t p.it (omega arith) (subst (λ (n : ℕ). IsOpeningPass roll ties (length script.decls.descrs) t n p.it) count all.0),
      ready-from roll ties script (t + 1) rest ps (λ j below. let further : t + suc j ≡ t + 1 + j = omega arith in at (suc j) (omega arith) ∙ ap (calls_at script.tasks) further) (omega arith) all.1,
    )

pub ready-all : (roll : Shelves) (ties : List TableId) (script : ScriptValue) (counts : List ℕ) (ps : List (PassValue Act)) → counts ≡ map length script.tasks
    → AreOpeningPasses roll ties (length script.decls.descrs) 0 counts (map itself ps) → AllByRecursion (λ (p : PassValue Act). IsReady roll ties script p.it) ps
ready-all roll ties script counts ps are all =
    ready-from roll ties script 0 script.tasks ps (λ j below. let here : j ≡ 0 + j = omega arith in ap (calls_at script.tasks) here) (omega arith)
    (subst (λ ns. AreOpeningPasses roll ties (length script.decls.descrs) 0 ns (map itself ps)) are all)

-- and the workers give all of them back done

done-from : (roll : Shelves) (ties : List TableId) (script : ScriptValue) (t : ℕ) (rest : List (List Call)) (ps qs : List (PassValue Act)) → ((j : ℕ) → j < length rest → get_or rest j [] ≡ calls_at script.tasks (t + j))
    → AreOpeningPasses roll ties (length script.decls.descrs) t (map length rest) (map itself ps) → AllZip (λ (p q : PassValue Act). IsDone roll ties script p.it q.it) ps qs → AreDone roll ties script t rest (map itself qs)
done-from roll ties script t [] [] [] at all zip = tt
done-from roll ties script t [] [] (q ∷ qs) at all zip = absurd zip
done-from roll ties script t [] (p ∷ ps) qs at all zip = absurd all
done-from roll ties script t (calls ∷ rest) [] qs at all zip = absurd all
done-from roll ties script t (calls ∷ rest) (p ∷ ps) [] at all zip = absurd zip
done-from roll ties script t (calls ∷ rest) (p ∷ ps) (q ∷ qs) at all zip =
    let here : t + 0 ≡ t = omega arith in
    let same : calls_at script.tasks p.it.task ≡ calls = ap (calls_at script.tasks) all.0.task_is ∙ sym (at 0 (omega arith) ∙ ap (calls_at script.tasks) here) in (
      zip.0.task ∙ all.0.task_is,
      subst (λ (cs : List Call). IsDoneTo script.decls cs (length cs) q.it.marks q.it.chain.lines) same zip.0.done,
      zip.0.of,
      done-from roll ties script (t + 1) rest ps qs (λ j below. let further : t + suc j ≡ t + 1 + j = omega arith in at (suc j) (omega arith) ∙ ap (calls_at script.tasks) further) all.1 zip.1,
    )

pub done-all : (roll : Shelves) (ties : List TableId) (script : ScriptValue) (counts : List ℕ) (ps qs : List (PassValue Act)) → counts ≡ map length script.tasks
    → AreOpeningPasses roll ties (length script.decls.descrs) 0 counts (map itself ps) → AllZip (λ (p q : PassValue Act). IsDone roll ties script p.it q.it) ps qs → AreDone roll ties script 0 script.tasks (map itself qs)
done-all roll ties script counts ps qs are all zip =
    done-from roll ties script 0 script.tasks ps qs (λ j below. let here : j ≡ 0 + j = omega arith in ap (calls_at script.tasks) here)
    (subst (λ ns. AreOpeningPasses roll ties (length script.decls.descrs) 0 ns (map itself ps)) are all) zip

-- at the end: each pass is one of the ended journal

pub passes-of : (roll : Shelves) (ties : List TableId) (script : ScriptValue) (t : ℕ) (rest : List (List Call)) (ps : List (PassValue Act)) (descrs tasks : ℕ) → descrs ≡ length script.decls.descrs → t + length rest ≤ tasks → AreDone roll ties script t rest (map itself ps)
    → AllByRecursion (λ (p : PassValue Act). IsOf roll ties descrs p.it.chain × (p.it.task < tasks)) ps
passes-of roll ties script t [] [] descrs tasks same most all = tt
passes-of roll ties script t [] (p ∷ ps) descrs tasks same most all = absurd all
passes-of roll ties script t (calls ∷ rest) [] descrs tasks same most all = absurd all
passes-of roll ties script t (calls ∷ rest) (p ∷ ps) descrs tasks same most all =
    let at = all.0 in
    ((subst (λ (n : ℕ). IsOf roll ties n p.it.chain) (sym same) all.2, omega arith), passes-of roll ties script (t + 1) rest ps descrs tasks same (omega arith) all.3)

-- the lines of a task are done, with the flags of its pass
done-at : (roll : Shelves) (ties : List TableId) (script : ScriptValue) (lines : List (Keyed Act)) (t : ℕ) (rest : List (List Call)) (ps : List (PassValue Act)) (j : ℕ) → AreDone roll ties script t rest (map itself ps)
    → AllByRecursion (λ (p : PassValue Act). p.it.chain.lines ≡ chain_of act_said (Task p.it.task) lines) ps → j < length rest
    → IsDoneTo script.decls (get_or rest j []) (length (get_or rest j [])) (flags_of ps j) (chain_of act_said (Task (t + j)) lines)
done-at roll ties script lines t [] ps j all whole below = absurd (omega arith)
done-at roll ties script lines t (calls ∷ rest) [] j all whole below = absurd all
done-at roll ties script lines t (calls ∷ rest) (p ∷ ps) zero all whole below =
    let here : t ≡ t + 0 = omega arith in
    subst (λ (ls : List (Keyed Act)). IsDoneTo script.decls calls (length calls) p.it.marks ls) (whole.0 ∙ ap (λ (k : ℕ). chain_of act_said (Task k) lines) (all.0 ∙ here)) all.1
done-at roll ties script lines t (calls ∷ rest) (p ∷ ps) (suc j) all whole below =
    let further : t + 1 + j ≡ t + suc j = omega arith in
    subst (λ (k : ℕ). IsDoneTo script.decls (get_or rest j []) (length (get_or rest j [])) (flags_of ps j) (chain_of act_said (Task k) lines)) further
    (done-at roll ties script lines (t + 1) rest ps j all.3 whole.1 (omega arith))

within-from : (tasks descrs : ℕ) (lines : List (Keyed Act)) → NameParties act_said descrs tasks lines → AllByRecursion (λ (l : Keyed Act). l.1.deed.task < tasks) lines
within-from tasks descrs [] names = tt
within-from tasks descrs (l ∷ ls) names = ((names 0 l (omega arith)).1, within-from tasks descrs ls (λ k d below. names (suc k) d (omega arith)))

-- the ended journal, the descriptors and the passes are those of one history
pub ended-are : (roll : Shelves) (ties : List TableId) (shapes : List Shape) (script : ScriptValue) (lines : List (Keyed Act)) (its : List (Option (Kept Act))) (ps : List (PassValue Act)) (descrs tasks : ℕ) → IsDeclared script.decls → shapes ≡ shapes_of script.decls
    → tasks ≡ length script.tasks → NameParties act_said descrs tasks lines → AreQuiet roll ties shapes its → ((d : ℕ) (k : Kept Act) → held_at its d ≡ Some k → IsWhole act_said lines k)
    → AreDone roll ties script 0 script.tasks (map itself ps) → AllByRecursion (λ (p : PassValue Act). p.it.chain.lines ≡ chain_of act_said (Task p.it.task) lines) ps
    → AreEnded script.decls script.tasks lines (contents_at its) (flags_of ps)
ended-are roll ties shapes script lines its ps descrs tasks declared are many names quiet whole done compared = record {
  left = λ d below. left d below (held_at its d) refl (held d below);
  shapes = λ d below. shaped d below (held_at its d) refl (held d below);
  done = λ t below. let here : 0 + t ≡ t = omega arith in subst (λ (k : ℕ). IsDoneTo script.decls (get_or script.tasks t []) (length (get_or script.tasks t [])) (flags_of ps t) (chain_of act_said (Task k) lines)) here (done-at roll ties script lines 0 script.tasks ps t done compared below);
  within = within-from (length script.tasks) descrs lines (subst (λ (n : ℕ). NameParties act_said descrs n lines) many names);
}
  where
    held : (d : ℕ) → d < length script.decls.descrs → is_held (held_at its d) ≡ true
    held d below = let count = many-shapes script.decls shapes are in quiet.there d ∙ lt-ltb d (length shapes) (omega arith)

    left : (d : ℕ) → d < length script.decls.descrs → (o : Option (Kept Act)) → held_at its d ≡ o → is_held o ≡ true → IsLeftHere act_said d (contents_in o) (chain_at d lines)
    left d below None at held = absurd (false≢true held)
    left d below (Some k) at held = subst (λ (n : ℕ). IsLeftHere act_said n k.contents (chain_at n lines)) (quiet.placed d k at).number (whole d k at).left

    shaped : (d : ℕ) → d < length script.decls.descrs → (o : Option (Kept Act)) → held_at its d ≡ o → is_held o ≡ true → shape_of (contents_in o) ≡ shape_in script.decls d
    shaped d below None at held = absurd (false≢true held)
    shaped d below (Some k) at held = (quiet.placed d k at).shape ∙ shape-at script.decls shapes declared are d

-- what a run in threads keeps, number by number

map-range : {A : Type 0} (f g : ℕ → A) (a n : ℕ) → ((d : ℕ) → d < a + n → f d ≡ g d) → map f (range_with_len a n) ≡ map g (range_with_len a n)
map-range f g a zero same = refl
map-range f g a (suc n) same = ap (λ x. x ∷ map f (range_with_len (a + 1) n)) (same a (omega arith)) ∙ ap (λ xs. g a ∷ xs) (map-range f g (a + 1) n (λ d below. same d (omega arith)))

pub listed : {A : Type 0} (f g : ℕ → A) (n : ℕ) → ((d : ℕ) → d < n → f d ≡ g d) → map f (range_with_len 0 n) ≡ map g (range_with_len 0 n)
listed f g n same = map-range f g 0 n (λ d below. same d (omega arith))

pub listed-at : {A : Type 0} (f g : ℕ → A) (n d : ℕ) → map f (range_with_len 0 n) ≡ map g (range_with_len 0 n) → d < n → f d ≡ g d
listed-at f g n d same below =
    let here : 0 + d ≡ d = omega arith in
    sym (get_or-map-range_with_len f 0 n d d (f d) below here) ∙ ap (λ xs. get_or xs d (f d)) same ∙ get_or-map-range_with_len g 0 n d d (f d) below here

-- the store of a descriptor, by its number

pub store-none : (its : List (Option (Kept Act))) (n d : ℕ) → ((e : ℕ) → is_held (held_at its e) ≡ nat_lt e n) → held_at its d ≡ None → None ≡ cond (nat_lt d n) (Some (holds_of its d).layout) None
store-none its n d there none = ap (λ (b : Bool). cond b (Some (holds_of its d).layout) None) (ap is_held (sym none) ∙ there d)

pub store-some : (its : List (Option (Kept Act))) (n d : ℕ) (k : Kept Act) → ((e : ℕ) → is_held (held_at its e) ≡ nat_lt e n) → held_at its d ≡ Some k → Some k.contents.layout ≡ cond (nat_lt d n) (Some (holds_of its d).layout) None
store-some its n d k there some =
    ap (λ (o : Option (Kept Act)). Some (contents_in o).layout) (sym some) ∙ ap (λ (b : Bool). cond b (Some (holds_of its d).layout) None) (ap is_held (sym some) ∙ there d)

-- and its plain arrays
pub plain-none : (its : List (Option (Kept Act))) (n d k : ℕ) → ((e : ℕ) → is_held (held_at its e) ≡ nat_lt e n) → held_at its d ≡ None → None ≡ plain_in n (holds_of its) d k
plain-none its n d k there none = ap (λ (b : Bool). cond b (slice_get (holds_of its d).plains k) None) (ap is_held (sym none) ∙ there d)

pub plain-some : (its : List (Option (Kept Act))) (n d k : ℕ) (it : Kept Act) → ((e : ℕ) → is_held (held_at its e) ≡ nat_lt e n) → held_at its d ≡ Some it → slice_get it.contents.plains k ≡ plain_in n (holds_of its) d k
plain-some its n d k it there some =
    ap (λ (o : Option (Kept Act)). slice_get (contents_in o).plains k) (sym some) ∙ ap (λ (b : Bool). cond b (slice_get (holds_of its d).plains k) None) (ap is_held (sym some) ∙ there d)

pub store-below : (its : List (Option (Kept Act))) (n d : ℕ) (k : Kept Act) → ((e : ℕ) → is_held (held_at its e) ≡ nat_lt e n) → held_at its d ≡ Some k → d < n
store-below its n d k there some = ltb-true d n (sym (there d) ∙ ap is_held some)

-- each descriptor is one of the ended journal
pub quiet-of : (roll : Shelves) (ties : List TableId) (shapes : List Shape) (decls : Declared) (its : List (Option (Kept Act))) (ended : Settled Act) → IsDeclared decls → shapes ≡ shapes_of decls → ended.roll ≡ roll → ended.ties ≡ ties → ended.descrs ≡ length shapes
    → AreQuiet roll ties shapes its → (d : ℕ) (k : Kept Act) → held_at its d ≡ Some k → IsOfEnded ended k
quiet-of roll ties shapes decls its ended declared are same_roll same_ties same_descrs quiet d k at =
    let placed = quiet.placed d k at in
    let below : d < length shapes = ltb-true d (length shapes) (sym (quiet.there d) ∙ ap is_held at) in
    let number = placed.number in
    let many = many-shapes decls shapes are in
    let few = declared.descrs in
    (subst (λ (x : Shelves × List TableId × ℕ). IsOf x.0 x.1 x.2 k.chain) (λ i. (sym same_roll i, sym same_ties i, sym same_descrs i)) placed.of, (omega arith, omega arith))

-- all of it, where comparing left things as they were
pub one-run : (roll : Shelves) (ties : List TableId) (shapes : List Shape) (script : ScriptValue) (e0 e1 e2 : Settled Act) (q0 q1 : List (Option (Kept Act))) (p0 p1 : List (PassValue Act)) → IsDeclared script.decls → shapes ≡ shapes_of script.decls
    → e0.tasks ≡ length script.tasks → NameParties act_said e0.descrs e0.tasks e0.lines → AreQuiet roll ties shapes q0 → e1 ≡ e0 → e2 ≡ e1 → q1 ≡ q0 → p1 ≡ p0
    → ((d : ℕ) (k : Kept Act) → held_at q1 d ≡ Some k → IsWhole act_said e1.lines k) → AreDone roll ties script 0 script.tasks (map itself p0)
    → AllByRecursion (λ (p : PassValue Act). p.it.chain.lines ≡ chain_of act_said (Task p.it.task) e2.lines) p1
    → AreEnded script.decls script.tasks e2.lines (contents_at q1) (flags_of p1)
one-run roll ties shapes script e0 e1 e2 q0 q1 p0 p1 declared are many names quiet first second same_q same_p whole done compared =
    let both : e2 ≡ e0 = second ∙ first in
    ended-are roll ties shapes script e2.lines q1 p1 e2.descrs e2.tasks declared are (ap (λ (e : Settled Act). e.tasks) both ∙ many)
    (subst (λ (e : Settled Act). NameParties act_said e.descrs e.tasks e.lines) (sym both) names)
    (subst (AreQuiet roll ties shapes) (sym same_q) quiet)
    (λ d k at. subst (λ (e : Settled Act). IsWhole act_said e.lines k) (sym second) (whole d k at))
    (subst (λ (ps : List (PassValue Act)). AreDone roll ties script 0 script.tasks (map itself ps)) (sym same_p) done)
    compared
