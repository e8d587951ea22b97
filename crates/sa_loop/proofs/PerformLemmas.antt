-- One call of a run on one thread.
use Rattle.std.proofs.Common.{◌≡◌, ◌<◌, ℕ, zero, suc, true, false, Bool, cond, replicate, drop, ◌⊎◌, inl, inr, nat_lt, ◌||◌, List, [], ◌∷◌, ◌++◌, length, map, sum, get_or, Option, Some, None, refl, sym, ap, ◌∙◌, subst, arith}
use Rattle.std.specs.List.{AllByRecursion, range_with_len, list_any}
use Rattle.std.proofs.lemmas.Bool.{eq-eqb, eqb-true, false≢true, ltb-true, lt-ltb}
use Rattle.std.proofs.lemmas.List.{map-append}
use Rattle.std.proofs.lemmas.Simd.{map-map}
use Rattle.sa_alloc.specs.StoreValues as stores
use Rattle.sa_plain.specs.Plains.{PlainValue}
use Rattle.sa_view.specs.declared.view.View.{View}
use Rattle.sa_text.specs.declared.value.Value.TheVariants.{Missing}
use Rattle.sa_view.specs.Views.{places_of, read_at}
use Rattle.sa_plain.specs.Items.{count_of, values_of}
use Rattle.sa_plain.specs.declared.items.Items.{Items}
use Rattle.sa_plain.specs.declared.items.Items.TheVariants.{Values, Ints, Flags, Bytes, Units}
use Rattle.sa_call.specs.declared.call.Call.{Call}
use Rattle.sa_call.specs.declared.decls.ArrayDecl.{ArrayDecl}
use Rattle.sa_call.specs.declared.decls.Kind.{Kind}
use Rattle.sa_call.specs.declared.decls.Kind.TheVariants as kind
use Rattle.sa_call.specs.declared.reply.Outcome.{Outcome}
use Rattle.sa_call.specs.declared.reply.Reply.{Reply}
use Rattle.sa_call.specs.Decides.{decide}
use Rattle.sa_call.specs.Decls.{Declared, IsDeclared, home_of, is_strings, kind_of}
use Rattle.sa_call.specs.Kinds.{are_values, fits_kind, output_fits}
use Rattle.sa_call.specs.Parts.{Parts}
use Rattle.sa_call.specs.Forms.{descr_of}
use Rattle.sa_call.specs.Told.{index_at_home, is_named, is_number, operand_is_at, output_is_at}
use Rattle.sa_call.specs.Valid.{IsCall, is_descr_of, is_output_of}
use Rattle.sa_call.proofs.PartLemmas.{any-declared}
use Rattle.sa_hall.specs.Contents.{Contents, after_writes, no_shape, opening_of}
use Rattle.sa_loop.specs.declared.act.Act.{Act}
use Rattle.sa_loop.specs.declared.room.Room.{Room}
use Rattle.sa_loop.specs.Held.{CanTake, HasShape}
use Rattle.sa_loop.specs.declared.last_read.LastRead.{LastRead}
use Rattle.sa_loop.specs.LastReads.{AreKnown, AreThere, unknown_output}
use Rattle.sa_loop.specs.Performs.{CanPut, IsSoundAt}
use Rattle.sa_loop.specs.Plays.{outcomes_from, play_replies, play_world}
use Rattle.sa_loop.specs.Runs.{arrays_in, arrays_of, holds_in, room_holds, room_keeps, shown, world_of}
use Rattle.sa_loop.specs.States.{array_in, opening}
use Rattle.sa_loop.specs.Takes.{outcome_in, parts_of}
use Rattle.sa_base.specs.Deeds.{writes_at}
use Rattle.sa_loop.specs.Writes.{puts_told, world_after, writes_told, written}
use Rattle.sa_loop.proofs.GatheredLemmas.{as-many}
use Rattle.sa_loop.proofs.ResultLemmas.{results-many}
use Rattle.sa_loop.proofs.RunLemmas.{arrays-are, shape-is, world-more, outcomes-more, after-writes, IsAfter}
use Rattle.sa_loop.proofs.SameLemmas.{Agree, held-at, outcome-same, rooms-from}
use Rattle.sa_loop.proofs.LastLemmas.{known-kept}
use Rattle.sa_loop.proofs.WorldLemmas.{leaves-rest, put-there, view-known}

-- what a run's rooms are after the calls so far
pub record IsRun (decls : Declared) (rooms : List Room) (calls : List Call) : Type 0 where
  pub shaped : map (λ (r : Room). arrays_in (room_holds r)) rooms ≡ map (arrays_of decls) (range_with_len 0 (length decls.descrs))
  pub left : map (λ (r : Room). shown (room_holds r)) rooms ≡ map (play_world decls calls) (range_with_len 0 (length decls.descrs))

pub many-rooms : (decls : Declared) (rooms : List Room) (calls : List Call) → IsRun decls rooms calls → length rooms ≡ length decls.descrs
many-rooms decls rooms calls is = as-many (λ (r : Room). arrays_in (room_holds r)) (arrays_of decls) rooms (length decls.descrs) is.shaped

pub shape-at : (decls : Declared) (rooms : List Room) (calls : List Call) (d : ℕ) → IsRun decls rooms calls → d < length decls.descrs → HasShape decls d (holds_in rooms d)
shape-at decls rooms calls d is below = shape-is decls d (holds_in rooms d) (held-at arrays_in (arrays_of decls) rooms (length decls.descrs) d is.shaped below)

all_at : {A : Type 0} (P : A → Type 0) (xs : List A) (k : ℕ) (d : A) → AllByRecursion P xs → k < length xs → P (get_or xs k d)
all_at P [] k d a below = absurd (omega arith)
all_at P (x ∷ xs) zero d a below = a.0
all_at P (x ∷ xs) (suc k) d a below = all_at P xs k d a.1 (omega arith)

or_cases : (a b : Bool) → (a || b) ≡ true → (a ≡ true) ⊎ (b ≡ true)
or_cases true b e = inl refl
or_cases false b e = inr e

-- the home of a declared array is declared
pub home-declared : (decls : Declared) (array : ℕ) → IsDeclared decls → array < length decls.arrays → home_of decls array < length decls.descrs
home-declared decls array declared below = all_at (λ (a : ArrayDecl). a.home < length decls.descrs) decls.arrays array (record { home = 0; kind = kind.Str; len = 0 }) declared.homes below

-- each descriptor that a valid call is on is declared
pub named-declared : (decls : Declared) (call : Call) (d : ℕ) → IsDeclared decls → IsCall decls call → is_named decls call d ≡ true → d < length decls.descrs
named-declared decls call d declared valid named =
    elim (or_cases (list_any (operand_is_at decls d) call.operands || output_is_at decls d call.out) (is_number d (descr_of call.op)) named) [
      | inl on_views ↦ elim (or_cases (list_any (operand_is_at decls d) call.operands) (output_is_at decls d call.out) on_views) [
        | inl on_operand ↦ any-declared decls call.operands d declared valid.views on_operand
        | inr on_output ↦ output call.out valid.into on_output
      ]
      | inr on_descr ↦ number (descr_of call.op) valid.descr on_descr
    ]
  where
    output : (out : Option View) → is_output_of decls out ≡ true → output_is_at decls d out ≡ true → d < length decls.descrs
    output None into at = cc
    output (Some v) into at =
        let known = view-known decls v into in
        subst (λ (h : ℕ). h < length decls.descrs) (eqb-true (home_of decls v.array) d at) (home-declared decls v.array declared known.0)

    number : (o : Option ℕ) → is_descr_of decls o ≡ true → is_number d o ≡ true → d < length decls.descrs
    number None known at = cc
    number (Some n) known at = subst (λ (k : ℕ). k < length decls.descrs) (eqb-true n d at) (ltb-true n (length decls.descrs) known)

pub can-take : (decls : Declared) (rooms : List Room) (calls : List Call) (call : Call) → IsRun decls rooms calls → IsDeclared decls → IsCall decls call → CanTake decls (λ d. nat_lt d (length rooms)) (holds_in rooms) call
can-take decls rooms calls call is declared valid = record {
  declared = declared;
  valid = valid;
  homes = λ d named. lt-ltb d (length rooms) (let below = named-declared decls call d declared valid named in let many = many-rooms decls rooms calls is in omega arith);
  shapes = λ d named. shape-at decls rooms calls d is (named-declared decls call d declared valid named);
}

-- what the results of the call are put into
pub can-put : (decls : Declared) (rooms : List Room) (calls : List Call) (call : Call) (parts : Parts) (outcome : Outcome) → IsRun decls rooms calls → IsDeclared decls → IsCall decls call → outcome ≡ decide decls call parts → output_fits decls call.out outcome.results ≡ true
    → CanPut decls (holds_in rooms) (length rooms) call.out outcome.results
can-put decls rooms calls call parts outcome is declared valid came fits = go call.out outcome.results refl refl fits
  where
    go : (out : Option View) (results : Option Items) → call.out ≡ out → outcome.results ≡ results → output_fits decls out results ≡ true → CanPut decls (holds_in rooms) (length rooms) out results
    go None results at_out at_results fit = tt
    go (Some v) None at_out at_results fit = tt
    go (Some v) (Some items) at_out at_results fit =
        let into : is_output_of decls (Some v) ≡ true = ap (is_output_of decls) (sym at_out) ∙ valid.into in
        let known = view-known decls v into in
        let below = home-declared decls v.array declared known.0 in
        let many = many-rooms decls rooms calls is in
        let given : (decide decls call parts).results ≡ Some items = ap (λ (o : Outcome). o.results) (sym came) ∙ at_results in
        (omega arith, record { declared = declared; array = known.0; view = known.1; shape = shape-at decls rooms calls (home_of decls v.array) is below }, results-many decls call parts v items valid at_out given, fit)

-- the world that the rooms show is the play's, where descriptors are declared
pub agree : (decls : Declared) (rooms : List Room) (calls : List Call) → IsRun decls rooms calls → Agree decls (world_of (holds_in rooms)) (play_world decls calls)
agree decls rooms calls is d below = held-at shown (play_world decls calls) rooms (length decls.descrs) d is.left below

-- the run after one call more
pub record IsNext (decls : Declared) (rooms rooms' : List Room) (calls : List Call) (call : Call) (outcome : Outcome) : Type 0 where
  pub run : IsRun decls rooms' (calls ++ call ∷ [])
  pub shows : (d : ℕ) → d < length decls.descrs → shown (holds_in rooms' d) ≡ world_after decls (world_of (holds_in rooms)) call d
  pub came : outcome ≡ outcome_in decls (play_world decls calls) call

pub next : (decls : Declared) (rooms rooms' : List Room) (calls : List Call) (call : Call) (outcome : Outcome) → IsRun decls rooms calls → IsCall decls call → outcome ≡ outcome_in decls (world_of (holds_in rooms)) call
    → IsSoundAt decls (holds_in rooms) call.out outcome.results → length rooms' ≡ length rooms
    → ((d : ℕ) → holds_in rooms' d ≡ after_writes (holds_in rooms d) (writes_at (writes_told decls call.out outcome.results) d))
    → IsNext decls rooms rooms' calls call outcome
next decls rooms rooms' calls call outcome is valid came sound many written_is =
    let n = length decls.descrs in
    let many' : length rooms' ≡ n = many ∙ many-rooms decls rooms calls is in
    let ws = λ (d : ℕ). writes_at (writes_told decls call.out outcome.results) d in
    let Is = λ (d : ℕ) (c : Contents). IsAfter decls d (holds_in rooms d) c (ws d) in
    let after : (d : ℕ) → d < n → IsAfter decls d (holds_in rooms d) (holds_in rooms' d) (ws d) =
    λ d below. subst (Is d) (sym (written_is d)) (after-writes decls (holds_in rooms) call.out outcome.results d valid.into sound (shape-at decls rooms calls d is below)) in
    let world = agree decls rooms calls is in
    let same = outcome-same decls (world_of (holds_in rooms)) (play_world decls calls) call world in
    let shows : (d : ℕ) → d < n → shown (holds_in rooms' d) ≡ world_after decls (world_of (holds_in rooms)) call d =
    λ d below. (after d below).shows ∙ ap (λ (o : Outcome). written (shown (holds_in rooms d)) (writes_at (writes_told decls call.out o.results) d)) came in
    record {
      run = record {
        shaped = rooms-from arrays_in (arrays_of decls) rooms' n many' (λ d below. arrays-are decls d (holds_in rooms' d) (after d below).shape);
        left = rooms-from shown (play_world decls (calls ++ call ∷ [])) rooms' n many' (λ d below.
            shows d below
            ∙ (ap (λ (o : Outcome). written (shown (holds_in rooms d)) (writes_at (writes_told decls call.out o.results) d)) same
            ∙ (ap (λ s. written s (writes_at (writes_told decls call.out (outcome_in decls (play_world decls calls) call).results) d)) (world d below)
            ∙ ap (λ w. w d) (sym (world-more decls (opening decls) calls call)))));
      };
      shows = shows;
      came = came ∙ same;
    }

-- the replies with one call more
pub replies-more : (decls : Declared) (calls : List Call) (replies : List Reply) (call : Call) (outcome : Outcome) → replies ≡ play_replies decls calls → outcome ≡ outcome_in decls (play_world decls calls) call → replies ++ outcome.reply ∷ [] ≡ play_replies decls (calls ++ call ∷ [])
replies-more decls calls replies call outcome is came =
    let reply = λ (o : Outcome). o.reply in
    ap (λ rs. rs ++ outcome.reply ∷ []) is
    ∙ (ap (λ (o : Outcome). map reply (outcomes_from decls (opening decls) calls) ++ o.reply ∷ []) came
    ∙ (sym (map-append reply (outcomes_from decls (opening decls) calls) (outcome_in decls (play_world decls calls) call ∷ []))
    ∙ ap (map reply) (sym (outcomes-more decls (opening decls) calls call))))

-- rooms that keep all hold what they held
abbrev kept_holds : stores.Contents × List PlainValue → Contents
kept_holds k = record { layout = k.0.layout; plains = k.1 }

holds-kept : {B : Type 0} (F : Contents → B) (rooms rooms' : List Room) → map room_keeps rooms' ≡ map room_keeps rooms → map (λ (r : Room). F (room_holds r)) rooms' ≡ map (λ (r : Room). F (room_holds r)) rooms
holds-kept F rooms rooms' same =
    let f : stores.Contents × List PlainValue → _ = λ k. F (kept_holds k) in
    sym (map-map f room_keeps rooms') ∙ (ap (map f) same ∙ map-map f room_keeps rooms)

-- and are the same run
pub run-kept : (decls : Declared) (rooms rooms' : List Room) (calls : List Call) → map room_keeps rooms' ≡ map room_keeps rooms → IsRun decls rooms calls → IsRun decls rooms' calls
run-kept decls rooms rooms' calls same is = record {
  shaped = holds-kept arrays_in rooms rooms' same ∙ is.shaped;
  left = holds-kept shown rooms rooms' same ∙ is.left;
}

values-are : (items : Items) → are_values items ≡ true → Values (values_of items) ≡ items
values-are (Values vs) is = refl
values-are (Ints ns) is = absurd (false≢true is)
values-are (Flags bs) is = absurd (false≢true is)
values-are (Bytes rows) is = absurd (false≢true is)
values-are (Units rows) is = absurd (false≢true is)

counts-are : (items : Items) → are_values items ≡ true → length (values_of items) ≡ count_of items
counts-are (Values vs) is = refl
counts-are (Ints ns) is = absurd (false≢true is)
counts-are (Flags bs) is = absurd (false≢true is)
counts-are (Bytes rows) is = absurd (false≢true is)
counts-are (Units rows) is = absurd (false≢true is)

-- what is known of the arrays is known where the rooms keep the same
pub known-same : (decls : Declared) (rooms rooms' : List Room) (lasts : List (Option LastRead)) → map room_keeps rooms' ≡ map room_keeps rooms → AreKnown decls (world_of (holds_in rooms)) lasts → AreKnown decls (world_of (holds_in rooms')) lasts
known-same decls rooms rooms' lasts same known =
    known-kept decls (world_of (holds_in rooms)) (world_of (holds_in rooms')) lasts None known
    (λ array below strings other. ap (λ (cs : List Contents). array_in (shown (get_or cs (home_of decls array) (opening_of no_shape))) (index_at_home decls array)) (holds-kept (λ (c : Contents). c) rooms rooms' same))

-- and after one call more, but for its output
pub known-next : (decls : Declared) (rooms rooms' : List Room) (calls : List Call) (call : Call) (outcome : Outcome) (lasts : List (Option LastRead)) → IsDeclared decls → IsCall decls call → IsNext decls rooms rooms' calls call outcome
    → AreKnown decls (world_of (holds_in rooms)) lasts → AreKnown decls (world_of (holds_in rooms')) (unknown_output call.out lasts)
known-next decls rooms rooms' calls call outcome lasts declared valid is known =
    let w = world_of (holds_in rooms) in
    known-kept decls w (world_of (holds_in rooms')) lasts call.out known
    (λ array below strings other.
    ap (λ s. array_in s (index_at_home decls array)) (is.shows (home_of decls array) (home-declared decls array declared below))
    ∙ (leaves-rest decls w call valid).arrays array below strings other)

-- what may be put into a strings array are values
fits-values : (k : Kind) (items : Items) → is_strings k ≡ true → fits_kind k items ≡ true → are_values items ≡ true
fits-values kind.Str items strings fit = fit
fits-values (kind.Plain p) items strings fit = absurd (false≢true strings)

-- what a call put into its output is there
pub results-there : (decls : Declared) (rooms rooms' : List Room) (calls : List Call) (call : Call) (outcome : Outcome) → IsRun decls rooms calls → IsDeclared decls → IsCall decls call → outcome ≡ outcome_in decls (world_of (holds_in rooms)) call
    → output_fits decls call.out outcome.results ≡ true → IsNext decls rooms rooms' calls call outcome → AreThere decls (world_of (holds_in rooms')) call.out outcome.results
results-there decls rooms rooms' calls call outcome run declared valid came fits is = go call.out outcome.results refl refl fits
  where
    go : (out : Option View) (results : Option Items) → call.out ≡ out → outcome.results ≡ results → output_fits decls out results ≡ true → AreThere decls (world_of (holds_in rooms')) out results
    go None results at_out at_results fit = tt
    go (Some v) None at_out at_results fit = tt
    go (Some v) (Some items) at_out at_results fit = λ strings.
        let h = home_of decls v.array in
        let known = view-known decls v (ap (is_output_of decls) (sym at_out) ∙ valid.into) in
        let below = home-declared decls v.array declared known.0 in
        let given : (outcome_in decls (world_of (holds_in rooms)) call).results ≡ Some items = ap (λ (o : Outcome). o.results) (sym came) ∙ at_results in
        let parts = parts_of decls (world_of (holds_in rooms)) call in
        let many = results-many decls call parts v items valid at_out given in
        let are = fits-values (kind_of decls v.array) items strings fit in
        let values = values-are items are in
        let shape = shape-at decls rooms calls h run below in
        let same : shown (holds_in rooms' h) ≡ written (shown (holds_in rooms h)) (puts_told decls v items) =
        is.shows h below
        ∙ (ap (λ (o : Option Items). written (shown (holds_in rooms h)) (writes_at (writes_told decls call.out o) h)) given
        ∙ (ap (λ (o : Option View). written (shown (holds_in rooms h)) (writes_at (writes_told decls o (Some items)) h)) at_out
        ∙ ap (λ (b : Bool). written (shown (holds_in rooms h)) (cond b (puts_told decls v items) [])) (eq-eqb h h refl))) in
        sym (ap (λ s. read_at Missing (array_in s (index_at_home decls v.array)) (places_of v)) (same ∙ ap (λ (i : Items). written (shown (holds_in rooms h)) (puts_told decls v i)) (sym values))
        ∙ put-there decls v (holds_in rooms h) (values_of items) shape strings known.0 known.1 (counts-are items are ∙ many))

-- acts under the same declarations with one more
pub alike-more : (decls : Declared) (acts : List Act) (act : Act) → map (λ (a : Act). a.decls.now) acts ≡ replicate (length acts) decls → act.decls.now ≡ decls → map (λ (a : Act). a.decls.now) (acts ++ act ∷ []) ≡ replicate (length (acts ++ act ∷ [])) decls
alike-more decls [] act alike is = ap (λ d. d ∷ []) is
alike-more decls (a ∷ rest) act alike is =
    let heads = ap (λ (ds : List Declared). get_or ds 0 decls) alike in
    let tails = ap (λ (ds : List Declared). drop 1 ds) alike in
    ap (λ (d : Declared). d ∷ map (λ (a : Act). a.decls.now) (rest ++ act ∷ [])) heads ∙ ap (λ ds. decls ∷ ds) (alike-more decls rest act tails is)
