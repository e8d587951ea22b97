-- A statement without a fault keeps what the lines declare sound.
use Rattle.std.proofs.Common.{◌≡◌, ℕ, suc, ◌+◌, ◌<◌, ◌≤◌, Bool, true, false, not, ◌||◌, cond, eqb, nat_lt, nat_le, ℤ, pos, negsuc, List, [], ◌∷◌, ◌++◌, length, Option, Some, None, is_none, unwrap_or, refl, ap, subst, arith, length-append, sum_by, inl, inr}
use Rattle.std.specs.List.{AllByRecursion, IsDistinct}
use Rattle.std.specs.Option.{IfSome}
use Rattle.std.proofs.lemmas.Bool.{or_parts, not-false, ltb-false, leb-false, lt-ltb, eqb-true}
use Rattle.std.proofs.lemmas.List.Sums.{sum_by-append}
use Rattle.sa_descr.specs.declared.descr.NaRule.{NaRule}
use Rattle.sa_descr.specs.declared.descr.NaRule.TheVariants.{Absent}
use Rattle.sa_plain.specs.Plains.{IsWidth}
use Rattle.sa_call.specs.declared.decls.Kind.{Kind}
use Rattle.sa_call.specs.declared.decls.ArrayDecl.{ArrayDecl}
use Rattle.sa_call.specs.declared.call.Call.{Call}
use Rattle.sa_call.specs.Calls.{lengths_fit}
use Rattle.sa_call.specs.Decls.{Declared, HasWidths, entries_of, entries_at}
use Rattle.sa_call.specs.Valid.{IsCall, call_kinds_fit, rules_fit}
use Rattle.sa_script.specs.declared.cause.Cause.TheVariants as cause
use Rattle.sa_script.specs.declared.context.Context.{Context}
use Rattle.sa_script.specs.declared.statement.KindTerm.{KindTerm}
use Rattle.sa_script.specs.declared.statement.KindTerm.TheVariants as term
use Rattle.sa_script.specs.declared.statement.Statement.{Statement}
use Rattle.sa_script.specs.declared.statement.Statement.TheVariants as statement
use Rattle.sa_script.specs.Contexts.{declared_in, nothing, with_call, with_descr, with_array, with_task, with_last, descr_number, home_number, is_known, kind_in, length_allowed, width_allowed}
use Rattle.sa_script.specs.Faults.{fault_of, misplaced, out_of_order, misnamed, over_limit, bad_view, bad_kind, bad_lengths, bad_rules, bad_fill, kind_passes, passes_entries, is_long, width_passes}
use Rattle.sa_script.specs.Names.{name_of}
use Rattle.sa_script.specs.Scripts.{statement_adds, context_after}
use Rattle.sa_script.specs.Sound.{AreCalls, IsDeclaredName, IsRule, HasTextRule}
use Rattle.sa_script.specs.SoundContexts.{IsSoundContext}
use Rattle.sa_script.specs.Spelled.{IsSpelled}
use Rattle.sa_script.specs.Terms.{line_miskinded, line_passes, call_in}
use Rattle.sa_script.proofs.DistinctLemmas.{distinct_descr, distinct_array}
use Rattle.sa_script.proofs.ListLemmas.{all_weaker, all_push}
use Rattle.sa_script.proofs.ValidLemmas.{found_below, line-valid}

-- a chain of tests that gives nothing fails each of them
record NoneOf (p q r s t u v w x : Bool) : Type 0 where
  second : q ≡ false
  third : r ≡ false
  fourth : s ≡ false
  fifth : t ≡ false
  sixth : u ≡ false
  seventh : v ≡ false
  eighth : w ≡ false
  ninth : x ≡ false

none_of : {A : Type 0} (p q r s t u v w x : Bool) (a b c d e f g h i : A) → cond p (Some a) (cond q (Some b) (cond r (Some c) (cond s (Some d) (cond t (Some e) (cond u (Some f) (cond v (Some g) (cond w (Some h) (cond x (Some i) None)))))))) ≡ None → NoneOf p q r s t u v w x
none_of true q r s t u v w x a b c d e f g h i none = cc
none_of false true r s t u v w x a b c d e f g h i none = cc
none_of false false true s t u v w x a b c d e f g h i none = cc
none_of false false false true t u v w x a b c d e f g h i none = cc
none_of false false false false true u v w x a b c d e f g h i none = cc
none_of false false false false false true v w x a b c d e f g h i none = cc
none_of false false false false false false true w x a b c d e f g h i none = cc
none_of false false false false false false false true x a b c d e f g h i none = cc
none_of false false false false false false false false true a b c d e f g h i none = cc
none_of false false false false false false false false false a b c d e f g h i none = record { second = refl; third = refl; fourth = refl; fifth = refl; sixth = refl; seventh = refl; eighth = refl; ninth = refl }

-- before the first task there are no calls
no_calls : (d : Declared) (tasks : List (List Call)) → nat_lt 0 (length tasks) ≡ false → AreCalls d tasks
no_calls d [] e = tt
no_calls d (t ∷ ts) e = let few = ltb-false 0 (length (t ∷ ts)) e in absurd (omega arith)

-- a length that passes no limit
entry_fits : (before : ℕ) (length : Option ℤ) → passes_entries before length ≡ false → before + length_allowed length ≤ 8192
entry_fits before None e = cc
entry_fits before (Some (pos n)) e = let within = ltb-false 8192 (before + n) e in omega arith
entry_fits before (Some (negsuc n)) e = cc

-- a name that is spelled as one and not too long, and the rule of a descriptor
declared_name : (name : List ℕ) → name_of name ≡ Some name → is_long name ≡ false → IsDeclaredName name
declared_name name spelled short = record { spelled = spelled; short = ltb-false 32 (length name) short }

given_rule : (rule : Option NaRule) → IfSome rule IsRule → IsRule (unwrap_or rule Absent)
given_rule None is = tt
given_rule (Some rule) is = is

-- a further descriptor
descr_after : (c : Context) (name : List ℕ) (rule : NaRule) (coerce : Bool) → IsSoundContext c → IsDeclaredName name → is_known c.names name ≡ false → IsRule rule
    → nat_lt 0 (length c.tasks) ≡ false → nat_le 8 (length c.descrs) ≡ false → IsSoundContext (with_descr c name rule coerce)
descr_after c name rule coerce s named_so new text untasked few =
    let d = s.sound.declared in
    let room = leb-false 8 (length c.descrs) few in
    let longer = length-append c.descrs ((record { na = rule; coerce = coerce }) ∷ []) in
    let named = length-append c.names.descrs (name ∷ []) in
    record {
      version = s.version;
      sound = record {
        declared = record {
          homes = all_weaker (λ (a : ArrayDecl). a.home < length c.descrs) (λ (a : ArrayDecl). a.home < length (c.descrs ++ (record { na = rule; coerce = coerce }) ∷ [])) c.arrays (λ a below. omega arith) d.homes;
          descrs = omega arith;
          arrays = d.arrays;
          entries = d.entries;
          widths = d.widths;
        };
        descr_names = let before = s.sound.descr_names in omega arith;
        array_names = s.sound.array_names;
        names = record {
          descrs = all_push IsDeclaredName c.names.descrs name s.sound.names.descrs named_so;
          arrays = s.sound.names.arrays;
          distinct = distinct_descr c.names name s.sound.names.distinct new;
        };
        rules = all_push HasTextRule c.descrs (record { na = rule; coerce = coerce }) s.sound.rules text;
        few_tasks = s.sound.few_tasks;
        few_calls = s.sound.few_calls;
        valid = no_calls (record { descrs = c.descrs ++ (record { na = rule; coerce = coerce }) ∷ []; arrays = c.arrays }) c.tasks untasked;
      };
      counted = s.counted;
    }

-- the entries of a descriptor with one more array
entries_after : (arrays : List ArrayDecl) (home : ℕ) (kind : Kind) (len : ℕ) (given : Option ℤ) (other : ℕ) → entries_of arrays other ≤ 8192 → passes_entries (entries_of arrays home) given ≡ false → len ≡ length_allowed given
    → entries_of (arrays ++ (record { home = home; kind = kind; len = len }) ∷ []) other ≤ 8192
entries_after arrays home kind len given other within fits same =
    let whole = sum_by-append (entries_at other) arrays ((record { home = home; kind = kind; len = len }) ∷ []) in
    go (eqb home other) refl whole
  where
    go : (b : Bool) → eqb home other ≡ b → sum_by (entries_at other) (arrays ++ (record { home = home; kind = kind; len = len }) ∷ []) ≡ sum_by (entries_at other) arrays + (0 + cond (eqb home other) len 0) → entries_of (arrays ++ (record { home = home; kind = kind; len = len }) ∷ []) other ≤ 8192
    go true e whole = let at_home : home ≡ other = eqb-true home other e in let more = entry_fits (entries_of arrays home) given fits in let here : cond (eqb home other) len 0 ≡ len = rw e refl in let there : entries_of arrays home ≡ entries_of arrays other = ap (entries_of arrays) at_home in omega arith
    go false e whole = let here : cond (eqb home other) len 0 ≡ 0 = rw e refl in omega arith

-- a width that passes no limit
wide_enough : (width : Option ℤ) → width_passes width ≡ false → IsWidth (width_allowed width)
wide_enough None e = cc
wide_enough (Some (pos n)) e =
    let parts = or_parts (nat_lt n 1) (nat_lt 256 n) e in
    let some = ltb-false n 1 parts.0 in
    let few = ltb-false 256 n parts.1 in
    (omega arith, omega arith)
wide_enough (Some (negsuc n)) e = cc

kind_widths : (kind : KindTerm) → kind_passes kind ≡ false → HasWidths (kind_in kind)
kind_widths term.Str e = tt
kind_widths term.Int e = tt
kind_widths term.Bool e = tt
kind_widths (term.Bytes width) e = wide_enough width e
kind_widths (term.Fixed width) e = wide_enough width e

-- a further array
array_after : (c : Context) (name home : List ℕ) (kind : KindTerm) (len : Option ℤ) → IsSoundContext c → IsDeclaredName name → is_known c.names name ≡ false → nat_lt 0 (length c.tasks) ≡ false → nat_le 64 (length c.arrays) ≡ false
    → is_none (descr_number c home) ≡ false → kind_passes kind ≡ false → passes_entries (entries_of c.arrays (home_number c home)) len ≡ false → IsSoundContext (with_array c name (home_number c home) (kind_in kind) (length_allowed len))
array_after c name home kind len s named_so new_name untasked few known wide fits =
    let d = s.sound.declared in
    let new : ArrayDecl = record { home = home_number c home; kind = kind_in kind; len = length_allowed len } in
    let room = leb-false 64 (length c.arrays) few in
    let longer = length-append c.arrays (new ∷ []) in
    let named = length-append c.names.arrays (name ∷ []) in
    let below : home_number c home < length c.descrs = subst (λ n. home_number c home < n) s.sound.descr_names (found_below c.names.descrs home known) in
    record {
      version = s.version;
      sound = record {
        declared = record {
          homes = all_push (λ (a : ArrayDecl). a.home < length c.descrs) c.arrays new d.homes below;
          descrs = d.descrs;
          arrays = omega arith;
          entries = λ other. entries_after c.arrays (home_number c home) (kind_in kind) (length_allowed len) len other (d.entries other) fits refl;
          widths = all_push (λ (a : ArrayDecl). HasWidths a.kind) c.arrays new d.widths (kind_widths kind wide);
        };
        descr_names = s.sound.descr_names;
        array_names = let before = s.sound.array_names in omega arith;
        names = record {
          descrs = s.sound.names.descrs;
          arrays = all_push IsDeclaredName c.names.arrays name s.sound.names.arrays named_so;
          distinct = distinct_array c.names name s.sound.names.distinct new_name;
        };
        rules = s.sound.rules;
        few_tasks = s.sound.few_tasks;
        few_calls = s.sound.few_calls;
        valid = no_calls (record { descrs = c.descrs; arrays = c.arrays ++ new ∷ [] }) c.tasks untasked;
      };
      counted = s.counted;
    }

-- other tasks under the same declarations
with_tasks : (c : Context) (tasks : List (List Call)) (calls : ℕ) → IsSoundContext c → length tasks ≤ 64 → sum_by (λ (t : List Call). length t) tasks ≡ calls → calls ≤ 1024
    → AreCalls (record { descrs = c.descrs; arrays = c.arrays }) tasks → IsSoundContext (record c { tasks = tasks; calls = calls })
with_tasks c tasks calls s few counted most valid = record {
  version = s.version;
  sound = record {
    declared = s.sound.declared;
    descr_names = s.sound.descr_names;
    array_names = s.sound.array_names;
    names = s.sound.names;
    rules = s.sound.rules;
    few_tasks = few;
    few_calls = omega arith;
    valid = valid;
  };
  counted = counted;
}

-- a further task
task_after : (c : Context) → IsSoundContext c → nat_le 64 (length c.tasks) ≡ false → IsSoundContext (with_task c)
task_after c s few =
    let room = leb-false 64 (length c.tasks) few in
    let longer = length-append c.tasks ([] ∷ []) in
    let whole = sum_by-append (λ (t : List Call). length t) c.tasks ([] ∷ []) in
    let counted : sum_by (λ (t : List Call). length t) c.tasks ≡ c.calls = s.counted in
    let most : sum_by (λ (t : List Call). length t) c.tasks ≤ 1024 = s.sound.few_calls in
    with_tasks c (c.tasks ++ [] ∷ []) c.calls s (omega arith) (omega arith) (omega arith) (all_push (AllByRecursion (IsCall (record { descrs = c.descrs; arrays = c.arrays }))) c.tasks [] s.sound.valid tt)

-- a call more of the last task
length-with_call : (tasks : List (List Call)) (call : Call) → length (with_call tasks call) ≡ length tasks
length-with_call [] call = refl
length-with_call (t ∷ []) call = refl
length-with_call (t ∷ u ∷ ts) call = ap (λ n. suc n) (length-with_call (u ∷ ts) call)

sum-with_call : (tasks : List (List Call)) (call : Call) → nat_lt 0 (length tasks) ≡ true → sum_by (λ (t : List Call). length t) (with_call tasks call) ≡ sum_by (λ (t : List Call). length t) tasks + 1
sum-with_call [] call e = cc
sum-with_call (t ∷ []) call e = let longer = length-append t (call ∷ []) in omega arith
sum-with_call (t ∷ u ∷ ts) call e =
    let ih = sum-with_call (u ∷ ts) call (lt-ltb 0 (length (u ∷ ts)) (omega arith)) in
    let before = sum_by-append (λ (t : List Call). length t) (t ∷ []) (u ∷ ts) in
    let after = sum_by-append (λ (t : List Call). length t) (t ∷ []) (with_call (u ∷ ts) call) in
    omega arith

calls-with_call : (d : Declared) (tasks : List (List Call)) (call : Call) → AreCalls d tasks → IsCall d call → AreCalls d (with_call tasks call)
calls-with_call d [] call a h = tt
calls-with_call d (t ∷ []) call a h = (all_push (IsCall d) t call a.0 h, tt)
calls-with_call d (t ∷ u ∷ ts) call a h = (a.0, calls-with_call d (u ∷ ts) call a.1 h)

call_after : (c : Context) (call : Call) → IsSoundContext c → not (nat_lt 0 (length c.tasks)) ≡ false → nat_le 1024 c.calls ≡ false → IsCall (record { descrs = c.descrs; arrays = c.arrays }) call → IsSoundContext (with_last c call)
call_after c call s tasked few valid =
    let room = leb-false 1024 c.calls few in
    let longer = length-with_call c.tasks call in
    let whole = sum-with_call c.tasks call (not-false (nat_lt 0 (length c.tasks)) tasked) in
    let counted : sum_by (λ (t : List Call). length t) c.tasks ≡ c.calls = s.counted in
    let tasks_before = s.sound.few_tasks in
    with_tasks c (with_call c.tasks call) (c.calls + 1) s (omega arith) (omega arith) (omega arith) (calls-with_call (record { descrs = c.descrs; arrays = c.arrays }) c.tasks call s.sound.valid valid)

-- what it says of a statement that it has no fault
faultless : (c : Context) (s : Statement) → fault_of c s ≡ None → NoneOf (misplaced c s) (out_of_order c s) (misnamed c s) (over_limit c s) (bad_view c s) (bad_kind c s) (bad_lengths c s) (bad_rules c s) (bad_fill c s)
faultless c s e =
    none_of (misplaced c s) (out_of_order c s) (misnamed c s) (over_limit c s) (bad_view c s) (bad_kind c s) (bad_lengths c s) (bad_rules c s) (bad_fill c s)
    cause.Syntax cause.Order cause.Name cause.Limit cause.View cause.Kind cause.Lengths cause.Clash cause.Fill e

-- before the first line
pub sound_nothing : IsSoundContext nothing
unfolding IsDistinct
sound_nothing = record {
  version = inl refl;
  sound = record {
    declared = record { homes = tt; descrs = omega arith; arrays = omega arith; entries = λ home. omega arith; widths = tt };
    descr_names = refl;
    array_names = refl;
    names = record { descrs = tt; arrays = tt; distinct = tt };
    rules = tt;
    few_tasks = omega arith;
    few_calls = omega arith;
    valid = tt;
  };
  counted = refl;
}

adds_sound : (c : Context) (s : Statement) → IsSoundContext c → IsSpelled s → fault_of c s ≡ None → IsSoundContext (statement_adds c s)
adds_sound c statement.Version s spelled e = record { version = inr refl; sound = s.sound; counted = s.counted }
adds_sound c (statement.Descr name rule coerce) s spelled e =
    let none = faultless c (statement.Descr name rule coerce) e in
    let order = or_parts c.ended (nat_lt 0 (length c.tasks)) none.second in
    let limit = or_parts (is_long name || is_none rule) (nat_le 8 (length c.descrs)) none.fourth in
    let short = or_parts (is_long name) (is_none rule) limit.0 in
    descr_after c name (unwrap_or rule Absent) coerce s (declared_name name spelled.0 short.0) none.third (given_rule rule spelled.1) order.1 limit.1
adds_sound c (statement.Array name home kind len) s spelled e =
    let none = faultless c (statement.Array name home kind len) e in
    let order = or_parts c.ended (nat_lt 0 (length c.tasks)) none.second in
    let names = or_parts (is_known c.names name) (is_none (descr_number c home)) none.third in
    let limit = or_parts ((is_long name || nat_le 64 (length c.arrays)) || kind_passes kind) (passes_entries (entries_of c.arrays (home_number c home)) len) none.fourth in
    let shape = or_parts (is_long name || nat_le 64 (length c.arrays)) (kind_passes kind) limit.0 in
    let few = or_parts (is_long name) (nat_le 64 (length c.arrays)) shape.0 in
    array_after c name home kind len s (declared_name name spelled few.0) names.0 order.1 few.1 names.1 shape.1 limit.1
adds_sound c statement.Task s spelled e = let none = faultless c statement.Task e in task_after c s none.fourth
adds_sound c (statement.Call l) s spelled e =
    let none = faultless c (statement.Call l) e in
    let order = or_parts c.ended (not (nat_lt 0 (length c.tasks))) none.second in
    let limit = or_parts (line_passes l) (nat_le 1024 c.calls) none.fourth in
    let kinds = or_parts (line_miskinded l) (not (call_kinds_fit (declared_in c) (call_in c l))) none.sixth in
    call_after c (call_in c l) s order.1 limit.1
    (line-valid c l s spelled none.third limit.0 none.fifth (not-false (call_kinds_fit (declared_in c) (call_in c l)) kinds.1)
    (not-false (lengths_fit (call_in c l)) none.seventh) (not-false (rules_fit (declared_in c) (call_in c l)) none.eighth))
adds_sound c statement.End s spelled e = record { version = s.version; sound = s.sound; counted = s.counted }

pub sound_after : (c : Context) (s : Statement) → IsSoundContext c → IsSpelled s → fault_of c s ≡ None → IsSoundContext (context_after c s)
sound_after c s sound spelled e = let after = adds_sound c s sound spelled e in record { version = after.version; sound = after.sound; counted = after.counted }
