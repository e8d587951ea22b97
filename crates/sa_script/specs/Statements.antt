-- The statements of a script, each by the spelling of its tokens alone. Calls are read by the table of calls.
use Rattle.std.specs.Prelude.{ℕ, ℤ, Bool, true, false, List, [], ◌∷◌, ◌++◌, map, Option, Some, None, option_map, if◌then◌else◌, codes}
use Rattle.sa_lines.specs.Options.{◌>>=◌}
use Rattle.sa_lines.specs.Numbers.{number_of}
use Rattle.sa_lines.specs.Tokens.{is_word}
use Rattle.sa_descr.specs.declared.descr.NaRule.{NaRule}
use Rattle.sa_descr.specs.declared.descr.NaRule.TheVariants.{Absent, Nan, Other, Txt}
use Rattle.sa_plain.specs.declared.items.Items.{Items}
use Rattle.sa_plain.specs.declared.items.Items.TheVariants.{Ints}
use Rattle.sa_call.specs.declared.call.Op.{Op}
use Rattle.sa_call.specs.declared.form.Sort.{Sort}
use Rattle.sa_call.specs.declared.form.Sort.TheVariants as sort
use Rattle.sa_call.specs.declared.form.Into.{Into}
use Rattle.sa_call.specs.declared.form.Into.TheVariants as into
use Rattle.sa_call.specs.Forms.{entry, op_of}
use Rattle.sa_script.specs.Items.{text_token, list_of}
use Rattle.sa_script.specs.Names.{name_of}
use Rattle.sa_script.specs.Views.{view_of}
use Rattle.sa_script.specs.declared.statement.ViewTerm.{ViewTerm}
use Rattle.sa_script.specs.declared.statement.Term.{Term}
use Rattle.sa_script.specs.declared.statement.Term.TheVariants as term
use Rattle.sa_script.specs.declared.statement.KindTerm.{KindTerm}
use Rattle.sa_script.specs.declared.statement.KindTerm.TheVariants as kinds
use Rattle.sa_script.specs.declared.statement.Statement.{Statement}
use Rattle.sa_script.specs.declared.statement.Statement.TheVariants.{Version, Descr, Array, Task, Call, End}

-- the text of a text rule, and the tokens after it
abbrev pub text_rule_of : List (List ℕ) → Option (Option NaRule × List (List ℕ))
text_rule_of [] = None
text_rule_of (t ∷ ts) = text_token t >>= λ text. Some (option_map Txt text, ts)

-- a rule of missing values, none inside where its text is too long, and the tokens after it
abbrev pub rule_of : List (List ℕ) → Option (Option NaRule × List (List ℕ))
rule_of [] = None
rule_of (t ∷ ts) =
    if is_word (codes "absent") t then Some (Some Absent, ts)
    else (if is_word (codes "nan") t then Some (Some Nan, ts)
    else (if is_word (codes "other") t then Some (Some Other, ts)
    else (if is_word (codes "text") t then text_rule_of ts
    else None)))

-- nothing, coerce or strict
abbrev pub coerce_of : List (List ℕ) → Option Bool
coerce_of [] = Some true
coerce_of (t ∷ []) = if is_word (codes "coerce") t then Some true else (if is_word (codes "strict") t then Some false else None)
coerce_of (t ∷ u ∷ ts) = None

-- what follows descr: a name, a rule, and whether the descriptor coerces
abbrev pub descr_of : List (List ℕ) → Option Statement
descr_of [] = None
descr_of (n ∷ ts) = name_of n >>= λ name. rule_of ts >>= λ r. coerce_of r.1 >>= λ coerce. Some (Descr name r.0 coerce)

-- a kind without a width, and one with a width
abbrev pub kind_alone : List ℕ → Option KindTerm
kind_alone k =
    if is_word (codes "str") k then Some kinds.Str
    else (if is_word (codes "int") k then Some kinds.Int
    else (if is_word (codes "bool") k then Some kinds.Bool else None))

abbrev pub kind_wide : List ℕ → Option ℤ → Option KindTerm
kind_wide k width =
    if is_word (codes "bytes") k then Some (kinds.Bytes width)
    else (if is_word (codes "fixed") k then Some (kinds.Fixed width) else None)

-- a kind, its width where it has one, and a length; none inside in place of a number that is no i64
abbrev pub shape_of : List (List ℕ) → Option (KindTerm × Option ℤ)
shape_of [] = None
shape_of (k ∷ []) = None
shape_of (k ∷ n ∷ []) = kind_alone k >>= λ kind. number_of n >>= λ len. Some (kind, len)
shape_of (k ∷ w ∷ n ∷ []) = number_of w >>= λ width. kind_wide k width >>= λ kind. number_of n >>= λ len. Some (kind, len)
shape_of (k ∷ w ∷ n ∷ t ∷ ts) = None

-- what follows array: a name, the name of its home, its kind and its length
abbrev pub array_of : List (List ℕ) → Option Statement
array_of [] = None
array_of (n ∷ []) = None
array_of (n ∷ d ∷ ts) = name_of n >>= λ name. name_of d >>= λ home. shape_of ts >>= λ shape. Some (Array name home shape.0 shape.1)

-- what follows version: the number 2, spelled so
abbrev pub version_of : List (List ℕ) → Option Statement
version_of [] = None
version_of (t ∷ []) = if is_word (codes "2") t then Some Version else None
version_of (t ∷ u ∷ ts) = None

-- a statement of one word alone
abbrev pub alone : Statement → List (List ℕ) → Option Statement
alone s [] = Some s
alone s (t ∷ ts) = None

-- a token that is a list, or else a view
abbrev pub list_or_view : Option (Option Items) → List ℕ → Option Term
list_or_view None t = option_map (λ v. term.View v) (view_of t)
list_or_view (Some items) t = Some (term.List items)

-- a token as an operand of this sort
abbrev pub term_of : Sort → List ℕ → Option Term
term_of sort.View t = option_map (λ v. term.View v) (view_of t)
term_of sort.Literal t = option_map (λ items. term.List items) (list_of t)
term_of sort.Texts t = list_or_view (list_of t) t
term_of sort.Numbers t = list_or_view (list_of t) t
term_of sort.Fill t = option_map (λ items. term.Fill items) (list_of t)
term_of sort.Descr t = option_map (λ name. term.Descr name) (name_of t)

-- operands of these sorts, and the tokens after them
abbrev pub terms_of : List Sort → List (List ℕ) → Option (List Term × List (List ℕ))
terms_of [] ts = Some ([], ts)
terms_of (s ∷ ss) [] = None
terms_of (s ∷ ss) (t ∷ ts) = term_of s t >>= λ term. terms_of ss ts >>= λ r. Some (term ∷ r.0, r.1)

-- no token is left, or the word into comes next
abbrev pub is_over : List (List ℕ) → Bool
is_over [] = true
is_over (t ∷ ts) = is_word (codes "into") t

-- numbers that stand for operands that are left out: a list of one each
abbrev pub left_out : List ℤ → List Term
left_out numbers = map (λ n. term.List (Some (Ints (n ∷ [])))) numbers

-- operands of these sorts, or these numbers where no token is left or the word into comes next; and the tokens after them
abbrev pub others_of : List Sort → List ℤ → List (List ℕ) → Option (List Term × List (List ℕ))
others_of ss numbers ts = if is_over ts then Some (left_out numbers, ts) else terms_of ss ts

-- these terms in front of those that were read
abbrev pub behind_terms : List Term → Option (List Term × List (List ℕ)) → Option (List Term × List (List ℕ))
behind_terms terms read = option_map (λ r. (terms ++ r.0, r.1)) read

-- the operands of a call, with or without those that may be left out, and the tokens after them
abbrev pub operands_of : Op → List (List ℕ) → Option (List Term × List (List ℕ))
operands_of op ts = terms_of (entry op).needs ts >>= λ r. behind_terms r.0 (others_of (entry op).may (entry op).defaults r.1)

-- an output in front of the operands, and the tokens after it
abbrev pub front_of : Into → List (List ℕ) → Option (Option ViewTerm × List (List ℕ))
front_of into.Never ts = Some (None, ts)
front_of into.May ts = Some (None, ts)
front_of into.Must ts = Some (None, ts)
front_of into.First [] = None
front_of into.First (t ∷ ts) = view_of t >>= λ v. Some (Some v, ts)

-- the word into and an output, and nothing behind it
abbrev pub into_of : List (List ℕ) → Option (Option ViewTerm)
into_of [] = None
into_of (w ∷ []) = None
into_of (w ∷ v ∷ []) = if is_word (codes "into") w then option_map (λ out. Some out) (view_of v) else None
into_of (w ∷ v ∷ t ∷ ts) = None

abbrev pub nothing_behind : {A : Type 0} → A → List (List ℕ) → Option A
nothing_behind x [] = Some x
nothing_behind x (t ∷ ts) = None

-- nothing, or the word into and an output
abbrev pub may_into : List (List ℕ) → Option (Option ViewTerm)
may_into [] = Some None
may_into (t ∷ ts) = into_of (t ∷ ts)

-- an output behind the operands, where it stands there, and nothing else
abbrev pub behind_of : Into → Option ViewTerm → List (List ℕ) → Option (Option ViewTerm)
behind_of into.Never front ts = nothing_behind front ts
behind_of into.First front ts = nothing_behind front ts
behind_of into.May front ts = may_into ts
behind_of into.Must front ts = into_of ts

-- what follows a call's word, by its entry in the table
abbrev pub call_of : Op → List (List ℕ) → Option Statement
call_of op ts =
    front_of (entry op).into ts >>= λ f. operands_of op f.1 >>= λ r.
    behind_of (entry op).into f.0 r.1 >>= λ out. Some (Call (record { op = op; operands = r.0; out = out }))

-- the statement that the tokens of a line spell
abbrev pub statement_of : List (List ℕ) → Option Statement
statement_of [] = None
statement_of (w ∷ ts) =
    if is_word (codes "version") w then version_of ts
    else (if is_word (codes "descr") w then descr_of ts
    else (if is_word (codes "array") w then array_of ts
    else (if is_word (codes "task") w then alone Task ts
    else (if is_word (codes "end") w then alone End ts
    else (op_of w >>= λ op. call_of op ts)))))
