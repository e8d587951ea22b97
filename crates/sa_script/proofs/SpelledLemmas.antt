-- What a line spells: its names are names, its texts are texts, and its list is a literal where it passes no limit.
use Rattle.std.proofs.Common.{◌≡◌, inl, inr, ℕ, ℤ, Bool, true, false, cond, ◌&&◌, not, eqb, List, [], ◌∷◌, ◌++◌, map, Option, Some, None, option_map, is_some, is_none, Result, Ok, Err, codes, refl, sym, ap, subst, ◌∙◌, arith, append-nil}
use Rattle.std.specs.Option.{IfSome}
use Rattle.std.proofs.lemmas.Option.{same_Some}
use Rattle.sa_lines.specs.Options.{◌>>=◌}
use Rattle.sa_lines.specs.Quotes.{quoted_at}
use Rattle.sa_lines.specs.Tokens.{is_word}
use Rattle.sa_text.specs.Texts.{text_of, IsText}
use Rattle.sa_text.specs.Values.{IsTextValue}
use Rattle.sa_text.specs.declared.text_error.TextError.{TextError}
use Rattle.sa_text.specs.declared.text_error.TextError.TheVariants as errors
use Rattle.sa_text.specs.declared.value.Value.{Value}
use Rattle.sa_text.specs.declared.value.Value.TheVariants.{Missing}
use Rattle.sa_plain.specs.declared.items.Items.{Items}
use Rattle.sa_plain.specs.declared.items.Items.TheVariants.{Values, Ints, Flags, Bytes, Units}
use Rattle.sa_text.proofs.TextLemmas.{text_of-text}
use Rattle.sa_descr.specs.declared.descr.NaRule.{NaRule}
use Rattle.sa_descr.specs.declared.descr.NaRule.TheVariants.{Absent, Nan, Other, Txt}
use Rattle.sa_script.specs.declared.statement.Statement.{Statement}
use Rattle.sa_script.specs.declared.statement.Statement.TheVariants as statement
use Rattle.sa_script.specs.declared.item_kind.ItemKind.{ItemKind}
use Rattle.sa_script.specs.declared.item_kind.ItemKind.TheVariants as kinds
use Rattle.sa_script.specs.Items.{fitting, text_at, nothing_left, text_token, of_text, missing_at, item_at, number_at, flag_at, bytes_at, units_at, list_as, item_kind, list_of_kind, list_of}
use Rattle.sa_script.specs.Names.{name_of, is_name, is_reserved}
use Rattle.sa_script.specs.Sound.{IsRule}
use Rattle.sa_script.specs.Spelled.{IsList, IsTerm, AreTermsOf, AreTerms, output_given, IsSpelled}
use Rattle.sa_script.specs.Views.{view_of}
use Rattle.sa_call.specs.declared.call.Op.{Op}
use Rattle.sa_call.specs.declared.form.Sort.{Sort}
use Rattle.sa_call.specs.declared.form.Sort.TheVariants as sort
use Rattle.sa_call.specs.declared.form.Into.{Into}
use Rattle.sa_call.specs.declared.form.Into.TheVariants as into
use Rattle.sa_call.specs.Forms.{entry, op_of}
use Rattle.sa_call.specs.Valid.{is_empty}
use Rattle.sa_call.proofs.OpLemmas.{has-defaults}
use Rattle.sa_script.specs.declared.statement.ViewTerm.{ViewTerm}
use Rattle.sa_script.specs.declared.statement.Term.{Term}
use Rattle.sa_script.specs.declared.statement.Term.TheVariants as term
use Rattle.sa_script.specs.Statements.{text_rule_of, rule_of, coerce_of, descr_of, shape_of, array_of, version_of, call_of, front_of, term_of, terms_of, is_over, left_out, behind_terms, operands_of, list_or_view, into_of, nothing_behind, behind_of, alone, statement_of}
use Rattle.sa_script.proofs.RunLemmas.{bound, chosen, nothing_left_is, IsReadList, Reads, read_list, IsAny, any_read}

-- names
name_again : (token name : List ℕ) (b : Bool) → name_of token ≡ cond b (Some token) None → cond b (Some token) None ≡ Some name → name_of name ≡ Some name
name_again token name false is e = cc
name_again token name true is e = let same = same_Some token name e in subst (λ n. name_of n ≡ Some n) same is

name_spelled : (token name : List ℕ) → name_of token ≡ Some name → name_of name ≡ Some name
name_spelled token name e = name_again token name (is_name token && not (is_reserved token)) refl e

-- texts
fitting_text : (read : Result (List ℕ) TextError) (text : Option (List ℕ)) (P : List ℕ → Type 0) → ((t : List ℕ) → read ≡ Ok t → P t) → fitting read ≡ Some text → IfSome text P
fitting_text (Ok t) text P all e = subst (λ o. IfSome o P) (same_Some (Some t) text e) (all t refl)
fitting_text (Err errors.TooLong) text P all e = subst (λ o. IfSome o P) (same_Some None text e) tt
fitting_text (Err errors.NotUtf8) text P all e = cc
fitting_text (Err errors.Memory) text P all e = cc

text_at_text : (bs : List ℕ) (t : Option (List ℕ) × List ℕ) → text_at bs ≡ Some t → IfSome t.0 IsText
text_at_text bs t e =
    let q = bound (quoted_at bs) _ t e in
    let f = bound (fitting (text_of q.value.0)) _ t q.then in
    let is = fitting_text (text_of q.value.0) f.value IsText (λ text read. text_of-text q.value.0 text read) f.first in
    subst (λ (x : Option (List ℕ) × List ℕ). IfSome x.0 IsText) (same_Some _ t f.then) is

text_token_text : (token : List ℕ) (text : Option (List ℕ)) → text_token token ≡ Some text → IfSome text IsText
text_token_text token text e =
    let t = bound (text_at token) nothing_left text e in
    subst (λ o. IfSome o IsText) (nothing_left_is t.value.0 t.value.1 text t.then) (text_at_text token t.value t.first)

-- items
of_text_value : (text : Option (List ℕ)) → IfSome text IsText → IfSome (of_text text) IsTextValue
of_text_value None is = tt
of_text_value (Some text) is = is

missing_value : (bs : List ℕ) (i : Option Value × List ℕ) → missing_at bs ≡ Some i → IfSome i.0 IsTextValue
missing_value [] i e = cc
missing_value (b ∷ bs) i e =
    chosen (eqb b 97) (Some (Some Missing, bs)) None i (λ (x : Option Value × List ℕ). IfSome x.0 IsTextValue)
    (λ f. subst (λ (x : Option Value × List ℕ). IfSome x.0 IsTextValue) (same_Some _ i f) tt) (λ f. cc) e

item_value : (bs : List ℕ) (i : Option Value × List ℕ) → item_at bs ≡ Some i → IfSome i.0 IsTextValue
item_value [] i e = cc
item_value (b ∷ bs) i e =
    chosen (eqb b 110) (missing_at bs) (text_at (b ∷ bs) >>= λ t. Some (of_text t.0, t.1)) i (λ (x : Option Value × List ℕ). IfSome x.0 IsTextValue)
    (λ f. missing_value bs i f)
    (λ f.
    let t = bound (text_at (b ∷ bs)) _ i f in
    subst (λ (x : Option Value × List ℕ). IfSome x.0 IsTextValue) (same_Some _ i t.then) (of_text_value t.value.0 (text_at_text (b ∷ bs) t.value t.first)))
    e

-- lists
value_literal : (values : Option (List Value)) → IsReadList IsTextValue values → IsList (option_map Values values)
value_literal None is = tt
value_literal (Some values) is = record { some = is.some; few = is.few; texts = is.all }

number_literal : (numbers : Option (List ℤ)) → IsReadList IsAny numbers → IsList (option_map Ints numbers)
number_literal None is = tt
number_literal (Some numbers) is = record { some = is.some; few = is.few; texts = tt }

flag_literal : (flags : Option (List Bool)) → IsReadList IsAny flags → IsList (option_map Flags flags)
flag_literal None is = tt
flag_literal (Some flags) is = record { some = is.some; few = is.few; texts = tt }

bytes_literal : (rows : Option (List (List ℕ))) → IsReadList IsAny rows → IsList (option_map Bytes rows)
bytes_literal None is = tt
bytes_literal (Some rows) is = record { some = is.some; few = is.few; texts = tt }

units_literal : (rows : Option (List (List ℕ))) → IsReadList IsAny rows → IsList (option_map Units rows)
units_literal None is = tt
units_literal (Some rows) is = record { some = is.some; few = is.few; texts = tt }

-- a list of a kind, by how its items are read
list_read : {A : Type 0} (P : A → Type 0) (item : List ℕ → Option (Option A × List ℕ)) (made : List A → Items) (token : List ℕ) (items : Option Items)
    → Reads P item → ((found : Option (List A)) → IsReadList P found → IsList (option_map made found))
    → (o : Option (Option (List A))) → list_as item token ≡ o → option_map (λ found. option_map made found) o ≡ Some items → IsList items
list_read P item made token items reads literal None is e = cc
list_read P item made token items reads literal (Some found) is e = subst IsList (same_Some _ items e) (literal found (read_list P item token found reads is))

kind_spelled : (kind : ItemKind) (token : List ℕ) (items : Option Items) → list_of_kind kind token ≡ Some items → IsList items
kind_spelled kinds.Values token items e = list_read IsTextValue item_at Values token items item_value value_literal (list_as item_at token) refl e
kind_spelled kinds.Numbers token items e = list_read IsAny number_at Ints token items (any_read number_at) number_literal (list_as number_at token) refl e
kind_spelled kinds.Flags token items e = list_read IsAny flag_at Flags token items (any_read flag_at) flag_literal (list_as flag_at token) refl e
kind_spelled kinds.Bytes token items e = list_read IsAny bytes_at Bytes token items (any_read bytes_at) bytes_literal (list_as bytes_at token) refl e
kind_spelled kinds.Units token items e = list_read IsAny units_at Units token items (any_read units_at) units_literal (list_as units_at token) refl e

list_spelled : (token : List ℕ) (items : Option Items) → list_of token ≡ Some items → IsList items
list_spelled token items e = kind_spelled (item_kind token) token items e

-- rules
abbrev IsRead : Option NaRule × List (List ℕ) → Type 0
IsRead r = IfSome r.0 IsRule

txt_rule : (text : Option (List ℕ)) → IfSome text IsText → IfSome (option_map Txt text) IsRule
txt_rule None is = tt
txt_rule (Some text) is = is

text_rule_spelled : (ts : List (List ℕ)) (r : Option NaRule × List (List ℕ)) → text_rule_of ts ≡ Some r → IsRead r
text_rule_spelled [] r e = cc
text_rule_spelled (t ∷ ts) r e =
    let text = bound (text_token t) _ r e in
    subst IsRead (same_Some _ r text.then) (txt_rule text.value (text_token_text t text.value text.first))

rule_spelled : (ts : List (List ℕ)) (r : Option NaRule × List (List ℕ)) → rule_of ts ≡ Some r → IsRead r
rule_spelled [] r e = cc
rule_spelled (t ∷ ts) r e =
    chosen (is_word (codes "absent") t) (Some (Some Absent, ts)) _ r IsRead (λ f. subst IsRead (same_Some (Some Absent, ts) r f) tt)
    (chosen (is_word (codes "nan") t) (Some (Some Nan, ts)) _ r IsRead (λ f. subst IsRead (same_Some (Some Nan, ts) r f) tt)
    (chosen (is_word (codes "other") t) (Some (Some Other, ts)) _ r IsRead (λ f. subst IsRead (same_Some (Some Other, ts) r f) tt)
    (chosen (is_word (codes "text") t) (text_rule_of ts) None r IsRead (λ f. text_rule_spelled ts r f) (λ f. cc)))) e

-- statements
descr_spelled : (ts : List (List ℕ)) (s : Statement) → descr_of ts ≡ Some s → IsSpelled s
descr_spelled [] s e = cc
descr_spelled (n ∷ ts) s e =
    let name = bound (name_of n) _ s e in
    let rule = bound (rule_of ts) _ s name.then in
    let coerce = bound (coerce_of rule.value.1) _ s rule.then in
    subst IsSpelled (same_Some _ s coerce.then) (name_spelled n name.value name.first, rule_spelled ts rule.value rule.first)

array_spelled : (ts : List (List ℕ)) (s : Statement) → array_of ts ≡ Some s → IsSpelled s
array_spelled [] s e = cc
array_spelled (n ∷ []) s e = cc
array_spelled (n ∷ d ∷ ts) s e =
    let name = bound (name_of n) _ s e in
    let home = bound (name_of d) _ s name.then in
    let len = bound (shape_of ts) _ s home.then in
    subst IsSpelled (same_Some _ s len.then) (name_spelled n name.value name.first)

-- the line of a call
list_or_view_term : (sort : Sort) (token : List ℕ) (t : Term) → ((v : ViewTerm) → IsTerm sort (term.View v)) → ((items : Option Items) → IsList items → IsTerm sort (term.List items))
    → (o : Option (Option Items)) → list_of token ≡ o → list_or_view o token ≡ Some t → IsTerm sort t
list_or_view_term sort token t views lists (Some items) is e = subst (IsTerm sort) (same_Some _ t e) (lists items (list_spelled token items is))
list_or_view_term sort token t views lists None is e = go (view_of token) e
  where
    go : (o : Option ViewTerm) → option_map (λ v. term.View v) o ≡ Some t → IsTerm sort t
    go None e = cc
    go (Some v) e = subst (IsTerm sort) (same_Some _ t e) (views v)

is_term : (sort : Sort) (token : List ℕ) (t : Term) → term_of sort token ≡ Some t → IsTerm sort t
is_term sort.View token t e = go (view_of token) e
  where
    go : (o : Option ViewTerm) → option_map (λ v. term.View v) o ≡ Some t → IsTerm sort.View t
    go None e = cc
    go (Some v) e = subst (IsTerm sort.View) (same_Some _ t e) tt
is_term sort.Literal token t e = go (list_of token) refl e
  where
    go : (o : Option (Option Items)) → list_of token ≡ o → option_map (λ items. term.List items) o ≡ Some t → IsTerm sort.Literal t
    go None is e = cc
    go (Some items) is e = subst (IsTerm sort.Literal) (same_Some _ t e) (list_spelled token items is)
is_term sort.Texts token t e = list_or_view_term sort.Texts token t (λ v. tt) (λ items is. is) (list_of token) refl e
is_term sort.Numbers token t e = list_or_view_term sort.Numbers token t (λ v. tt) (λ items is. is) (list_of token) refl e
is_term sort.Fill token t e = go (list_of token) e
  where
    go : (o : Option (Option Items)) → option_map (λ items. term.Fill items) o ≡ Some t → IsTerm sort.Fill t
    go None e = cc
    go (Some items) e = subst (IsTerm sort.Fill) (same_Some _ t e) tt
is_term sort.Descr token t e = go (name_of token) e
  where
    go : (o : Option (List ℕ)) → option_map (λ name. term.Descr name) o ≡ Some t → IsTerm sort.Descr t
    go None e = cc
    go (Some name) e = subst (IsTerm sort.Descr) (same_Some _ t e) tt

are_terms : (sorts : List Sort) (ts : List (List ℕ)) (r : List Term × List (List ℕ)) → terms_of sorts ts ≡ Some r → AreTerms sorts r.0
are_terms [] ts r e = subst (λ (x : List Term × List (List ℕ)). AreTerms [] x.0) (same_Some _ r e) tt
are_terms (s ∷ ss) [] r e = cc
are_terms (s ∷ ss) (t ∷ ts) r e =
    let one = bound (term_of s t) _ r e in
    let more = bound (terms_of ss ts) _ r one.then in
    subst (λ (x : List Term × List (List ℕ)). AreTerms (s ∷ ss) x.0) (same_Some _ r more.then) (is_term s t one.value one.first, are_terms ss ts more.value more.first)

-- with or without the operands that may be left out
terms_append : (ss rs : List Sort) (ts us : List Term) → AreTerms ss ts → AreTerms rs us → AreTerms (ss ++ rs) (ts ++ us)
terms_append [] rs [] us are others = others
terms_append [] rs (t ∷ ts) us are others = elim are [ ]
terms_append (s ∷ ss) rs [] us are others = elim are [ ]
terms_append (s ∷ ss) rs (t ∷ ts) us are others = (are.0, terms_append ss rs ts us are.1 others)

-- numbers that stand for operands that are left out are operands
numbers_are : (ns : List ℤ) → AreTerms (map (λ n. sort.Numbers) ns) (left_out ns)
numbers_are [] = tt
numbers_are (n ∷ ns) = (record { some = omega arith; few = omega arith; texts = tt }, numbers_are ns)

defaults_are : (o : Op) (terms : List Term) → AreTerms (entry o).needs terms → AreTermsOf o (terms ++ left_out (entry o).defaults)
defaults_are o terms are =
    elim (has-defaults o) [
      | inl none ↦ inl (ap is_empty none, subst (AreTerms (entry o).needs) (sym (ap (λ ns. terms ++ left_out ns) none ∙ append-nil terms)) are)
      | inr numbers ↦ inr (terms_append (entry o).needs (entry o).may terms (left_out (entry o).defaults) are (subst (λ ss. AreTerms ss (left_out (entry o).defaults)) (sym numbers) (numbers_are (entry o).defaults)))
    ]

others_are : (o : Op) (terms : List Term) (b : Bool) (ts : List (List ℕ)) (r : List Term × List (List ℕ)) → AreTerms (entry o).needs terms
    → behind_terms terms (cond b (Some (left_out (entry o).defaults, ts)) (terms_of (entry o).may ts)) ≡ Some r → AreTermsOf o r.0
others_are o terms true ts r are e = subst (λ (x : List Term × List (List ℕ)). AreTermsOf o x.0) (same_Some _ r e) (defaults_are o terms are)
others_are o terms false ts r are e = go (terms_of (entry o).may ts) refl e
  where
    go : (read : Option (List Term × List (List ℕ))) → terms_of (entry o).may ts ≡ read → behind_terms terms read ≡ Some r → AreTermsOf o r.0
    go None is e = cc
    go (Some q) is e = inr (subst (λ (x : List Term × List (List ℕ)). AreTerms ((entry o).needs ++ (entry o).may) x.0) (same_Some _ r e) (terms_append (entry o).needs (entry o).may terms q.0 are (are_terms (entry o).may ts q is)))

operands_are : (o : Op) (ts : List (List ℕ)) (r : List Term × List (List ℕ)) → operands_of o ts ≡ Some r → AreTermsOf o r.0
operands_are o ts r e =
    let first = bound (terms_of (entry o).needs ts) _ r e in
    others_are o first.value.0 (is_over first.value.1) first.value.1 r (are_terms (entry o).needs ts first.value first.first) first.then

nothing_behind-is : (front out : Option ViewTerm) (ts : List (List ℕ)) → nothing_behind front ts ≡ Some out → front ≡ out
nothing_behind-is front out [] e = same_Some front out e
nothing_behind-is front out (t ∷ ts) e = cc

into_given : (ts : List (List ℕ)) (out : Option ViewTerm) → into_of ts ≡ Some out → is_some out ≡ true
into_given [] out e = cc
into_given (w ∷ []) out e = cc
into_given (w ∷ v ∷ []) out e = chosen (is_word (codes "into") w) (option_map (λ o. Some o) (view_of v)) None out (λ o. is_some o ≡ true) (λ f. go (view_of v) f) (λ f. cc) e
  where
    go : (o : Option ViewTerm) → option_map (λ o. Some o) o ≡ Some out → is_some out ≡ true
    go None f = cc
    go (Some view) f = subst (λ o. is_some o ≡ true) (same_Some _ out f) refl
into_given (w ∷ v ∷ t ∷ ts) out e = cc

output_is : (place : Into) (ts rest : List (List ℕ)) (f : Option ViewTerm × List (List ℕ)) (out : Option ViewTerm) → front_of place ts ≡ Some f → behind_of place f.0 rest ≡ Some out → output_given place out ≡ true
output_is into.Never ts rest f out first behind =
    let none = ap (λ (x : Option ViewTerm × List (List ℕ)). x.0) (same_Some _ f first) in
    subst (λ o. is_none o ≡ true) (none ∙ nothing_behind-is f.0 out rest behind) refl
output_is into.May ts rest f out first behind = refl
output_is into.Must ts rest f out first behind = into_given rest out behind
output_is into.First [] rest f out first behind = cc
output_is into.First (t ∷ ts) rest f out first behind =
    let v = bound (view_of t) _ f first in
    let some = ap (λ (x : Option ViewTerm × List (List ℕ)). x.0) (same_Some _ f v.then) in
    subst (λ o. is_some o ≡ true) (some ∙ nothing_behind-is f.0 out rest behind) refl

call_spelled : (op : Op) (ts : List (List ℕ)) (s : Statement) → call_of op ts ≡ Some s → IsSpelled s
call_spelled op ts s e =
    let f = bound (front_of (entry op).into ts) _ s e in
    let r = bound (operands_of op f.value.1) _ s f.then in
    let out = bound (behind_of (entry op).into f.value.0 r.value.1) _ s r.then in
    subst IsSpelled (same_Some _ s out.then) (record {
      terms = operands_are op f.value.1 r.value r.first;
      output = output_is (entry op).into ts r.value.1 f.value out.value f.first out.first;
    })

version_spelled : (ts : List (List ℕ)) (s : Statement) → version_of ts ≡ Some s → IsSpelled s
version_spelled [] s e = cc
version_spelled (t ∷ []) s e = chosen (is_word (codes "2") t) (Some statement.Version) None s IsSpelled (λ f. subst IsSpelled (same_Some _ s f) tt) (λ f. cc) e
version_spelled (t ∷ u ∷ ts) s e = cc

alone_spelled : (word : Statement) (ts : List (List ℕ)) (s : Statement) → IsSpelled word → alone word ts ≡ Some s → IsSpelled s
alone_spelled word [] s is e = subst IsSpelled (same_Some word s e) is
alone_spelled word (t ∷ ts) s is e = cc

pub statement_spelled : (tokens : List (List ℕ)) (s : Statement) → statement_of tokens ≡ Some s → IsSpelled s
statement_spelled [] s e = cc
statement_spelled (w ∷ ts) s e =
    chosen (is_word (codes "version") w) (version_of ts) _ s IsSpelled (λ f. version_spelled ts s f)
    (chosen (is_word (codes "descr") w) (descr_of ts) _ s IsSpelled (λ f. descr_spelled ts s f)
    (chosen (is_word (codes "array") w) (array_of ts) _ s IsSpelled (λ f. array_spelled ts s f)
    (chosen (is_word (codes "task") w) (alone statement.Task ts) _ s IsSpelled (λ f. alone_spelled statement.Task ts s tt f)
    (chosen (is_word (codes "end") w) (alone statement.End ts) _ s IsSpelled (λ f. alone_spelled statement.End ts s tt f)
    (λ f. let op = bound (op_of w) _ s f in call_spelled op.value ts s op.then))))) e
