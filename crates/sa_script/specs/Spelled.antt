-- What holds of a statement that tokens spell: its names are names, its texts are texts, and a call's line has what the table asks for.
use Rattle.std.specs.Prelude.{◌≡◌, ◌⊎◌, Bool, true, List, [], ◌∷◌, ◌++◌, Option, Some, is_some, is_none}
use Rattle.std.specs.Option.{IfSome}
use Rattle.sa_plain.specs.declared.items.Items.{Items}
use Rattle.sa_call.specs.declared.form.Sort.{Sort}
use Rattle.sa_call.specs.declared.form.Sort.TheVariants as sort
use Rattle.sa_call.specs.declared.form.Into.{Into}
use Rattle.sa_call.specs.declared.form.Into.TheVariants as into
use Rattle.sa_call.specs.Forms.{entry}
use Rattle.sa_call.specs.declared.call.Op.{Op}
use Rattle.sa_call.specs.Valid.{IsLiteral, is_empty}
use Rattle.sa_script.specs.declared.statement.ViewTerm.{ViewTerm}
use Rattle.sa_script.specs.declared.statement.Term.{Term}
use Rattle.sa_script.specs.declared.statement.Term.TheVariants as term
use Rattle.sa_script.specs.declared.statement.Line.{Line}
use Rattle.sa_script.specs.declared.statement.Statement.{Statement}
use Rattle.sa_script.specs.declared.statement.Statement.TheVariants as statement
use Rattle.sa_script.specs.Names.{name_of}
use Rattle.sa_script.specs.Sound.{IsRule}

-- a list that passes no limit is a literal
abbrev pub IsList : Option Items → Type 0
IsList items = IfSome items (λ (given : Items). IsLiteral given)

-- an operand of this sort
abbrev pub IsTerm : Sort → Term → Type 0
IsTerm sort.View (term.View v) = Unit {0}
IsTerm sort.View (term.List items) = ⊥
IsTerm sort.View (term.Fill items) = ⊥
IsTerm sort.View (term.Descr name) = ⊥
IsTerm sort.Literal (term.View v) = ⊥
IsTerm sort.Literal (term.List items) = IsList items
IsTerm sort.Literal (term.Fill items) = ⊥
IsTerm sort.Literal (term.Descr name) = ⊥
IsTerm sort.Texts (term.View v) = Unit {0}
IsTerm sort.Texts (term.List items) = IsList items
IsTerm sort.Texts (term.Fill items) = ⊥
IsTerm sort.Texts (term.Descr name) = ⊥
IsTerm sort.Numbers (term.View v) = Unit {0}
IsTerm sort.Numbers (term.List items) = IsList items
IsTerm sort.Numbers (term.Fill items) = ⊥
IsTerm sort.Numbers (term.Descr name) = ⊥
IsTerm sort.Fill (term.View v) = ⊥
IsTerm sort.Fill (term.List items) = ⊥
IsTerm sort.Fill (term.Fill items) = Unit {0}
IsTerm sort.Fill (term.Descr name) = ⊥
IsTerm sort.Descr (term.View v) = ⊥
IsTerm sort.Descr (term.List items) = ⊥
IsTerm sort.Descr (term.Fill items) = ⊥
IsTerm sort.Descr (term.Descr name) = Unit {0}

abbrev pub AreTerms : List Sort → List Term → Type 0
AreTerms [] [] = Unit {0}
AreTerms [] (t ∷ ts) = ⊥
AreTerms (s ∷ ss) [] = ⊥
AreTerms (s ∷ ss) (t ∷ ts) = IsTerm s t × AreTerms ss ts

-- an output stands where it must, and none where it never does
abbrev pub output_given : Into → Option ViewTerm → Bool
output_given into.Never out = is_none out
output_given into.May out = true
output_given into.Must out = is_some out
output_given into.First out = is_some out

-- all operands of a call; or, where no numbers stand for those that may be left out, the others alone
abbrev pub AreTermsOf : Op → List Term → Type 0
AreTermsOf op terms = ((is_empty (entry op).defaults ≡ true) × AreTerms (entry op).needs terms) ⊎ AreTerms ((entry op).needs ++ (entry op).may) terms

-- a line has the operands of its call
pub record IsLine (l : Line) : Type 0 where
  pub terms : AreTermsOf l.op l.operands
  pub output : output_given (entry l.op).into l.out ≡ true

abbrev pub IsSpelled : Statement → Type 0
IsSpelled statement.Version = Unit {0}
IsSpelled (statement.Descr name rule coerce) = (name_of name ≡ Some name) × IfSome rule IsRule
IsSpelled (statement.Array name home kind len) = name_of name ≡ Some name
IsSpelled statement.Task = Unit {0}
IsSpelled (statement.Call l) = IsLine l
IsSpelled statement.End = Unit {0}
