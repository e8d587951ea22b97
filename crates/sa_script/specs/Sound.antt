-- What every script keeps: its limits, its names and texts, and that each of its calls is valid under its declarations.
use Rattle.std.specs.Prelude.{◌≡◌, ◌⊎◌, ◌≤◌, ℕ, List, ◌++◌, length, sum_by, Some}
use Rattle.std.specs.List.{AllByRecursion, IsDistinct}
use Rattle.std.specs.Str.{bytes_eq}
use Rattle.sa_text.specs.Texts.{IsText}
use Rattle.sa_descr.specs.declared.descr.Descr.{Descr}
use Rattle.sa_descr.specs.declared.descr.NaRule.{NaRule}
use Rattle.sa_descr.specs.declared.descr.NaRule.TheVariants as rule
use Rattle.sa_call.specs.declared.call.Call.{Call}
use Rattle.sa_call.specs.Decls.{Declared, IsDeclared}
use Rattle.sa_call.specs.Valid.{IsCall}
use Rattle.sa_script.specs.Limits.{most_tasks, most_calls, most_name_bytes}
use Rattle.sa_script.specs.Names.{Known, name_of}

-- the name of a declaration: it is spelled as a name, and no longer than one may be
pub record IsDeclaredName (name : List ℕ) : Type 0 where
  pub spelled : name_of name ≡ Some name
  pub short : length name ≤ most_name_bytes

-- names of descriptors and arrays, of which no two are the same
pub record AreNames (k : Known) : Type 0 where
  pub descrs : AllByRecursion IsDeclaredName k.descrs
  pub arrays : AllByRecursion IsDeclaredName k.arrays
  pub distinct : IsDistinct bytes_eq (k.descrs ++ k.arrays)

-- the text of a text rule is a text
abbrev pub IsRule : NaRule → Type 0
IsRule rule.Absent = Unit {0}
IsRule rule.Nan = Unit {0}
IsRule rule.Other = Unit {0}
IsRule (rule.Txt text) = IsText text

-- a descriptor of which the rule's text, if it has one, is a text
abbrev pub HasTextRule : Descr → Type 0
HasTextRule d = IsRule d.na

abbrev pub AreCalls : Declared → List (List Call) → Type 0
AreCalls d tasks = AllByRecursion (AllByRecursion (IsCall d)) tasks

-- the versions of scripts
abbrev pub IsVersion : ℕ → Type 0
IsVersion version = (version ≡ 1) ⊎ (version ≡ 2)

-- the declarations, the names and the calls of a script
pub record IsSound (d : Declared) (known : Known) (tasks : List (List Call)) : Type 0 where
  pub declared : IsDeclared d
  pub descr_names : length known.descrs ≡ length d.descrs
  pub array_names : length known.arrays ≡ length d.arrays
  pub names : AreNames known
  pub rules : AllByRecursion HasTextRule d.descrs
  pub few_tasks : length tasks ≤ most_tasks
  pub few_calls : sum_by length tasks ≤ most_calls
  pub valid : AreCalls d tasks
