-- What the declaration lines of a sample declare.
use Rattle.std.proofs.Common.{◌≡◌, ℕ, true, false, List, [], ◌∷◌, Ok, refl, codes}
use Rattle.std.specs.Str.{chars, is_utf8}
use Rattle.std.proofs.Math.Utf8.{encode}
use Rattle.sa_descr.specs.declared.descr.Descr.{Descr}
use Rattle.sa_descr.specs.declared.descr.NaRule.TheVariants.{Absent, Nan}
use Rattle.sa_plain.specs.declared.kind.PlainKind.TheVariants as plain
use Rattle.sa_call.specs.declared.decls.ArrayDecl.{ArrayDecl}
use Rattle.sa_call.specs.declared.decls.Kind.TheVariants as kind
use Rattle.sa_call.specs.Decls.{Declared}
use Rattle.sa_call.specs.declared.call.Call.{Call}
use Rattle.sa_script.specs.declared.context.Context.{Context}
use Rattle.sa_script.specs.Contexts.{nothing}
use Rattle.sa_script.specs.Names.{Known}
use Rattle.sa_sample.specs.Samples.{declaration_lines}
use Rattle.sa_sample.proofs.RunLemmas.{run}

-- the descriptors, the arrays, and their names
abbrev pub descrs : List Descr
descrs = record { na = Absent; coerce = true } ∷ record { na = Nan; coerce = true } ∷ record { na = Absent; coerce = true } ∷ record { na = Nan; coerce = true } ∷ []

abbrev pub arrays : List ArrayDecl
arrays =
    record { home = 0; kind = kind.Str; len = 64 } ∷ record { home = 0; kind = kind.Plain plain.Int; len = 64 }
    ∷ record { home = 1; kind = kind.Str; len = 64 } ∷ record { home = 1; kind = kind.Plain plain.Int; len = 64 }
    ∷ record { home = 2; kind = kind.Str; len = 64 } ∷ record { home = 2; kind = kind.Plain plain.Int; len = 64 }
    ∷ record { home = 3; kind = kind.Str; len = 64 } ∷ record { home = 3; kind = kind.Plain plain.Int; len = 64 } ∷ []

abbrev pub known : Known
known = record {
  descrs = codes "d0" ∷ codes "d1" ∷ codes "d2" ∷ codes "d3" ∷ [];
  arrays = codes "a0" ∷ codes "n0" ∷ codes "a1" ∷ codes "n1" ∷ codes "a2" ∷ codes "n2" ∷ codes "a3" ∷ codes "n3" ∷ [];
}

abbrev pub declared : Declared
declared = record { descrs = descrs; arrays = arrays }

-- what is declared, with these tasks of so many calls
abbrev pub ready : List (List Call) → ℕ → Context
ready tasks calls = record { version = 1; begun = true; descrs = descrs; arrays = arrays; names = known; tasks = tasks; calls = calls; ended = false }

-- the declarations have no fault
pub declarations-run : run nothing declaration_lines ≡ Ok (ready [] 0)
unfolding is_utf8 chars encode
declarations-run = refl
