-- The operands of a line, sort by sort.
use Rattle.std.proofs.Common.{◌≡◌, ℕ, ℤ, ◌+◌, ◌<◌, List, [], ◌∷◌, ◌++◌, length, get_or, drop, Option, Some, None, option_map, option_and_then, true, false, refl, sym, ap, ◌∙◌, append_assoc}
use Rattle.std.proofs.lemmas.List.{at_drop_more}
use Rattle.std.proofs.lemmas.Option.{same_Some}
use Rattle.sa_call.specs.declared.call.Op.{Op}
use Rattle.sa_call.specs.declared.form.Sort.{Sort}
use Rattle.sa_call.specs.Forms.{entry}
use Rattle.sa_script.specs.declared.statement.Term.{Term}
use Rattle.sa_script.specs.Statements.{behind_terms, is_over, left_out, operands_of, others_of, term_of, terms_of}

pub terms-untold : (ss : List Sort) (k : ℕ) (ts : List (List ℕ)) (d : Sort) → k < length ss → ts ≡ [] → terms_of (drop k ss) ts ≡ None
terms-untold ss k ts d below none = at_drop_more (λ (l : List Sort). terms_of l ts) ss k d below ∙ rw none refl

pub terms-misspelled : (ss : List Sort) (k : ℕ) (ts rest : List (List ℕ)) (token : List ℕ) (d : Sort) → k < length ss → ts ≡ token ∷ rest → term_of (get_or ss k d) token ≡ None → terms_of (drop k ss) ts ≡ None
terms-misspelled ss k ts rest token d below cut none = at_drop_more (λ (l : List Sort). terms_of l ts) ss k d below ∙ rw (cut, none) refl

pub terms-more : (ss : List Sort) (k : ℕ) (ts rest : List (List ℕ)) (token : List ℕ) (d : Sort) (terms : List Term) (t : Term) → k < length ss → ts ≡ token ∷ rest → term_of (get_or ss k d) token ≡ Some t
    → behind_terms (terms ++ t ∷ []) (terms_of (drop (k + 1) ss) rest) ≡ behind_terms terms (terms_of (drop k ss) ts)
terms-more ss k ts rest token d terms t below cut read =
    let here : terms_of (drop k ss) ts ≡ option_map (λ r. (t ∷ r.0, r.1)) (terms_of (drop (k + 1) ss) rest) = at_drop_more (λ (l : List Sort). terms_of l ts) ss k d below ∙ rw (cut, read) (into (terms_of (drop (k + 1) ss) rest)) in
    moved (terms_of (drop (k + 1) ss) rest) ∙ ap (behind_terms terms) (sym here)
  where
    into : (o : Option (List Term × List (List ℕ))) → option_and_then {U = List Term × List (List ℕ)} (λ r. Some (t ∷ r.0, r.1)) o ≡ option_map (λ r. (t ∷ r.0, r.1)) o
    into None = refl
    into (Some r) = refl

    moved : (o : Option (List Term × List (List ℕ))) → behind_terms (terms ++ t ∷ []) o ≡ behind_terms terms (option_map (λ r. (t ∷ r.0, r.1)) o)
    moved None = refl
    moved (Some r) = rw append_assoc refl

-- the operands that may be left out, behind those that a call needs
pub operands-none : (o : Op) (ts : List (List ℕ)) → None ≡ behind_terms [] (terms_of (entry o).needs ts) → None ≡ operands_of o ts
operands-none o ts e = go (terms_of (entry o).needs ts) refl e
  where
    go : (r : Option (List Term × List (List ℕ))) → terms_of (entry o).needs ts ≡ r → None ≡ behind_terms [] r → None ≡ operands_of o ts
    go None is e = rw is refl
    go (Some r) is e = cc

pub operands-read : (o : Op) (ts rest : List (List ℕ)) (terms : List Term) → Some (terms, rest) ≡ behind_terms [] (terms_of (entry o).needs ts) → operands_of o ts ≡ behind_terms terms (others_of (entry o).may (entry o).defaults rest)
operands-read o ts rest terms e = go (terms_of (entry o).needs ts) refl e
  where
    go : (r : Option (List Term × List (List ℕ))) → terms_of (entry o).needs ts ≡ r → Some (terms, rest) ≡ behind_terms [] r → operands_of o ts ≡ behind_terms terms (others_of (entry o).may (entry o).defaults rest)
    go None is e = cc
    go (Some r) is e = let same : r ≡ (terms, rest) = sym (same_Some (terms, rest) r e) in rw (is, same) refl

pub others-over : (ss : List Sort) (ns : List ℤ) (ts : List (List ℕ)) (terms : List Term) → is_over ts ≡ true → behind_terms terms (others_of ss ns ts) ≡ Some (terms ++ left_out ns, ts)
others-over ss ns ts terms over = rw over refl

pub others-given : (ss : List Sort) (ns : List ℤ) (ts : List (List ℕ)) (terms : List Term) → is_over ts ≡ false → behind_terms terms (others_of ss ns ts) ≡ behind_terms terms (terms_of ss ts)
others-given ss ns ts terms more = rw more refl
