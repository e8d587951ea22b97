-- The combination of the rules of a call, by the places that a search over its numbers finds.
use Rattle.std.proofs.Common.{◌≡◌, ℕ, Bool, List, [], ◌∷◌, map, get_or, position, Some, None, Ok, refl, sym, ap, ◌∙◌}
use Rattle.std.specs.List.{position_or_len}
use Rattle.std.proofs.lemmas.List.{get_or-map, length-map}
use Rattle.std.proofs.lemmas.List.Quantifiers.{position-Some}
use Rattle.sa_descr.specs.declared.descr.NaRule.{NaRule}
use Rattle.sa_descr.specs.declared.descr.NaRule.TheVariants.{Absent}
use Rattle.sa_descr.specs.declared.descr.Descr.{Descr}
use Rattle.sa_descr.specs.Rules.{is_given, clashes, rule_at, rules_of, chosen_or, chosen_at, combination}

-- a search over the images of a list
position_or_len-map : {X Y : Type 0} (p : Y → Bool) (f : X → Y) → (xs : List X) → position_or_len p (map f xs) ≡ position_or_len (λ x. p (f x)) xs
position_or_len-map p f [] = refl
position_or_len-map p f (x ∷ xs) = rw (position_or_len-map p f xs) refl

pub position-map : {X Y : Type 0} (p : Y → Bool) (f : X → Y) → (xs : List X) → position p (map f xs) ≡ position (λ x. p (f x)) xs
position-map p f xs = rw (position_or_len-map p f xs, length-map xs f) refl

-- the rules of the table's descriptors
abbrev pub table_rules : List Descr → List NaRule
table_rules table = map (λ d. d.na) table

pub combination-none : (table : List Descr) (numbers : List ℕ) → position (λ n. is_given (rule_at (table_rules table) n)) numbers ≡ None → combination (rules_of table numbers) ≡ Ok Absent
combination-none table numbers none =
    ap (chosen_at (rules_of table numbers)) (position-map is_given (rule_at (table_rules table)) numbers ∙ none)

pub combination-some : (table : List Descr) (numbers : List ℕ) (first : ℕ) (rule : NaRule) → position (λ n. is_given (rule_at (table_rules table) n)) numbers ≡ Some first → rule ≡ rule_at (table_rules table) (get_or numbers first 0) → combination (rules_of table numbers) ≡ chosen_or rule first (position (λ n. clashes rule (rule_at (table_rules table) n)) numbers)
combination-some table numbers first rule some is =
    let below = position-Some (λ n. is_given (rule_at (table_rules table) n)) numbers first 0 some in
    let there : rule_at (rules_of table numbers) first ≡ rule = get_or-map (rule_at (table_rules table)) numbers first 0 Absent below.0 ∙ sym is in
    ap (chosen_at (rules_of table numbers)) (position-map is_given (rule_at (table_rules table)) numbers ∙ some)
    ∙ rw there (ap (chosen_or rule first) (position-map (clashes rule) (rule_at (table_rules table)) numbers))
