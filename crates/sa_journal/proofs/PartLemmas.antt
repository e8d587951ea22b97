-- A list of ties that is taken apart.
use Rattle.std.proofs.Common.{◌≡◌, ◌+◌, ℕ, zero, suc, List, [], ◌∷◌, ◌++◌, length, map, All, refl, sym, ap, ◌∙◌, subst, arith, add-zero, zero-add, append_assoc, length-append}
use Rattle.std.proofs.lemmas.List.{append-nil, map-append}
use Rattle.std.proofs.lemmas.List.Elements.{All-head, All-tail}
use Rattle.std.specs.Prelude.{slice_get, Some}
use Rattle.boxcar.specs.Table.{Shelves}
use Rattle.sa_tie.specs.Ends.{End}
use Rattle.sa_tie.specs.Seated.{TableId}
use Rattle.sa_journal.specs.declared.tie.Tie.{Tie}
use Rattle.sa_journal.specs.Parties.{party_at}
use Rattle.sa_journal.specs.Chains.{Strand, Roomy, new_chains}
use Rattle.sa_journal.specs.Journals.{IsFresh, IsNew}
use Rattle.sa_journal.proofs.PartyLemmas.{seat_at}

module _ {D : Type 0} where
  -- Of some ties these are left; the others were taken apart into these near ends and chains.
  pub record IsParted (roll : Shelves) (descrs : ℕ) (ties rest : List Tie) (nears : List End) (chains : List (Roomy D)) : Type 0 where
    pub fresh : All IsFresh rest
    pub few : length nears + length rest ≡ length ties
    pub near : nears ++ map (λ t. t.near) rest ≡ map (λ t. t.near) ties
    pub chain : map (λ c. c.it) chains ++ new_chains roll descrs (length nears) (map (λ t. t.near.tie) rest) ≡ new_chains roll descrs 0 (map (λ t. t.near.tie) ties)

  module _ (roll : Shelves) (descrs : ℕ) (ties : List Tie) where
    pub part_begins : All IsFresh ties → IsParted roll descrs ties ties [] []
    part_begins fresh = record { fresh = fresh; few = omega arith; near = refl; chain = refl }

    module _ (rest : List Tie) (nears : List End) (chains : List (Roomy D)) where
      pub part_takes : (tie : Tie) (c : Roomy D) → IsParted roll descrs ties (tie ∷ rest) nears chains
          → c.it ≡ record { roll = roll; party = party_at descrs (length nears); tie = tie.far.tie; lines = [] }
          → IsParted roll descrs ties rest (nears ++ tie.near ∷ []) (chains ++ c ∷ [])
      part_takes tie c parted is =
          let fresh : IsFresh tie = All-head IsFresh tie rest parted.fresh in
          let longer : length (nears ++ tie.near ∷ []) ≡ suc (length nears) = omega (arith, length-append nears (tie.near ∷ [])) in
          let made : c.it ≡ record { roll = roll; party = party_at descrs (length nears); tie = tie.near.tie; lines = [] } =
          is ∙ (λ i. record { roll = roll; party = party_at descrs (length nears); tie = sym fresh.0 i; lines = [] }) in
          let left : length nears + suc (length rest) ≡ length ties = parted.few in record {
            fresh = All-tail IsFresh tie rest parted.fresh;
            few = omega (arith, longer, left);
            near = append_assoc nears (tie.near ∷ []) (map (λ (t : Tie). t.near) rest) ∙ parted.near;
            chain = ap (λ cs. cs ++ new_chains roll descrs (length (nears ++ tie.near ∷ [])) (map (λ (t : Tie). t.near.tie) rest)) (map-append (λ (x : Roomy D). x.it) chains (c ∷ []))
                ∙ append_assoc (map (λ (x : Roomy D). x.it) chains) (c.it ∷ []) (new_chains roll descrs (length (nears ++ tie.near ∷ [])) (map (λ (t : Tie). t.near.tie) rest))
                ∙ (λ i. map (λ (x : Roomy D). x.it) chains ++ made i ∷ new_chains roll descrs (longer i) (map (λ (t : Tie). t.near.tie) rest))
                ∙ parted.chain;
          }

      pub part_ends : IsParted roll descrs ties rest nears chains → rest ≡ []
          → (nears ≡ map (λ t. t.near) ties) × (map (λ c. c.it) chains ≡ new_chains roll descrs 0 (map (λ t. t.near.tie) ties))
      part_ends parted none = (
        sym (append-nil nears) ∙ ap (λ ts. nears ++ map (λ (t : Tie). t.near) ts) (sym none) ∙ parted.near,
        sym (append-nil (map (λ (x : Roomy D). x.it) chains))
            ∙ ap (λ ts. map (λ (x : Roomy D). x.it) chains ++ new_chains roll descrs (length nears) (map (λ (t : Tie). t.near.tie) ts)) (sym none) ∙ parted.chain,
      )

-- the chains of a new journal, one by one
module _ {D : Type 0} (roll : Shelves) (descrs : ℕ) where
  new_at : (seat : ℕ) (ts : List TableId) (cs : List (Roomy D)) (k : ℕ) (c : Roomy D) → map (λ x. x.it) cs ≡ new_chains roll descrs seat ts → slice_get cs k ≡ Some c
      → (t : TableId) × (slice_get ts k ≡ Some t) × (c.it ≡ record { roll = roll; party = party_at descrs (seat + k); tie = t; lines = [] })
  new_at seat ts [] k c e at = absurd (cc at)
  new_at seat [] (x ∷ xs) k c e at = absurd (cc e)
  new_at seat (t ∷ ts) (x ∷ xs) zero c e at =
      let here : x ≡ c = cc in
      let made : x.it ≡ record { roll = roll; party = party_at descrs seat; tie = t; lines = [] } = cc in
      (t, refl, ap (λ (y : Roomy D). y.it) (sym here) ∙ made ∙ (λ i. record { roll = roll; party = party_at descrs (sym (add-zero seat) i); tie = t; lines = [] }))
  new_at seat (t ∷ ts) (x ∷ xs) (suc k) c e at =
      let others : map (λ (y : Roomy D). y.it) xs ≡ new_chains roll descrs (suc seat) ts = cc in
      let rest = new_at (suc seat) ts xs k c others at in
      let place : suc seat + k ≡ seat + suc k = omega arith in
      (rest.0, rest.1, rest.2 ∙ (λ i. record { roll = roll; party = party_at descrs (place i); tie = rest.0; lines = [] }))

  -- there is one for each tie
  pub new_count : (seat : ℕ) (ts : List TableId) (cs : List (Roomy D)) → map (λ x. x.it) cs ≡ new_chains roll descrs seat ts → length cs ≡ length ts
  new_count seat [] [] e = refl
  new_count seat [] (x ∷ xs) e = absurd (cc e)
  new_count seat (t ∷ ts) [] e = absurd (cc e)
  new_count seat (t ∷ ts) (x ∷ xs) e = let others : map (λ (y : Roomy D). y.it) xs ≡ new_chains roll descrs (suc seat) ts = cc in ap suc (new_count (suc seat) ts xs others)

  -- and each is that of the party at its place
  pub new_each : (ts : List TableId) (cs : List (Roomy D)) → map (λ x. x.it) cs ≡ new_chains roll descrs 0 ts → (k : ℕ) (c : Roomy D) → slice_get cs k ≡ Some c → IsNew roll ts descrs k c.it
  new_each ts cs e k c at =
      let new = new_at 0 ts cs k c e at in
      let chain : c.it ≡ record { roll = roll; party = party_at descrs k; tie = new.0; lines = [] } =
      new.2 ∙ (λ i. record { roll = roll; party = party_at descrs (zero-add k i); tie = new.0; lines = [] }) in
      subst (λ (s : Strand D). IsNew roll ts descrs k s) (sym chain) ((refl, ap (slice_get ts) (seat_at descrs k) ∙ new.1), refl, refl)
