-- A journal and a chain with the keys of its party's lines, side by side.
use Rattle.std.proofs.Common.{◌≡◌, ◌<◌, ◌≤◌, ◌+◌, cond, ℕ, zero, suc, true, false, List, [], ◌∷◌, ◌++◌, length, take, drop, get_or, refl, sym, ap, ◌∙◌, arith}
use Rattle.std.proofs.lemmas.List.{append-nil, drop_more, take_more, drop_all, take_all, take-append-drop}
use Rattle.std.proofs.lemmas.List.Elements.{filter-append}
use Rattle.std.proofs.lemmas.Option.{slice_get_within, slice_get_read, get_or_from_slice_get}
use Rattle.std.specs.Prelude.{slice_get, Some, option_map}
use Rattle.boxcar.specs.Table.{Where}
use Rattle.sa_journal.specs.declared.line.Line.{Line}
use Rattle.sa_journal.specs.declared.party.Party.{Party}
use Rattle.sa_journal.specs.Said.{Said}
use Rattle.sa_journal.specs.Chains.{Keyed, keys_of, keyed, line_names, chain_of}
use Rattle.sa_journal.proofs.ListLemmas.{map_at}

module _ {X : Type 0} where
  -- a list from a place on, and up to it
  drop_here : (xs : List X) (k : ℕ) (x : X) → slice_get xs k ≡ Some x → drop k xs ≡ x ∷ drop (k + 1) xs
  drop_here xs k x at = drop_more xs k x (slice_get_within xs k x at) ∙ ap (λ y. y ∷ drop (k + 1) xs) (get_or_from_slice_get xs k x x at)

  take_here : (xs : List X) (k : ℕ) (x : X) → slice_get xs k ≡ Some x → take (k + 1) xs ≡ take k xs ++ x ∷ []
  take_here xs k x at = take_more xs k x (slice_get_within xs k x at) ∙ ap (λ y. take k xs ++ y ∷ []) (get_or_from_slice_get xs k x x at)

module _ {D : Type 0} where
  -- the first key of the rest of a list is that of the line at the place
  key_here : (lines : List (Keyed D)) (at key : ℕ) (keys : List ℕ) → keys_of (drop at lines) ≡ key ∷ keys → option_map (λ l. l.0) (slice_get lines at) ≡ Some key
  key_here [] zero key keys e = absurd (cc e)
  key_here [] (suc at) key keys e = absurd (cc e)
  key_here (l ∷ ls) zero key keys e = cc
  key_here (l ∷ ls) (suc at) key keys e = key_here ls at key keys e

  -- no key, no line
  no_line : (lines : List (Keyed D)) → keys_of lines ≡ [] → lines ≡ []
  no_line [] e = refl
  no_line (l ∷ ls) e = absurd (cc e)

module _ {D : Type 0} (said : D → Said) where
  -- Of the journal's lines i were passed, and of the chain's lines as many as name its party: these are equal, and the rest has the same keys.
  pub record IsWalked (party : Party) (chain lines : List (Keyed D)) (at i : ℕ) : Type 0 where
    pub few : at ≤ i
    pub passed : take at chain ≡ chain_of said party (take i lines)
    pub rest : keys_of (drop at chain) ≡ keys_of (chain_of said party (drop i lines))

  module _ (party : Party) (chain lines : List (Keyed D)) where
    pub walk_begins : keys_of chain ≡ keys_of (chain_of said party lines) → IsWalked party chain lines 0 0
    walk_begins keys = record { few = omega arith; passed = refl; rest = keys }

    module _ (at i : ℕ) (walked : IsWalked party chain lines at i) where
      module _ (line : Keyed D) (here : slice_get lines i ≡ Some line) where
        chosen : chain_of said party (drop i lines) ≡ cond (line_names said party line) (line ∷ chain_of said party (drop (i + 1) lines)) (chain_of said party (drop (i + 1) lines))
        chosen = ap (chain_of said party) (drop_here lines i line here)

        taken : chain_of said party (take (i + 1) lines) ≡ chain_of said party (take i lines) ++ cond (line_names said party line) (line ∷ []) []
        taken = ap (chain_of said party) (take_here lines i line here) ∙ filter-append (λ l. line_names said party l) (take i lines) (line ∷ [])

        pub walk_key : line_names said party line ≡ true → option_map (λ l. l.0) (slice_get chain at) ≡ Some line.0
        walk_key named = key_here chain at line.0 (keys_of (chain_of said party (drop (i + 1) lines)))
            (walked.rest ∙ ap keys_of chosen ∙ ap (λ b. keys_of (cond b (line ∷ chain_of said party (drop (i + 1) lines)) (chain_of said party (drop (i + 1) lines)))) named)

        pub walk_takes : line_names said party line ≡ true → slice_get chain at ≡ Some line → IsWalked party chain lines (at + 1) (i + 1)
        walk_takes named same =
            let keys : line.0 ∷ keys_of (drop (at + 1) chain) ≡ line.0 ∷ keys_of (chain_of said party (drop (i + 1) lines)) =
            ap keys_of (sym (drop_here chain at line same)) ∙ walked.rest ∙ ap keys_of chosen
            ∙ ap (λ b. keys_of (cond b (line ∷ chain_of said party (drop (i + 1) lines)) (chain_of said party (drop (i + 1) lines)))) named in
            let few : at ≤ i = walked.few in record {
              few = omega arith;
              passed = take_here chain at line same ∙ ap (λ ls. ls ++ line ∷ []) walked.passed
                  ∙ ap (λ b. chain_of said party (take i lines) ++ cond b (line ∷ []) []) (sym named) ∙ sym taken;
              rest = cc;
            }

        pub walk_skips : line_names said party line ≡ false → IsWalked party chain lines at (i + 1)
        walk_skips other = let few : at ≤ i = walked.few in record {
          few = omega arith;
          passed = walked.passed ∙ sym (append-nil (chain_of said party (take i lines)))
              ∙ ap (λ b. chain_of said party (take i lines) ++ cond b (line ∷ []) []) (sym other) ∙ sym taken;
          rest = walked.rest ∙ ap keys_of chosen
              ∙ ap (λ b. keys_of (cond b (line ∷ chain_of said party (drop (i + 1) lines)) (chain_of said party (drop (i + 1) lines)))) other;
        }

      pub walk_ends : length lines ≤ i → chain ≡ chain_of said party lines
      walk_ends all =
          let none : drop at chain ≡ [] = no_line (drop at chain) (walked.rest ∙ ap (λ ls. keys_of (chain_of said party ls)) (drop_all i lines all)) in
          sym (take-append-drop at chain) ∙ ap (λ ls. take at chain ++ ls) none ∙ append-nil (take at chain) ∙ walked.passed
          ∙ ap (chain_of said party) (take_all i lines all)

-- the line of a token at a place
pub keyed_at : {D : Type 0} (tokens : List (Where (Line D))) (i : ℕ) (t : Where (Line D)) → i < length tokens → t ≡ get_or tokens i t → slice_get (keyed tokens) i ≡ Some (t.index, t.value)
keyed_at {D} tokens i t below read = map_at (λ (x : Where (Line D)). (x.index, x.value)) tokens i t (slice_get_read tokens (length tokens) i t refl below read)
