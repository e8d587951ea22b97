-- What is counted and replaced from the left is what is found.
use Rattle.std.proofs.Common.{◌≡◌, ◌<◌, ◌+◌, ◌-◌, ℕ, suc, false, List, ◌++◌, length, take, drop, Option, Some, None, refl, sym, ap, ◌∙◌, inl, inr, arith}
use Rattle.std.specs.Prelude.{MatchOption}
use Rattle.std.proofs.lemmas.Bool.{cases_lt, false_from_ne_true}
use Rattle.std.proofs.lemmas.List.{take_all}
use Rattle.sa_text.specs.Points.{occurs_at}
use Rattle.sa_search.specs.Counts.{count_of}
use Rattle.sa_search.specs.Cuts.{StandsNowhere}
use Rattle.sa_search.specs.Finds.{occurs, first_place}
use Rattle.sa_search.specs.Firsts.{CountsFirst, ReplacesFirst}
use Rattle.sa_search.specs.Replaces.{replaced}
use Rattle.sa_search.proofs.CountLemmas.{count-first, count-none}
use Rattle.sa_search.proofs.CutLemmas.{stands-within}
use Rattle.sa_search.proofs.PlaceLemmas.{least-nowhere, least-some}
use Rattle.sa_search.proofs.ReplaceLemmas.{replaced-first, replaced-none}
use Rattle.sa_search.proofs.WindowLemmas.{occurs-window}

module _ (part text : List ℕ) (some : 0 < length part) where
  -- in the whole of a text a part occurs where it stands
  occurs-whole : (k : ℕ) → occurs text part 0 (length text) k ≡ occurs_at text part k
  occurs-whole k =
      let sum : 0 + k ≡ k = omega arith in
      sym (ap (occurs text part 0 (length text)) sum)
      ∙ occurs-window text part 0 (length text) k (omega arith) (λ none. absurd (omega arith))
      ∙ ap (λ xs. occurs_at xs part k) (take_all (length text - 0) text (omega arith))

  nowhere : first_place text part 0 (length text) ≡ None → StandsNowhere text part
  nowhere e = λ k. elim (cases_lt (length text) k) [
    | inl past ↦ false_from_ne_true (occurs_at text part k) (λ h. let within = stands-within text part k some h in absurd (omega arith))
    | inr within ↦ sym (occurs-whole k) ∙ least-nowhere (occurs text part 0 (length text)) (length text + 1) 0 k e (omega arith) (omega arith)
  ]

  before : (p : ℕ) → first_place text part 0 (length text) ≡ Some p → (k : ℕ) → k < p → occurs_at text part k ≡ false
  before p e k l = sym (occurs-whole k) ∙ (least-some (occurs text part 0 (length text)) (length text + 1) 0 p e).before k (omega arith) l

  pub counts-place : (place : Option ℕ) → first_place text part 0 (length text) ≡ place
      → MatchOption place (count_of part 0 text ≡ 0) (λ p. count_of part 0 text ≡ suc (count_of part 0 (drop (p + length part) text)))
  counts-place None e = count-none part text (nowhere e)
  counts-place (Some p) e =
      count-first part text p some (sym (occurs-whole p) ∙ (least-some (occurs text part 0 (length text)) (length text + 1) 0 p e).here) (before p e)

  pub replaces-place : (new : List ℕ) (n : ℕ) (place : Option ℕ) → first_place text part 0 (length text) ≡ place
      → MatchOption place (replaced part new (suc n) 0 text ≡ text) (λ p. replaced part new (suc n) 0 text ≡ take p text ++ (new ++ replaced part new n 0 (drop (p + length part) text)))
  replaces-place new n None e = replaced-none part new (suc n) text (nowhere e)
  replaces-place new n (Some p) e =
      replaced-first part new n text p some (sym (occurs-whole p) ∙ (least-some (occurs text part 0 (length text)) (length text + 1) 0 p e).here) (before p e)

pub counts : CountsFirst
counts part text some = counts-place part text some (first_place text part 0 (length text)) refl

pub replaces : ReplacesFirst
replaces old new text n some = replaces-place old text some new n (first_place text old 0 (length text)) refl
