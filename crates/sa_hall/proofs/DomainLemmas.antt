-- What the lines of a descriptor leave of its opening contents.
use Rattle.std.proofs.Common.{◌≡◌, ℕ, List, [], ◌∷◌, ◌++◌, sym, ap, ◌∙◌, subst}
use Rattle.sa_journal.specs.Said.{Said}
use Rattle.sa_journal.specs.Shapes.{Shape}
use Rattle.sa_journal.specs.declared.party.Party.TheVariants.{Descr}
use Rattle.sa_journal.specs.Chains.{Keyed, Strand, with_line}
use Rattle.sa_base.specs.Deeds.{Write, writes_at}
use Rattle.sa_hall.specs.Contents.{Contents, shape_of, opening_of, after_writes}
use Rattle.sa_hall.specs.Domains.{stepped, IsReadHere, IsLeftHere}
use Rattle.sa_hall.specs.Folds.{IsLeft}
use Rattle.sa_hall.proofs.FoldLemmas.{left-push}
use Rattle.sa_hall.proofs.WriteLemmas.{shape-after, shape-opening}

module _ {D : Type 0} (said : D → Said) (d : ℕ) where
  -- one more line
  pub left-more : (c : Contents) (lines : List (Keyed D)) (line : Keyed D) → IsLeftHere said d c lines → IsReadHere d (said line.1.deed) c → IsLeftHere said d (stepped d (said line.1.deed) c) (lines ++ line ∷ [])
  left-more c lines line is reads =
      let next = stepped d (said line.1.deed) c in
      let push = left-push (λ x. stepped d (said x)) (λ x. IsReadHere d (said x)) (opening_of (shape_of c)) c lines line is reads in
      subst (λ (s : Shape). IsLeft (λ x. stepped d (said x)) (λ x. IsReadHere d (said x)) (opening_of s) next (lines ++ line ∷ []))
      (sym (shape-after c (writes_at (said line.1.deed).writes d))) push

  -- no line
  pub left-none : (s : Shape) → IsLeftHere said d (opening_of s) []
  left-none s = record { left = sym (ap opening_of (shape-opening s)); agrees = tt }

  -- a commit: the line is linked, and its writes are carried out
  pub domain-commits : (old new : Contents) (chain after : Strand D) (line : Keyed D) (ws : List Write) → (chain.party ≡ Descr d) × IsLeftHere said d old chain.lines → after ≡ with_line chain line → IsReadHere d (said line.1.deed) old → writes_at (said line.1.deed).writes d ≡ ws → new ≡ after_writes old ws
      → (after.party ≡ Descr d) × IsLeftHere said d new after.lines
  domain-commits old new chain after line ws is linked reads writes now =
      let e : stepped d (said line.1.deed) old ≡ new = ap (after_writes old) writes ∙ sym now in (
        ap (λ (s : Strand D). s.party) linked ∙ is.0,
        subst (λ (x : Contents × Strand D). IsLeftHere said d x.0 x.1.lines) (λ i. (e i, sym linked i)) (left-more old chain.lines line is.1 reads),
      )

  -- contents before the first line
  pub domain-opens : (c : Contents) (s : Shape) (lines : List (Keyed D)) → c ≡ opening_of s → lines ≡ [] → IsLeftHere said d c lines
  domain-opens c s lines opening none = subst (λ (x : Contents × List (Keyed D)). IsLeftHere said d x.0 x.1) (λ i. (sym opening i, sym none i)) (left-none s)
