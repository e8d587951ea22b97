-- A byte that ends no token, and what is kept behind it, is put behind the token; at one that does, or at the end, the line is cut.
use Rattle.std.proofs.Common.{◌<◌, ◌∷◌, [], ◌++◌, List, ℕ, length, take, Some, sym, ap, ◌∙◌, arith, append_assoc, length-append, take_at}
use Rattle.std.specs.List.{prefix_len}
use Rattle.std.proofs.lemmas.Bool.{eqb-false}
use Rattle.sa_lines.specs.Lines.{is_blank}
use Rattle.sa_lines.specs.Tokens.{Between, tokens_of}
use Rattle.sa_lines.specs.TokenSteps.{state_of}
use Rattle.sa_lines.proofs.TokenLemmas.{leads-push, leads-append, tokens_of-ended, tokens_of-last, some_before}
use Rattle.sa_lines.proofs.token.next_token.Goals as goal
use Rattle.sa_lines.proofs.token.next_token.Goals.{in-Some+then-ends, in_default}

pub bytes-preserved : goal.bytes-preserved
bytes-preserved c =
    let h = c.bytes.invariant in
    let byte = c.in-Some.byte in
    let kept : List ℕ = c.cut_kept.result.0.now in
    let behind : List ℕ = c.cut_kept.result.1.now in
    let before = leads-push Between (state_of c.bytes.state) h.token byte h.leads_here (sym c.ends.ensures ∙ c.if-ends.false) ∙ ap Some (sym c.after-state.ensures) in
    record {
      token = (h.token ++ byte ∷ []) ++ kept;
      cut = h.cut ∙ (ap (λ r. h.token ++ r) (c.in-Some.ensures.cut ∙ ap (λ (bs : List ℕ). byte ∷ bs) c.cut_kept.ensures.cut) ∙ simp append_assoc);
      long = omega (arith, length-append h.token (byte ∷ []), length-append (h.token ++ byte ∷ []) kept);
      leads_here = leads-append Between (state_of c.after-state.result) (state_of c.after-state.result) (h.token ++ byte ∷ []) kept before c.cut_kept.ensures.kept;
    }

pub returns-clause-cut : goal.returns-clause-cut
returns-clause-cut c =
    let h = c.bytes.invariant in
    let state = state_of c.bytes.state in
    let begun = c.skip_blanks-begun.ensures in
    let token = ap (take c.bytes.end) h.cut ∙ take_at h.token c.bytes.rest.now c.bytes.end h.long in
    elim c.match-first.branch [
      | in-Some+then-ends w ↦
          let byte = w.in-Some.byte in
          let others = w.in-Some.others.now in
          let whole = h.cut ∙ ap (λ r. h.token ++ r) w.in-Some.ensures.cut in
          let stop = sym w.ends.ensures ∙ w.if-ends.true in
          let some = some_before state h.token byte others h.leads_here stop (sym (ap (prefix_len is_blank) whole) ∙ begun.stops) in
          let cut = tokens_of-ended state h.token byte others h.leads_here some stop in
          rw (token, w.in-Some.ensures.cut) (begun.tokens ∙ (ap tokens_of whole ∙ cut))
      | in_default w ↦
          let whole = h.cut ∙ ap (λ r. h.token ++ r) w.in_default.ensures.cut in
          let not_empty = eqb-false (length c.skip_blanks-begun.result.now) 0 (sym c.if-is_empty.ensures) in
          let some : 0 < length h.token = omega (arith, not_empty, simp length-append at (ap length whole)) in
          rw (token, w.in_default.ensures.cut) (begun.tokens ∙ (ap tokens_of whole ∙ tokens_of-last state h.token h.leads_here some))
    ]
