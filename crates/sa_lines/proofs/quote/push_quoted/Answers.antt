-- A run is written whole, a marked byte by its piece, and the pieces of the bytes are those of the code points.
use Rattle.std.proofs.Common.{◌≡◌, ◌∷◌, [], ◌++◌, List, ℕ, false, sym, ap, ◌∙◌, append_assoc}
use Rattle.std.specs.List.{flat_map}
use Rattle.sa_runs.specs.Runs.{is_plain, begins_plain}
use Rattle.sa_lines.specs.Quotes.{piece}
use Rattle.sa_lines.proofs.QuoteLemmas.{byte_piece, text_pieces, pieces_on, pieces_end, begins_still}
use Rattle.sa_lines.proofs.quote.push_quoted.Goals as goal

pub pieces-preserved : goal.pieces-preserved
pieces-preserved c =
    let h = c.pieces.invariant in
    let run : List ℕ = c.cut_run.result.0.now in
    let byte : ℕ = c.in-Some.byte in
    let others : List ℕ = c.in-Some.others.now in
    let old : List ℕ = c.pieces.out.items in
    let ran : List ℕ = c.push_run.new.out.items in
    let new : List ℕ = c.push_mark.new.out.items in
    let later : List ℕ = flat_map byte_piece others in
    let marked : is_plain byte ≡ false = sym (ap begins_plain c.in-Some.ensures.cut) ∙ c.cut_run.ensures.stops in
    let pieces = pieces_on run c.cut_run.result.1.now c.pieces.rest.now byte others c.cut_run.ensures.cut c.cut_run.ensures.plain c.in-Some.ensures.cut marked in
    let grown : new ≡ (old ++ run) ++ piece byte = c.in_ok-push_mark.ensures.written ∙ ap (λ (xs : List ℕ). xs ++ piece byte) c.in_ok-push_run.ensures.written in
    let same : new ++ later ≡ old ++ (run ++ (piece byte ++ later)) = ap (λ (xs : List ℕ). xs ++ later) grown ∙ simp append_assoc in
    record {
      written = same ∙ (ap (λ (xs : List ℕ). old ++ xs) (sym pieces) ∙ h.written);
      begins = rw grown (begins_still (old ++ run) (piece byte) c.args.out.now.items (begins_still old run c.args.out.now.items h.begins));
    }

pub returns-clause-written : goal.returns-clause-written
returns-clause-written c =
    let h = c.pieces.invariant in
    let text : List ℕ = c.args.text.now in
    let run : List ℕ = c.cut_run.result.0.now in
    let pieces = pieces_end run c.cut_run.result.1.now c.pieces.rest.now c.cut_run.ensures.cut c.cut_run.ensures.plain c.in_default.ensures.cut in
    let ran : c.push_run.new.out.items ≡ c.args.out.now.items ++ (34 ∷ flat_map byte_piece text) = c.in_ok-push_run.ensures.written ∙ (ap (λ (xs : List ℕ). c.pieces.out.items ++ xs) (sym pieces) ∙ h.written) in
    let closed = c.in_ok-push-2.ensures.items ∙ ap (λ (xs : List ℕ). xs ++ 34 ∷ []) ran in
    rw (← text_pieces text c.requires) (closed ∙ simp append_assoc)
