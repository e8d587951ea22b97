-- Each way through the loop, by what `pieces_at` says of the byte behind the run.
use Rattle.std.proofs.Common.{◌∷◌, ◌++◌, [], List, ℕ, encode_utf8, refl, sym, ap, ◌∙◌, arith}
use Rattle.sa_lines.specs.Quotes.{quoted_at}
use Rattle.sa_lines.proofs.QuoteLemmas.{piece_at-control, piece_at-byte, still_as, still_begun, still_on, still_piece, still_end, still_nil, still_none}
use Rattle.sa_lines.proofs.quote.quoted_at.Goals as goal

pub pieces-init : goal.pieces-init
pieces-init c =
    let text : List ℕ = c.in-Some-eq34-default.text.now in
    still_begun c.clear.new.self.items c.args.bytes.now text c.clear.ensures.items (c.in-Some-eq34-default.ensures.cut ∙ ap (λ (b : ℕ). b ∷ text) (omega arith))

pub returns-in_default-first : goal.returns-in_default-first
returns-in_default-first c =
    let run = c.cut_run.ensures in
    let whole = quoted_at c.args.bytes.now in
    let on = still_on c.pieces.out.items c.cut_run.result.0.now c.cut_run.result.1.now c.pieces.rest.now c.push_run.new.out.items [] whole run.cut run.plain c.in_ok-push_run.ensures.written c.in_default-first.ensures.cut c.pieces.invariant in
    still_nil c.push_run.new.out.items whole on

pub returns-in-34 : goal.returns-in-34
returns-in-34 c =
    let run = c.cut_run.ensures in
    let whole = quoted_at c.args.bytes.now in
    let others : List ℕ = c.in-Some.others.now in
    let cut = c.in-Some.ensures.cut ∙ ap (λ (b : ℕ). b ∷ others) c.in-34.is in
    let on = still_on c.pieces.out.items c.cut_run.result.0.now c.cut_run.result.1.now c.pieces.rest.now c.push_run.new.out.items (34 ∷ others) whole run.cut run.plain c.in_ok-push_run.ensures.written cut c.pieces.invariant in
    still_end c.push_run.new.out.items others whole on

pub returns-in_default-escape_at : goal.returns-in_default-escape_at
returns-in_default-escape_at c =
    let run = c.cut_run.ensures in
    let whole = quoted_at c.args.bytes.now in
    let others : List ℕ = c.in-Some.others.now in
    let cut = c.in-Some.ensures.cut ∙ ap (λ (b : ℕ). b ∷ others) c.in-92.is in
    let on = still_on c.pieces.out.items c.cut_run.result.0.now c.cut_run.result.1.now c.pieces.rest.now c.push_run.new.out.items (92 ∷ others) whole run.cut run.plain c.in_ok-push_run.ensures.written cut c.pieces.invariant in
    still_none c.push_run.new.out.items 92 others whole (omega arith) (sym c.in_default-escape_at.ensures.reads) on

pub pieces-preserved-in-92 : goal.pieces-preserved-in-92
pieces-preserved-in-92 c =
    let run = c.cut_run.ensures in
    let whole = quoted_at c.args.bytes.now in
    let out : List ℕ = c.push_run.new.out.items in
    let others : List ℕ = c.in-Some.others.now in
    let rest : List ℕ = c.in-Some-escape_at.others.now in
    let point : List ℕ = encode_utf8 c.in-Some-escape_at.point in
    let cut = c.in-Some.ensures.cut ∙ ap (λ (b : ℕ). b ∷ others) c.in-92.is in
    let on = still_on c.pieces.out.items c.cut_run.result.0.now c.cut_run.result.1.now c.pieces.rest.now out (92 ∷ others) whole run.cut run.plain c.in_ok-push_run.ensures.written cut c.pieces.invariant in
    let shorter = c.in-Some-escape_at.ensures.shorter in
    let further = still_piece out 92 others point rest whole (omega arith) (sym c.in-Some-escape_at.ensures.reads) (omega arith) on in
    still_as (out ++ point) c.push_point.new.out.items rest rest whole (sym c.in_ok-push_point-in-92.ensures) refl further

pub returns-in-0-to-31 : goal.returns-in-0-to-31
returns-in-0-to-31 c =
    let run = c.cut_run.ensures in
    let whole = quoted_at c.args.bytes.now in
    let byte : ℕ = c.in-Some.byte in
    let others : List ℕ = c.in-Some.others.now in
    let on = still_on c.pieces.out.items c.cut_run.result.0.now c.cut_run.result.1.now c.pieces.rest.now c.push_run.new.out.items (byte ∷ others) whole run.cut run.plain c.in_ok-push_run.ensures.written c.in-Some.ensures.cut c.pieces.invariant in
    still_none c.push_run.new.out.items byte others whole (omega arith) (piece_at-control byte others (omega arith)) on

pub pieces-preserved : goal.pieces-preserved
pieces-preserved c =
    let run = c.cut_run.ensures in
    let whole = quoted_at c.args.bytes.now in
    let out : List ℕ = c.push_run.new.out.items in
    let byte : ℕ = c.in-Some.byte in
    let others : List ℕ = c.in-Some.others.now in
    let on = still_on c.pieces.out.items c.cut_run.result.0.now c.cut_run.result.1.now c.pieces.rest.now out (byte ∷ others) whole run.cut run.plain c.in_ok-push_run.ensures.written c.in-Some.ensures.cut c.pieces.invariant in
    let further = still_piece out byte others (byte ∷ []) others whole (omega arith) (piece_at-byte byte others (omega arith) (omega arith)) (omega arith) on in
    still_as (out ++ byte ∷ []) c.push.new.self.items others others whole (sym c.in_ok-push-in_default-byte.ensures.items) refl further
