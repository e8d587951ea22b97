use Rattle.std.proofs.Common.{◌≡◌, ◌+◌, ◌-◌, cond, take, drop, count_by, ap, ◌∙◌, arith, take-add}
use Rattle.std.proofs.lemmas.List.Sums.{sum_by-append}
use Rattle.sa_text.specs.Points.{is_lead}
use Rattle.sa_text.proofs.points.skip_pieces.Goals as goal

pub loop-at-preserved : goal.loop-at-preserved
loop-at-preserved c =
    let bytes = c.args.bytes.now in
    let at = c.loop-at.at in
    let more : count_by is_lead (take (at + 64) bytes) ≡ count_by is_lead (take at bytes) + count_by is_lead (take 64 (drop at bytes)) =
    ap (count_by is_lead) (take-add at 64 bytes) ∙ sum_by-append (λ x. cond (is_lead x) 1 0) (take at bytes) (take 64 (drop at bytes)) in
    let size : at + 64 - at ≡ 64 = omega arith in
    let leads = c.count_leads-count.ensures.leads ∙ ap (λ n. count_by is_lead (take n (drop at bytes))) size in
    record { within = omega arith; so_far = omega arith }
