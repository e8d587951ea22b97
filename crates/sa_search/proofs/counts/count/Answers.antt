use Rattle.std.proofs.Common.{◌≡◌, ◌+◌, ◌-◌, length, cond, leb, min, ap, sym, ◌∙◌, arith, rules}
use Rattle.std.specs.Prelude.{pos, slice_range}
use Rattle.std.specs.Str.{chars}
use Rattle.std.proofs.lemmas.Bool.{cond-true, le-leb}
use Rattle.std.proofs.lemmas.Int.{to_z-of_z, to_z_pos}
use Rattle.sa_text.proofs.PointLemmas.{count-utf8}
use Rattle.sa_search.specs.Counts.{count_of}
use Rattle.sa_search.specs.Finds.{start_place, end_place}
use Rattle.sa_search.proofs.CountLemmas.{when-empty, when-some, count-most}
use Rattle.sa_search.proofs.CutLemmas.{points-within}
use Rattle.sa_search.proofs.WindowLemmas.{empty-part, some-part, window-length}
use Rattle.sa_search.proofs.counts.count.Goals as goal
use mir.Syntax.{w64}
use mir.Val.{SFits}

pub returns-in-Some : goal.returns-in-Some
returns-in-Some c =
    let a = c.args.a.now in
    let b = c.args.b.now in
    let s = start_place (length a) c.args.start in
    let e = end_place (length a) c.args.end in
    let w = rw (to_z-of_z w64 c.args.start c.ranges.start, to_z-of_z w64 c.args.end c.ranges.end) at c.in-Some.ensures in
    let window = c.in-Some.window in
    let empty = (empty-part b (omega (arith, c.size.ensures.size))).none in
    let leads = c.count_leads.ensures.leads ∙ count-utf8 window.bytes.now w.utf8 in
    let size = window-length a b s e window.first window.bytes.now w in
    let order = w.order in
    let counted : c.count_leads.result + 1 ≡ e - s + 1 = omega arith in
    let fits : SFits w64 c.from.result = search rules in
    to_z-of_z w64 c.from.result fits ∙ c.from.ensures
    ∙ ap pos (counted ∙ sym (when-empty b (cond (leb s e) (e - s + 1) 0) (count_of b 0 (slice_range a s e)) (ap length empty) ∙ cond-true (leb s e) (e - s + 1) 0 (le-leb s e order)))

pub returns-in-Some-2 : goal.returns-in-Some-2
returns-in-Some-2 c =
    let a = c.args.a.now in
    let b = c.args.b.now in
    let s = start_place (length a) c.args.start in
    let e = end_place (length a) c.args.end in
    let w = rw (to_z-of_z w64 c.args.start c.ranges.start, to_z-of_z w64 c.args.end c.ranges.end) at c.in-Some.ensures in
    let bytes = c.in-Some.window.bytes.now in
    let most = count-most b 0 (chars bytes) in
    let within = points-within bytes w.utf8 in
    let short = w.short in
    let part : chars c.new.result ≡ b = ap chars c.new.ensures ∙ c.as_bytes.ensures.points in
    let least : c.count_in-in-Some-2.result ≡ min (length bytes) (count_of b 0 (chars bytes)) = c.count_in-in-Some-2.ensures ∙ ap (λ p. min (length bytes) (count_of p 0 (chars bytes))) part in
    let counted : c.count_in-in-Some-2.result ≡ count_of b 0 (chars bytes) = omega arith in
    let some = some-part b (omega (arith, c.size.ensures.size)) in
    to_z_pos w64 c.count_in-in-Some-2.result (omega arith)
    ∙ ap pos (counted ∙ ap (count_of b 0) w.points ∙ sym (when-some b (cond (leb s e) (e - s + 1) 0) (count_of b 0 (slice_range a s e)) some))
