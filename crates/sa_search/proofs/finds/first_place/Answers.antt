use Rattle.std.proofs.Common.{◌≡◌, ◌+◌, length, Some, sym, ap, subst, ◌∙◌, arith}
use Rattle.std.specs.Str.{chars}
use Rattle.std.proofs.lemmas.Int.{to_z-of_z}
use Rattle.sa_text.proofs.PointLemmas.{count-utf8}
use Rattle.sa_search.specs.Cuts.{IsCutFirst, StandsNowhere}
use Rattle.sa_search.specs.Finds.{start_place, end_place, occurs}
use Rattle.sa_search.proofs.PlaceLemmas.{least-none}
use Rattle.sa_search.proofs.WindowLemmas.{first-none, first-found, first-empty, empty-part, some-part, occurs-never}
use Rattle.sa_search.proofs.finds.first_place.Goals as goal
use mir.Syntax.{w64}

pub returns-in_err-window : goal.returns-in_err-window
returns-in_err-window c =
    let a = c.args.a.now in
    let s = start_place (length a) c.args.start in
    let e = end_place (length a) c.args.end in
    let h = rw (to_z-of_z w64 c.args.start c.ranges.start, to_z-of_z w64 c.args.end c.ranges.end) at c.in_err-window.ensures in
    rw c.from_residual.ensures (sym (least-none (occurs a c.args.b.now s e) (length a + 1) 0 (λ q. occurs-never a c.args.b.now s e q h)))

pub returns-then-size-eq0 : goal.returns-then-size-eq0
returns-then-size-eq0 c =
    let a = c.args.a.now in
    let s = start_place (length a) c.args.start in
    let e = end_place (length a) c.args.end in
    let w = rw (to_z-of_z w64 c.args.start c.ranges.start, to_z-of_z w64 c.args.end c.ranges.end) at c.in_ok-window.ensures in
    sym (first-empty a c.args.b.now s e c.in_ok-window.window.first c.in_ok-window.window.bytes.now w (empty-part c.args.b.now (omega (arith, c.size.ensures.size))))

pub returns-in_err-front : goal.returns-in_err-front
returns-in_err-front c =
    let a = c.args.a.now in
    let b = c.args.b.now in
    let s = start_place (length a) c.args.start in
    let e = end_place (length a) c.args.end in
    let w = rw (to_z-of_z w64 c.args.start c.ranges.start, to_z-of_z w64 c.args.end c.ranges.end) at c.in_ok-window.ensures in
    let bytes = c.in_ok-window.window.bytes.now in
    let part : chars c.new.result ≡ b = ap chars c.new.ensures ∙ c.as_bytes.ensures.points in
    rw c.from_residual-in_err-front.ensures
    (sym (first-none a b s e c.in_ok-window.window.first bytes w (some-part b (omega (arith, c.size.ensures.size))) (subst (λ t. StandsNowhere (chars bytes) t) part c.in_err-front.ensures)))

pub overflow_add-result : goal.overflow_add-result
overflow_add-result c =
    let w = c.in_ok-window.ensures in
    let few = w.few in
    let order = w.order in
    let begins = w.begins in
    let short = w.short in
    let most = c.in_ok-front.ensures.place.most in
    omega arith

pub returns : goal.returns
returns c =
    let a = c.args.a.now in
    let b = c.args.b.now in
    let s = start_place (length a) c.args.start in
    let e = end_place (length a) c.args.end in
    let w = rw (to_z-of_z w64 c.args.start c.ranges.start, to_z-of_z w64 c.args.end c.ranges.end) at c.in_ok-window.ensures in
    let window = c.in_ok-window.window in
    let front = c.in_ok-front.front.now in
    let behind = c.in_ok-front.field-0-1.now in
    let part : chars c.new.result ≡ b = ap chars c.new.ensures ∙ c.as_bytes.ensures.points in
    let cut = subst (λ t. IsCutFirst window.bytes.now t front behind) part c.in_ok-front.ensures in
    let leads : c.count_leads.result ≡ length (chars front) = c.count_leads.ensures.leads ∙ count-utf8 front cut.place.front_utf8 in
    sym (first-found a b s e window.first window.bytes.now w front behind (some-part b (omega (arith, c.size.ensures.size))) cut ∙ ap (λ n. Some (window.first + n)) (sym leads))
