use Rattle.std.proofs.Common.{length, drop, ap, ◌∙◌, arith}
use Rattle.std.proofs.lemmas.Int.{to_z-of_z}
use Rattle.sa_search.specs.Finds.{start_place}
use Rattle.sa_search.proofs.CutLemmas.{points-within}
use Rattle.sa_search.proofs.WindowLemmas.{is-window}
use Rattle.sa_search.proofs.window.window_of.Goals as goal

pub overflow_cast-result : goal.overflow_cast-result
overflow_cast-result c =
    let most = points-within c.as_bytes.result.now c.as_bytes.ensures.utf8 in
    let within = c.in_ok-rest.ensures.within in
    omega arith

pub returns : goal.returns
returns c =
    let a = c.args.a.now in
    let n = length a in
    let points = c.as_bytes.ensures.points in
    let within = c.in_ok-rest.ensures.within in
    let same = ap length points in
    let most = c.in_ok-rest.ensures.most in
    let few = points-within c.as_bytes.result.now c.as_bytes.ensures.utf8 in
    let short = c.as_bytes.ensures.short in
    is-window a c.in_ok-rest.rest.now c.front.result.now c.place_of-first.result c.place_of-last.result (start_place n c.args.start) (start_place n c.args.end)
    (c.place_of-first.ensures ∙ ap (start_place n) (to_z-of_z _ _ c.ranges.start))
    (c.place_of-last.ensures ∙ ap (start_place n) (to_z-of_z _ _ c.ranges.end))
    (omega arith) (omega arith) (omega arith)
    (c.in_ok-rest.ensures.points ∙ ap (drop c.place_of-first.result) points)
    c.front.ensures.points c.front.ensures.utf8 (omega arith)
