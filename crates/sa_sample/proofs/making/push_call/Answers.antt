use Rattle.std.proofs.Common.{◌++◌, codes, sym, ap, ◌∙◌}
use Rattle.std.proofs.lemmas.Result.{on_ok_weaker}
use lib.Utf8.{encode}
use Rattle.sa_lines.specs.Tokens.{joined}
use Rattle.sa_sample.specs.declared.drawing.DrawnOp.{DrawnOp}
use Rattle.sa_sample.specs.Samples.{tokens_by, view_behind}
use Rattle.sa_sample.proofs.LineLemmas.{three-parts}
use Rattle.sa_sample.proofs.making.push_call.Goals as goal

pub returns-in_ok-push_text-in-Replace : goal.returns-in_ok-push_text-in-Replace
unfolding encode
returns-in_ok-push_text-in-Replace c =
    let o = c.args.out.now.items in
    let call = c.args.call.now in
    on_ok_weaker c.push_view-in-Replace-2.result
    (λ last. three-parts o c.push_view-in-Replace.new.out.items c.push_text-in-Replace.new.out.items c.push_view-in-Replace-2.new.out.items
    (codes "replace a") (view_behind call.source call.count) c.as_bytes.result.now (codes " into a") (view_behind call.target call.count)
    c.in_ok-push_view-in-Replace.ensures c.in_ok-push_text-in-Replace.ensures last
    ∙ ap (λ text. o ++ (codes "replace a" ++ (view_behind call.source call.count ++ (text ++ (codes " into a" ++ view_behind call.target call.count))))) c.as_bytes.ensures.value
    ∙ ap (λ (p : DrawnOp). o ++ joined (tokens_by p call)) (sym c.in-Replace.is))
    c.push_view-in-Replace-2.ensures
