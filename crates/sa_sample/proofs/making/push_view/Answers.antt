use Rattle.std.proofs.Common.{◌≡◌, ℕ, List, ◌∷◌, [], ◌++◌, codes, decimal, ap, ◌∙◌}
use Rattle.std.proofs.lemmas.Result.{on_ok_weaker}
use Rattle.sa_sample.proofs.LineLemmas.{seven-parts}
use Rattle.sa_sample.proofs.making.push_view.Goals as goal

pub returns : goal.returns
returns c =
    let v = c.args.view in
    on_ok_weaker c.push_text-4.result
    (λ last. seven-parts c.args.out.now.items c.push_text.new.out.items c.push_decimal.new.out.items c.push_text-2.new.out.items c.push_decimal-2.new.out.items c.push_text-3.new.out.items c.push_decimal-3.new.out.items c.push_text-4.new.out.items
    c.args.front.now (decimal v.array) (91 ∷ []) (decimal v.start) (44 ∷ []) (decimal c.args.count) (codes ",1]")
    c.in_ok-push_text.ensures (wider c.push_text.new.out.items c.from.ensures c.in_ok-push_decimal.ensures.written) c.in_ok-push_text-2.ensures (wider c.push_text-2.new.out.items c.from-2.ensures c.in_ok-push_decimal-2.ensures.written)
    c.in_ok-push_text-3.ensures (wider c.push_text-3.new.out.items c.from-3.ensures c.in_ok-push_decimal-3.ensures.written) last)
    c.push_text-4.ensures
  where
    wider : {m n : ℕ} {out : List ℕ} (before : List ℕ) → m ≡ n → out ≡ before ++ decimal m → out ≡ before ++ decimal n
    wider before same written = written ∙ ap (λ k. before ++ decimal k) same
