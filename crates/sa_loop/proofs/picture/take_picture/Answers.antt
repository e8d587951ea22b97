use Rattle.std.proofs.Common.{◌+◌, ◌*◌, ◌∷◌, [], ◌++◌, length, refl, ap, ◌∙◌, arith}
use Rattle.std.proofs.lemmas.List.FromFn.{length-map-range_with_len}
use Rattle.sa_alloc.specs.Layouts.{entry_image}
use Rattle.sa_loop.proofs.picture.take_picture.Goals as goal

pub returns-then-weight-gt-MOST_WEIGHT : goal.returns-then-weight-gt-MOST_WEIGHT
returns-then-weight-gt-MOST_WEIGHT c =
    let l = c.args.store.now.contents.layout in
    let many = length-map-range_with_len (entry_image l) 0 (length l.states) in
    let long = ap length c.image_arena-arena.ensures.bytes in
    (refl, omega arith, c.in_ok-push.ensures.ok ∙ ap (λ ws. ws ++ (16 * c.count.result + length c.image_arena-arena.result.now) ∷ []) c.new-weights.ensures, omega arith)

pub returns : goal.returns
returns c =
    let l = c.args.store.now.contents.layout in
    let many = length-map-range_with_len (entry_image l) 0 (length l.states) in
    let long = ap length c.image_arena-arena.ensures.bytes in
    (refl, c.from_vec.ensures ∙ c.in_ok-image_entries.ensures, c.in_ok-from_slice.ensures ∙ c.image_arena-arena.ensures.bytes, omega arith)
