use Rattle.std.proofs.Common.{◌-◌, ◌++◌, ap, sym, ◌∙◌, arith, append_assoc}
use Rattle.std.specs.Str.{chars}
use Rattle.sa_text.specs.Texts.{text_size}
use Rattle.sa_search.specs.Replaces.{spread}
use Rattle.sa_search.proofs.CutLemmas.{size-chars}
use Rattle.sa_search.proofs.SpreadLemmas.{spread-some, spread-cut, spread-cut-size, spread-end}
use Rattle.sa_search.proofs.spreads.put_spread.Goals as goal

pub push-requires-clause-fits : goal.push-requires-clause-fits
push-requires-clause-fits c =
    let size = size-chars c.args.new.now c.requires.new_utf8 in
    let some = spread-some (chars c.args.new.now) c.places.left (chars c.places.rest.now) (omega arith) in
    omega arith

pub push-requires-in-places-clause-fits : goal.push-requires-in-places-clause-fits
push-requires-in-places-clause-fits c =
    let size = spread-cut-size (chars c.args.new.now) c.places.rest.now c.in-Some.point.now c.in-Some.behind.now c.places.left (omega arith) c.in-Some.ensures in
    let new = size-chars c.args.new.now c.requires.new_utf8 in
    omega arith

pub places-preserved : goal.places-preserved
places-preserved c =
    let new = chars c.args.new.now in
    let point = c.in-Some.point.now in
    let behind = c.in-Some.behind.now in
    let left = c.places.left in
    let parts = c.in-Some.ensures in
    let before = c.places.invariant in
    let size = spread-cut-size new c.places.rest.now point behind left (omega arith) parts in
    let new_size = size-chars c.args.new.now c.requires.new_utf8 in
    let rest = spread new (left - 1) (chars behind) in
    record {
      utf8 = parts.back_utf8;
      fits = omega arith;
      so_far =
          ap (λ t. t ++ rest) (c.push-in-places.ensures.text ∙ ap (λ t. t ++ chars point) c.push.ensures.text)
          ∙ append_assoc (c.places.text.text ++ new) (chars point) rest
          ∙ append_assoc c.places.text.text new (chars point ++ rest)
          ∙ ap (λ t. c.places.text.text ++ t) (sym (spread-cut new c.places.rest.now point behind left (omega arith) parts))
          ∙ before.so_far;
    }

pub push-requires-2-clause-fits : goal.push-requires-2-clause-fits
push-requires-2-clause-fits c =
    let end = ap text_size (spread-end (chars c.args.new.now) c.places.left (chars c.places.rest.now) (omega arith)) in
    let size = size-chars c.places.rest.now c.places.invariant.utf8 in
    omega arith
