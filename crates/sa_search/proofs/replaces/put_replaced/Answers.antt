use Rattle.std.proofs.Common.{◌-◌, ◌++◌, ap, sym, ◌∙◌, arith, append_assoc}
use Rattle.std.specs.Str.{chars}
use Rattle.sa_text.specs.Texts.{text_size}
use Rattle.sa_search.specs.Replaces.{replaced}
use Rattle.sa_search.proofs.CountLemmas.{count-cut, count-none}
use Rattle.sa_search.proofs.CutLemmas.{some-points, size-chars}
use Rattle.sa_search.proofs.ReplaceLemmas.{replaced-cut, replaced-cut-size, replaced-end}
use Rattle.sa_search.proofs.replaces.put_replaced.Goals as goal

pub unreachable-requires : goal.unreachable-requires
unreachable-requires c =
    let none = count-none (chars c.args.part.now) (chars c.places.rest.now) c.in_default.ensures in
    omega arith

pub push-requires-clause-fits : goal.push-requires-clause-fits
push-requires-clause-fits c =
    let some = some-points c.args.part.now c.requires.part_utf8 c.requires.some in
    let size = replaced-cut-size (chars c.args.part.now) (chars c.args.new.now) c.places.rest.now c.in-Some.first.now c.in-Some.behind.now c.places.left (omega arith) some c.in-Some.ensures in
    omega arith

pub push-requires-in-places-clause-fits : goal.push-requires-in-places-clause-fits
push-requires-in-places-clause-fits c =
    let some = some-points c.args.part.now c.requires.part_utf8 c.requires.some in
    let size = replaced-cut-size (chars c.args.part.now) (chars c.args.new.now) c.places.rest.now c.in-Some.first.now c.in-Some.behind.now c.places.left (omega arith) some c.in-Some.ensures in
    let new = size-chars c.args.new.now c.requires.new_utf8 in
    omega arith

pub places-preserved : goal.places-preserved
places-preserved c =
    let part = chars c.args.part.now in
    let new = chars c.args.new.now in
    let first = c.in-Some.first.now in
    let behind = c.in-Some.behind.now in
    let left = c.places.left in
    let cut = c.in-Some.ensures in
    let before = c.places.invariant in
    let some = some-points c.args.part.now c.requires.part_utf8 c.requires.some in
    let more = count-cut c.places.rest.now part first behind some cut in
    let size = replaced-cut-size part new c.places.rest.now first behind left (omega arith) some cut in
    let new_size = size-chars c.args.new.now c.requires.new_utf8 in
    let rest = replaced part new (left - 1) 0 (chars behind) in
    record {
      utf8 = cut.back_utf8;
      counted = omega arith;
      fits = omega arith;
      so_far =
          ap (λ t. t ++ rest) (c.push-in-places.ensures.text ∙ ap (λ t. t ++ new) c.push.ensures.text)
          ∙ append_assoc (c.places.text.text ++ chars first) new rest
          ∙ append_assoc c.places.text.text (chars first) (new ++ rest)
          ∙ ap (λ t. c.places.text.text ++ t) (sym (replaced-cut part new c.places.rest.now first behind left (omega arith) some cut))
          ∙ before.so_far;
    }

pub push-requires-2-clause-fits : goal.push-requires-2-clause-fits
push-requires-2-clause-fits c =
    let end = ap text_size (replaced-end (chars c.args.part.now) (chars c.args.new.now) c.places.left (chars c.places.rest.now) (omega arith)) in
    let size = size-chars c.places.rest.now c.places.invariant.utf8 in
    omega arith

pub returns : goal.returns
returns c =
    let end = replaced-end (chars c.args.part.now) (chars c.args.new.now) c.places.left (chars c.places.rest.now) (omega arith) in
    c.push-2.ensures.text ∙ ap (λ t. c.places.text.text ++ t) (sym end) ∙ c.places.invariant.so_far
