use Rattle.std.proofs.Common.{◌∷◌, length, sym, ap, ◌∙◌, arith, option_map, subst, ◌<◌}
use Rattle.sa_script.specs.FixedTexts.{unit_of, units_in, kept}
use Rattle.sa_script.proofs.FixedTextLemmas.{kept_behind, kept-behind, kept-first, kept-none, kept-few, left_behind, left-falls, parts_behind, units-first, units-none, units-wrong, units-more}
use Rattle.sa_script.proofs.fixed_text.units_spelled.Goals.{then-is_empty, else-is_empty}
use Rattle.sa_script.proofs.fixed_text.units_spelled.Goals as goal

pub parts-init : goal.parts-init
parts-init c =
    let size = ap length c.new-units.ensures in
    record {
      few = omega arith;
      same = ap (λ units. kept_behind units (units_in (parts_behind (option_map (λ r. r.now) c.if-is_empty.rest)))) c.new-units.ensures ∙ kept-first _
          ∙ ap (option_map kept) (
          elim c.if-is_empty.branch [
            | then-is_empty w ↦ ap (λ o. units_in (parts_behind (option_map (λ r. r.now) o))) w.rest-is ∙ units-none c.args.bytes.now (sym c.is_empty.ensures ∙ w.if-is_empty.true)
            | else-is_empty w ↦ ap (λ o. units_in (parts_behind (option_map (λ r. r.now) o))) w.rest-is ∙ units-first c.args.bytes.now (sym c.is_empty.ensures ∙ w.if-is_empty.false)
          ]
          );
    }

pub returns-in_default-unit_of : goal.returns-in_default-unit_of
returns-in_default-unit_of c =
    let wrong = ap unit_of (sym c.cut_at.ensures.before) ∙ sym c.unit_of.ensures ∙ c.in_default-unit_of.is in
    sym (ap (λ o. kept_behind c.parts.units (units_in (parts_behind (option_map (λ r. r.now) o)))) c.in-Some.is ∙ ap (kept_behind c.parts.units) (units-wrong c.in-Some.behind.now wrong)) ∙ c.parts.invariant.same

pub keep-requires : goal.keep-requires
keep-requires c = c.parts.invariant.few

pub parts-smaller : goal.parts-smaller
parts-smaller c =
    subst (λ o. left_behind (option_map (λ r. r.now) c.cut_at.result.1) < left_behind (option_map (λ r. r.now) o)) (sym c.in-Some.is)
    (left-falls (λ r. r.now) c.cut_at.result.1 (length c.in-Some.behind.now) c.cut_at.ensures.shorter)

pub parts-preserved : goal.parts-preserved
parts-preserved c =
    let right = ap unit_of (sym c.cut_at.ensures.before) ∙ sym c.unit_of.ensures ∙ c.in-Some-unit_of.is in
    let unit = c.in-Some-unit_of.unit in
    record {
      few = kept-few c.keep.new.cells c.parts.units unit c.in_ok-keep.ensures;
      same = ap (λ units. kept_behind units (units_in (parts_behind (option_map (λ r. r.now) c.cut_at.result.1)))) c.in_ok-keep.ensures
          ∙ kept-behind c.parts.units unit (units_in (parts_behind (option_map (λ r. r.now) c.cut_at.result.1)))
          ∙ ap (kept_behind c.parts.units) (
          ap (λ o. option_map (λ more. unit ∷ more) (units_in (parts_behind o))) c.cut_at.ensures.behind
          ∙ sym (units-more c.in-Some.behind.now unit right)
          ∙ ap (λ o. units_in (parts_behind (option_map (λ r. r.now) o))) (sym c.in-Some.is)
          )
          ∙ c.parts.invariant.same;
    }

pub returns : goal.returns
returns c = sym (ap (λ o. kept_behind c.parts.units (units_in (parts_behind (option_map (λ r. r.now) o)))) c.in_default.is ∙ kept-none c.parts.units c.parts.invariant.few) ∙ c.parts.invariant.same
