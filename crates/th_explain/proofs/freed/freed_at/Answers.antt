use Rattle.std.proofs.Common.{FitsSigned, ap, rules, subst, sym, to_z, w64, ◌∙◌, arith}
use Rattle.std.proofs.lemmas.Int.{ints, to_z-of_z}
use Rattle.th_explain.specs.Explained.{IsExact}
use Rattle.th_explain.proofs.BracketLemmas.{shown_is_exact}
use Rattle.th_explain.proofs.freed.freed_at.Goals as goal

pub returns : goal.returns
returns c =
    let low_fits : FitsSigned w64 c.args.low.now.slope = search rules in
    let high_fits : FitsSigned w64 c.args.high.now.slope = search rules in
    let flat_fits : FitsSigned w64 c.args.flat.now.slope = search rules in
    record {
      exact = subst (IsExact c.args.network.now c.args.number.now) (sym c.from_to.ensures)
          (shown_is_exact c.args.network.now c.args.number.now c.args.low.now c.args.flat.now c.args.high.now c.requires.low c.requires.flat c.requires.high
          (omega (arith, ints, c.if-low-ge0.false)) (sym (to_z-of_z w64 c.args.flat.now.slope flat_fits) ∙ ap (to_z w64) c.if-flat-ne0.false) (omega (arith, ints, c.if-high-le0.false))
          c.if-low-flat.false c.if-high-flat.false);
    }
