use Rattle.std.proofs.Common.{subst, sym}
use Rattle.th_explain.specs.Explained.{IsExact}
use Rattle.th_explain.proofs.BracketLemmas.{ends_are_exact}
use Rattle.th_explain.proofs.freed.flat_at.Goals as goal

pub returns : goal.returns
returns c = record {
  exact = subst (IsExact c.args.network.now c.args.number.now) (sym c.from_to.ensures)
      (ends_are_exact c.args.network.now c.args.number.now c.in_ok-low.low c.in_ok-high.high c.in_ok-low.ensures.lowest c.in_ok-high.ensures.highest);
}
