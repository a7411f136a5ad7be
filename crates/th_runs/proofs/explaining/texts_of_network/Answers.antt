use Rattle.std.proofs.Common.{ℤ, w64, subst}
use Rattle.std.proofs.lemmas.Int.{to_z-of_z}
use Rattle.th_explain_rows.specs.Explanations.{AreExplained}
use Rattle.th_runs.proofs.explaining.texts_of_network.Goals as goal

pub returns-clause-texts : goal.returns-clause-texts
returns-clause-texts g c = (
  c.in_ok-own.own,
  subst (λ (limit : ℤ). AreExplained c.args.network.now c.args.reviews.now limit c.in_ok-own.own) (to_z-of_z w64 c.args.limit c.ranges.limit) c.in_ok-own.ensures.explained,
  c.in_ok-printed.ensures,
)
