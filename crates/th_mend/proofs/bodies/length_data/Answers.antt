use Rattle.std.proofs.Common.{subst, sym}
use Rattle.th_mend.specs.Inside.Bodies.{IsBody}
use Rattle.th_mend.proofs.BodyLemmas.{digits_body}
use Rattle.th_mend.proofs.bodies.length_data.Goals as goal

pub returns-clause-fits : goal.returns-clause-fits
returns-clause-fits c = subst IsBody (sym c.digits.ensures) (digits_body c.args.width _)
