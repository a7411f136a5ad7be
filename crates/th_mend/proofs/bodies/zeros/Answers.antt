use Rattle.std.proofs.Common.{◌∙◌, arith}
use Rattle.std.proofs.lemmas.List.{take-replicate}
use Rattle.th_mend.proofs.bodies.zeros.Goals as goal

pub returns : goal.returns
returns c = c.data_of.ensures ∙ take-replicate c.args.count 16 48 (omega (arith, c.requires))
