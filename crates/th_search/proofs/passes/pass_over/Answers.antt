use Rattle.std.proofs.Common.{refl}
use Rattle.th_search.proofs.passes.pass_over.Goals as goal

pub returns-in-None-clause-forest : goal.returns-in-None-clause-forest
returns-in-None-clause-forest c is = rw c.deref.ensures.value at (c.in-None.ensures.none refl)
