use Rattle.std.proofs.Common.{ℕ, Option, unwrap_or, ap}
use Rattle.th_picture.proofs.scales.step_of.Goals as goal

pub returns-in-Some-clause-value : goal.returns-in-Some-clause-value
returns-in-Some-clause-value c = ap (λ (found : Option ℕ). unwrap_or found 50000000000000000) c.in-Some.ensures.value

pub returns-in-None-clause-value : goal.returns-in-None-clause-value
returns-in-None-clause-value c = ap (λ (found : Option ℕ). unwrap_or found 50000000000000000) c.in-None.ensures.value
