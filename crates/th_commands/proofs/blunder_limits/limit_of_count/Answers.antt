use Rattle.std.proofs.Common.{◌<◌, ◌*◌, ◌^◌, ℕ, subst}
use Rattle.std.specs.Prelude.{Option, SomeIff}
use Rattle.th_commands.proofs.LimitLemmas.{no_limit}
use Rattle.th_commands.proofs.blunder_limits.limit_of_count.Goals as goal

pub returns-in-None : goal.returns-in-None
returns-in-None c =
    let product = c.args.unit * c.args.count in
    no_limit product (subst (λ (own : Option ℕ). SomeIff own (product < 2 ^ 32) product) c.in-None.is c.checked_mul.ensures)
