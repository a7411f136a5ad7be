use Rattle.std.proofs.Common.{subst}
use Rattle.th_changes.specs.Lines.{IsLine}
use Rattle.th_changes.specs.declared.cases.Case.{Case}
use Rattle.th_explain.proofs.sieve.Sieve.kept_line.Goals as goal

pub returns : goal.returns
returns c = subst (λ (own : Case). IsLine own.network.now c.args.number.now own.cost c.line.result) c.in_ok-kept.ensures c.line.ensures
