use Rattle.std.proofs.Common.{subst, sym}
use Rattle.th_changes.specs.Lines.{IsCostlyBeyond, IsLine}
use Rattle.th_changes.specs.declared.cases.Case.{Case}
use Rattle.th_explain.proofs.sieve.Sieve.is_kept_costly.Goals as goal

pub returns-in-Some-kept_line-clause-costly : goal.returns-in-Some-kept_line-clause-costly
returns-in-Some-kept_line-clause-costly c holds =
    let number = c.args.number.now in
    let own : Case = c.list_lines.new.self.case.now in
    let given = subst (λ (case : Case). IsLine case.network.now number case.cost c.args.given.now) (sym c.list_lines.ensures) c.requires in
    subst (λ (case : Case). IsCostlyBeyond case.network.now number case.cost c.args.limit) c.list_lines.ensures
    (c.are_costly_beyond-in-Some-kept_line.ensures holds own.network.now number own.cost c.in-Some-kept_line.ensures given)
