use Rattle.std.proofs.Common.{subst}
use Rattle.std.specs.Prelude.{IfSome, Option}
use Rattle.th_changes.specs.Lines.{IsLine, LeavesAtLeast}
use Rattle.th_changes.specs.declared.cases.Case.{Case}
use Rattle.th_changes.specs.declared.lines.Line.{Line}
use Rattle.th_explain.proofs.sieve.Sieve.is_kept_left.Goals as goal

pub returns-in-Some-Some-clause-left : goal.returns-in-Some-Some-clause-left
returns-in-Some-Some-clause-left c holds =
    let number = c.args.number.now in
    let own : Case = c.pair.new.self.case.now in
    let first = subst (λ (line : Option Line). IfSome line (IsLine own.network.now number own.cost)) c.in-Some-Some.is-0 c.line_at-first.ensures in
    let second = subst (λ (line : Option Line). IfSome line (IsLine own.network.now number own.cost)) c.in-Some-Some.is-1 c.kept_line-second.ensures in
    subst (λ (case : Case). LeavesAtLeast case.network.now number c.args.least) c.pair.ensures (c.leave_at_least.ensures holds own.network.now number first second)
