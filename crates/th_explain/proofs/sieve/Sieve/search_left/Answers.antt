use Rattle.std.proofs.Common.{subst, sym}
use Rattle.th_changes.specs.Lines.{IsLine, LeavesAtLeast}
use Rattle.th_changes.specs.declared.cases.Case.{Case}
use Rattle.th_explain.proofs.sieve.Sieve.search_left.Goals as goal

pub is_left_by_ways-requires : goal.is_left_by_ways-requires
is_left_by_ways-requires c = subst (λ (case : Case). IsLine case.network.now c.args.number.now case.cost c.line-given.result) (sym c.list_lines.ensures) c.line-given.ensures

pub returns-clause-left : goal.returns-clause-left
returns-clause-left c holds = subst (λ (case : Case). LeavesAtLeast case.network.now c.args.number.now c.args.least) c.list_lines.ensures (c.is_left_by_ways.ensures.left holds)
