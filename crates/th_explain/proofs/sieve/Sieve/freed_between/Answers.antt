use Rattle.std.proofs.Common.{sym, subst}
use Rattle.th_changes.specs.declared.cases.Case.{Case}
use Rattle.th_explain.specs.Inside.Turns.{AreLines}
use Rattle.th_explain.proofs.sieve.Sieve.freed_between.Goals as goal

pub freed_by_turn-requires : goal.freed_by_turn-requires
freed_by_turn-requires c =
    subst (λ (case : Case). AreLines case.network.now c.args.number.now case.cost (record { before = c.line_of.result; flat = c.line_of-2.result; behind = c.line_of-3.result })) (sym c.keep_flat.ensures)
    (record { before = c.line_of.ensures; flat = c.line_of-2.ensures; behind = c.line_of-3.ensures })
