use Rattle.std.proofs.Common.{◌∙◌, subst}
use Rattle.th_commands.proofs.LimitLemmas.{Reads, limit_of_no_number, limit_of_number}
use Rattle.th_commands.proofs.blunder_limits.limit_in_unit.Goals as goal

pub returns-in-Ok : goal.returns-in-Ok
returns-in-Ok c =
    c.limit_of_count.ensures ∙ limit_of_number c.args.unit c.args.number.now c.in-Ok.count (subst (Reads c.args.number.now) c.in-Ok.is c.parse.ensures.value)

pub returns-in-Err : goal.returns-in-Err
returns-in-Err c =
    limit_of_no_number c.args.unit c.args.number.now _ c.requires (subst (Reads c.args.number.now) c.in-Err.is c.parse.ensures.value)
