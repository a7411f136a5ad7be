use Rattle.std.proofs.Common.{◌<◌, length, map, arith, rules, subst, sym, inr}
use Rattle.std.proofs.lemmas.List.{length-map}
use Rattle.th_commands.specs.Plans.{IsFaultOf}
use Rattle.th_commands.proofs.PlanLemmas.{are_taken, argument_fault_is, at_err, found_is, is_plan, nothing_asked, other_kind, refused}
use Rattle.th_commands.proofs.command_lines.plan.Goals as goal

pub returns-in_err-matches-clause-err : goal.returns-in_err-matches-clause-err
returns-in_err-matches-clause-err g c =
    let words = map g.S.AsStr.text c.args.words.now in
    let more : 1 < length words = omega (arith, length-map c.args.words.now g.S.AsStr.text) in
    at_err _ _ (IsFaultOf words) c.from_residual-in_err-matches.ensures.1
    (λ fault gives. refused words _ _ fault more c.in_ok-command.ensures c.in_err-matches.ensures.kinds gives)

pub returns-in-Some-clause-ok : goal.returns-in-Some-clause-ok
returns-in-Some-clause-ok g c =
    let words = map g.S.AsStr.text c.args.words.now in
    let more : 1 < length words = omega (arith, length-map c.args.words.now g.S.AsStr.text) in
    let taken = are_taken words _ c.in_ok-command.ensures c.in_ok-matches.ensures.kinds in
    let found = found_is words _ _ c.in_ok-command.ensures c.in_ok-matches.ensures.ok.2 in
    is_plan words c.in-Some.plan _ more taken found c.in-Some.ensures

pub returns-in-Some-argument_fault_of-clause-err : goal.returns-in-Some-argument_fault_of-clause-err
returns-in-Some-argument_fault_of-clause-err g c =
    let words = map g.S.AsStr.text c.args.words.now in
    let more : 1 < length words = omega (arith, length-map c.args.words.now g.S.AsStr.text) in
    let taken = are_taken words _ c.in_ok-command.ensures c.in_ok-matches.ensures.kinds in
    let found = found_is words _ _ c.in_ok-command.ensures c.in_ok-matches.ensures.ok.2 in
    let none = nothing_asked words _ found (search rules) in
    (more, taken, none, argument_fault_is words _ _ found c.in-Some-argument_fault_of.ensures)

pub returns-in_err-error-in-None-clause-err : goal.returns-in_err-error-in-None-clause-err
returns-in_err-error-in-None-clause-err g c =
    let words = map g.S.AsStr.text c.args.words.now in
    let more : 1 < length words = omega (arith, length-map c.args.words.now g.S.AsStr.text) in
    at_err _ _ (IsFaultOf words) c.from_residual-in_err-error-in-None.ensures.1
    (λ fault gives. subst (IsFaultOf words) (sym gives) more)

pub returns-clause-err : goal.returns-clause-err
returns-clause-err g c =
    let words = map g.S.AsStr.text c.args.words.now in
    let more : 1 < length words = omega (arith, length-map c.args.words.now g.S.AsStr.text) in
    let taken = are_taken words _ c.in_ok-command.ensures c.in_ok-matches.ensures.kinds in
    let found = found_is words _ _ c.in_ok-command.ensures c.in_ok-matches.ensures.ok.2 in
    let none = nothing_asked words _ found (search rules) in
    let no_fault = argument_fault_is words _ _ found c.in-None.ensures in
    (more, (λ memory. other_kind _ c.in_ok-error-in-None.ensures.kind memory), inr (taken, none, no_fault))
