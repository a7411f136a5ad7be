use Rattle.std.proofs.Common.{◌≤◌, FitsSigned, rules, subst, w64, arith}
use Rattle.std.proofs.lemmas.Int.{ints}
use Rattle.std.specs.Prelude.{IfSome, Option}
use Rattle.th_changes.specs.Reach.{reach_of}
use Rattle.th_changes.specs.declared.cases.Case.{Case}
use Rattle.th_explain.specs.Explained.{IsExact}
use Rattle.th_explain.specs.declared.freed.Freed.{Freed}
use Rattle.th_explain.proofs.ReachLemmas.{exact_in_reach}
use Rattle.th_explain.proofs.reaching.least_left.Goals as goal

pub returns-clause-least : goal.returns-clause-least
returns-clause-least c =
    let survey = c.args.sieve.now.case.now.network.now in
    let number = c.args.number.now in
    let reach = c.reach_of.ensures.reach in
    let within = subst (λ (case : Case). c.reach_of.result ≤ reach_of number case.network.now.observations) c.freed_by_simplex.ensures.case (omega (arith, reach)) in
    let low_fits : FitsSigned w64 c.in-Some.freed.low = search rules in
    let value = c.unsigned_abs.ensures.value in
    let near = c.if-unsigned_abs-reach_of.true in
    let exact = subst (λ (own : Option Freed). IfSome own (IsExact survey number)) c.in-Some.is c.in_ok-freed.ensures.exact in
    exact_in_reach survey number c.in-Some.freed exact (omega (arith, ints, within, value, near))
