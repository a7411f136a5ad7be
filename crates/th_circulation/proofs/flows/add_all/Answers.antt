use Rattle.std.proofs.Common.{◌≡◌, ◌<◌, ℤ, pos, ◌-ℤ◌, FitsSigned, List, get_or, length, of_z, rules, sym, to_z, w64, arith}
use Rattle.std.proofs.lemmas.Int.{ints, to_z-of_z}
use Rattle.std.proofs.lemmas.List.{get_or_default}
use Rattle.th_network.specs.declared.links.Link.{Link}
use Rattle.th_circulation.proofs.BalanceLemmas.{none_to, one_more}
use Rattle.th_circulation.proofs.flows.add_all.Goals as goal

pub loop-k-init : goal.loop-k-init
loop-k-init c = none_to c.args.graph.now.links.now c.args.flows.now c.args.balances.now c.requires.zero

pub loop-k-preserved : goal.loop-k-preserved
loop-k-preserved c =
    let links : List Link = c.args.graph.now.links.now in
    let flows : List ℤ = c.args.flows.now in
    let k = c.loop-k.k in
    let there : k < length flows = omega (arith, c.loop-k-test.true) in
    let within : k < length links = omega (arith, c.requires.each, there) in
    let none : Link = record { tail = 0; head = 0; diff = pos 0 } in
    let link : Link = get_or links k none in
    let fits : FitsSigned w64 (get_or flows k (pos 0)) = search rules in
    let own : ℤ = to_z w64 (of_z w64 (get_or flows k (pos 0))) in
    let negated = c.in_ok-checked_neg.ensures.1 in
    let small : FitsSigned w64 c.in_ok-checked_neg.field-0 = search rules in
    let same = to_z-of_z w64 c.in_ok-checked_neg.field-0 small in
    let turned : to_z w64 (of_z w64 c.in_ok-checked_neg.field-0) ≡ pos 0 -ℤ own = omega (arith, ints, same, negated) in
    one_more links flows k link own (to_z w64 (of_z w64 c.in_ok-checked_neg.field-0)) c.loop-k.balances c.add.new.balances c.add-in-loop-k.new.balances within there (sym (get_or_default links k link none within)) (to_z-of_z w64 (get_or flows k (pos 0)) fits) turned c.in_ok-add.ensures c.in_ok-add-2.ensures c.loop-k.invariant
