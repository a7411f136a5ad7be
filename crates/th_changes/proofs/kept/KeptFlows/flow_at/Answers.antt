use Rattle.std.proofs.Common.{◌≡◌, ◌<◌, ◌≤◌, ◌+◌, ℤ, pos, ◌-ℤ◌, FitsSigned, List, ap, get_or, length, of_z, rules, to_z, unsigned_abs, w64, ◌∙◌, arith}
use Rattle.std.proofs.lemmas.Int.{to_z-of_z}
use Rattle.std.proofs.lemmas.List.Elements.{All-get_or}
use Rattle.th_tables.specs.Limits.{max_weight}
use Rattle.th_changes.specs.Inside.Sums.{flows_of}
use Rattle.th_changes.proofs.SumLemmas.{difference_of}
use Rattle.th_changes.proofs.kept.KeptFlows.flow_at.Goals as goal

read : (c : goal.After-flow_at) → to_z w64 (of_z w64 c.flow_at.result) ≡ get_or (flows_of c.args.self.now.sums.items) c.args.place (pos 0)
read c =
    let own = c.args.self.now in
    let sums : List ℤ = own.sums.items in
    let place = c.args.place in
    let there : place < length (flows_of sums) = omega (arith, own.kept.each_flow.each, c.requires) in
    let fits : FitsSigned w64 c.flow_at.result = search rules in
    to_z-of_z w64 c.flow_at.result fits ∙ c.flow_at.ensures
    ∙ ap (λ (sums : List ℤ). get_or sums (place + 1) (pos 0) -ℤ get_or sums place (pos 0)) c.deref.ensures.value
    ∙ difference_of (flows_of sums) sums place own.are_sums there

pub returns-clause-flow : goal.returns-clause-flow
returns-clause-flow c = read c

pub returns-clause-light : goal.returns-clause-light
returns-clause-light c =
    let own = c.args.self.now in
    let flows : List ℤ = flows_of own.sums.items in
    let there : c.args.place < length flows = omega (arith, own.kept.each_flow.each, c.requires) in
    let light : unsigned_abs (get_or flows c.args.place (pos 0)) ≤ max_weight = All-get_or (λ flow. unsigned_abs flow ≤ max_weight) flows c.args.place (pos 0) there own.kept.each_flow.in_range in
    omega (arith, light, ap unsigned_abs (read c))
