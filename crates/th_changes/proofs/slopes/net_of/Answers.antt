use Rattle.std.proofs.Common.{◌≡◌, ◌<◌, ◌≤◌, ◌+◌, ℤ, pos, ◌+ℤ◌, ◌*ℤ◌, List, ap, get_or, length, of_z, sym, take, to_z, unsigned_abs, w64, refl, ◌∙◌, arith}
use Rattle.std.proofs.lemmas.Int.{fits_signed_from_abs, ints, to_z-of_z}
use Rattle.std.proofs.lemmas.List.Elements.{All-get_or}
use Rattle.std.specs.List.{zip}
use Rattle.th_observations.specs.Observed.{Observed}
use Rattle.th_network.specs.Circulation.{total_by}
use Rattle.th_tables.specs.Limits.{max_weight}
use Rattle.th_changes.specs.Numbers.{touch}
use Rattle.th_changes.proofs.SlopeLemmas.{net_all, net_more, nets}
use Rattle.th_changes.proofs.slopes.net_of.Goals as goal

pub loop-i-preserved : goal.loop-i-preserved
loop-i-preserved c =
    let number = c.args.number.now in
    let observations : List Observed = c.args.network.now.observations in
    let flows : List ℤ = c.args.flows.now in
    let i = c.loop-i.i in
    let o : Observed = c.o-item.result in
    let all = c.observations-o-items.ensures.observations in
    let few = c.observations-o-items.ensures.few in
    let within : i < length observations = omega (arith, ap length all, c.loop-i-test.true) in
    let there : i < length flows = omega (arith, c.requires.each) in
    let flow : ℤ = get_or flows i (pos 0) in
    let light : unsigned_abs flow ≤ max_weight = All-get_or (λ flow. unsigned_abs flow ≤ max_weight) flows i (pos 0) there c.requires.in_range in
    let plain : to_z w64 (of_z w64 flow) ≡ flow = to_z-of_z w64 flow (fits_signed_from_abs w64 flow (omega (arith, light))) in
    let same : o ≡ get_or observations i o = c.o-item.is ∙ ap (λ (os : List Observed). get_or os i o) all in
    let times : c.times-net.result ≡ flow *ℤ touch number o = c.times-net.ensures.times ∙ ap (λ z. z *ℤ touch number o) plain in
    let less = c.times-net.ensures.small in
    let size = ap unsigned_abs plain in
    let before : ℤ = total_by (nets number) (take i (zip observations flows)) in
    let more : total_by (nets number) (take (i + 1) (zip observations flows)) ≡ before +ℤ c.times-net.result = net_more number observations flows i o flow within there same refl ∙ ap (λ z. before +ℤ z) (sym times) in
    let so_far = c.loop-i.invariant in
    record {
      sum = omega (arith, ints, more, so_far.sum);
      small = omega (arith, ints);
    }

pub returns-clause-net : goal.returns-clause-net
returns-clause-net c =
    let all = ap length c.observations-o-items.ensures.observations in
    c.loop-i.invariant.sum ∙ net_all c.args.number.now c.args.network.now c.args.flows.now c.loop-i.i c.requires.each (omega (arith, c.loop-i-test.false))
