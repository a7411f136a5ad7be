use Rattle.std.proofs.Common.{◌≡◌, ◌<◌, ◌≤◌, ◌+◌, ℤ, pos, ◌+ℤ◌, ◌*ℤ◌, List, ap, get_or, length, of_z, sym, to_z, unsigned_abs, w64, refl, ◌∙◌, arith}
use Rattle.std.proofs.lemmas.Int.{fits_signed_from_abs, ints, to_z-of_z}
use Rattle.std.proofs.lemmas.List.Elements.{All-get_or}
use Rattle.th_observations.specs.Observed.{Observed}
use Rattle.th_tables.specs.Limits.{max_weight}
use Rattle.th_changes.specs.Numbers.{touch}
use Rattle.th_changes.proofs.NetLemmas.{net_before, net_behind, net_to}
use Rattle.th_changes.proofs.SlopeLemmas.{net_more}
use Rattle.th_changes.proofs.nets.net_by_touch.Goals as goal

pub loop-i-init : goal.loop-i-init
loop-i-init c = record {
  sum = net_before c.args.number.now c.args.network.now c.args.flows.now c.args.run c.requires.flows.each c.requires.run;
  small = omega arith;
}

pub loop-i-preserved : goal.loop-i-preserved
loop-i-preserved c =
    let number = c.args.number.now in
    let observations : List Observed = c.args.network.now.observations in
    let flows : List ℤ = c.args.flows.now in
    let i = c.loop-i.i in
    let o : Observed = c.index-observations-i.result in
    let all = c.observations-observations.ensures.observations in
    let few = c.observations-observations.ensures.few in
    let run = c.requires.run in
    let within : i < length observations = omega (arith, run.within, c.loop-i-test.true) in
    let there : i < length flows = omega (arith, c.requires.flows.each) in
    let flow : ℤ = get_or flows i (pos 0) in
    let light : unsigned_abs flow ≤ max_weight = All-get_or (λ flow. unsigned_abs flow ≤ max_weight) flows i (pos 0) there c.requires.flows.in_range in
    let plain : to_z w64 (of_z w64 flow) ≡ flow = to_z-of_z w64 flow (fits_signed_from_abs w64 flow (omega (arith, light))) in
    let same : o ≡ get_or observations i o = c.index-observations-i.is ∙ ap (λ (os : List Observed). get_or os i o) all in
    let times : c.times-net.result ≡ flow *ℤ touch number o = c.times-net.ensures.times ∙ ap (λ z. z *ℤ touch number o) plain in
    let less = c.times-net.ensures.small in
    let size = ap unsigned_abs plain in
    let before : ℤ = net_to number observations flows i in
    let more : net_to number observations flows (i + 1) ≡ before +ℤ c.times-net.result = net_more number observations flows i o flow within there same refl ∙ ap (λ z. before +ℤ z) (sym times) in
    let so_far = c.loop-i.invariant in
    record {
      sum = omega (arith, ints, more, so_far.sum);
      small = omega (arith, ints);
    }

pub returns-clause-net : goal.returns-clause-net
returns-clause-net c =
    let number = c.args.number.now in
    let observations : List Observed = c.args.network.now.observations in
    let flows : List ℤ = c.args.flows.now in
    let last : c.loop-i.i ≡ c.args.run.end = omega (arith, c.requires.run.ordered, c.loop-i.auto.i-end, c.loop-i-test.false) in
    c.loop-i.invariant.sum ∙ ap (net_to number observations flows) last ∙ net_behind number c.args.network.now flows c.args.run c.requires.flows.each c.requires.run
