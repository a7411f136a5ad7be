use Rattle.std.proofs.Common.{◌≡◌, ◌<◌, ◌≤◌, ◌+◌, ◌*◌, ℤ, pos, ◌+ℤ◌, ◌*ℤ◌, List, ap, get_or, length, of_z, sym, to_z, unsigned_abs, w64, refl, ◌∙◌, arith}
use Rattle.std.proofs.lemmas.Int.{fits_signed_from_abs, ints, to_z-of_z}
use Rattle.th_observations.specs.Observed.{Observed}
use Rattle.th_changes.specs.Inside.Sums.{flows_of}
use Rattle.th_changes.specs.Numbers.{touch}
use Rattle.th_changes.proofs.NetLemmas.{net_before, net_behind, net_to}
use Rattle.th_changes.proofs.SlopeLemmas.{net_more}
use Rattle.th_changes.proofs.kept.KeptFlows.net_by_touch.Goals as goal

pub loop-i-init : goal.loop-i-init
loop-i-init c =
    let own = c.args.self.now in
    record {
      sum = net_before c.args.number.now own.case.now.network.now (flows_of own.sums.items) c.args.run own.kept.each_flow.each c.requires;
      small = omega arith;
    }

pub loop-i-preserved : goal.loop-i-preserved
loop-i-preserved c =
    let own = c.args.self.now in
    let number = c.args.number.now in
    let observations : List Observed = own.case.now.network.now.observations in
    let sums : List ℤ = own.sums.items in
    let flows : List ℤ = flows_of sums in
    let each = own.kept.each_flow.each in
    let i = c.loop-i.i in
    let o : Observed = c.index-observations-i.result in
    let all = c.observations-observations.ensures.observations in
    let few = c.observations-observations.ensures.few in
    let within : i < length observations = omega (arith, c.requires.within, c.loop-i-test.true) in
    let there : i < length flows = omega (arith, each, within) in
    let flow : ℤ = get_or flows i (pos 0) in
    let light = c.flow_at.ensures.light in
    let plain : to_z w64 (of_z w64 c.flow_at.result) ≡ flow = to_z-of_z w64 c.flow_at.result (fits_signed_from_abs w64 c.flow_at.result (omega (arith, light))) ∙ c.flow_at.ensures.flow in
    let same : o ≡ get_or observations i o = c.index-observations-i.is ∙ ap (λ (os : List Observed). get_or os i o) all in
    let times : c.times-net.result ≡ flow *ℤ touch number o = c.times-net.ensures.times ∙ ap (λ z. z *ℤ touch number o) plain in
    let less = c.times-net.ensures.small in
    let flow_size = ap unsigned_abs c.flow_at.ensures.flow in
    let size = ap unsigned_abs plain in
    let before : ℤ = net_to number observations flows i in
    let more : net_to number observations flows (i + 1) ≡ before +ℤ c.times-net.result = net_more number observations flows i o flow within there same refl ∙ ap (λ z. before +ℤ z) (sym times) in
    let so_far = c.loop-i.invariant in
    record {
      sum = omega (arith, ints, more, so_far.sum);
      small = omega (arith, ints, light, flow_size, size, less, so_far.small);
    }

pub returns : goal.returns
returns c =
    let own = c.args.self.now in
    let number = c.args.number.now in
    let observations : List Observed = own.case.now.network.now.observations in
    let flows : List ℤ = flows_of own.sums.items in
    let last : c.loop-i.i ≡ c.args.run.end = omega (arith, c.requires.ordered, c.loop-i.auto.i-end, c.loop-i-test.false) in
    c.loop-i.invariant.sum ∙ ap (net_to number observations flows) last ∙ net_behind number own.case.now.network.now flows c.args.run own.kept.each_flow.each c.requires
