use Rattle.std.proofs.Common.{◌≡◌, ◌<◌, ◌≤◌, ◌+ℤ◌, ◌*ℤ◌, ℤ, pos, FitsSigned, List, ap, get_or, length, of_z, rules, sym, to_z, unsigned_abs, w64, ◌∙◌, arith}
use Rattle.std.specs.Int.{w128}
use Rattle.std.proofs.lemmas.Int.{fits_signed_from_abs, ints, to_z-of_z}
use Rattle.std.proofs.lemmas.List.{get_or_default}
use Rattle.std.proofs.lemmas.List.Elements.{All-get_or}
use Rattle.th_observations.specs.Observed.{Observed}
use Rattle.th_tables.specs.Limits.{max_weight}
use Rattle.th_network.specs.Links.{link_difference, link_of}
use Rattle.th_network.specs.declared.links.Link.{Link}
use Rattle.th_changes.proofs.ValueLemmas.{summed_all, summed_more, summed_to}
use Rattle.th_changes.proofs.PriceLemmas.{nowhere}
use Rattle.th_changes.proofs.ReroutedLemmas.{link_at}
use Rattle.th_changes.proofs.kept.value_of.Goals as goal

pub loop-k-preserved : goal.loop-k-preserved
loop-k-preserved c =
    let survey = c.args.network.now in
    let observations : List Observed = survey.observations in
    let flows : List ℤ = c.args.flows.now in
    let k = c.loop-k.k in
    let f : Observed → ℤ = link_difference survey.benchmarks in
    let there : k < length flows = omega (arith, c.loop-k-test.true) in
    let within : k < length observations = omega (arith, c.requires.each, there) in
    let o : Observed = get_or observations k nowhere in
    let is : get_or observations k o ≡ o = get_or_default observations k o nowhere within in
    let none : Link = record { tail = 0; head = 0; diff = pos 0 } in
    let link : Link = get_or c.arcs-arcs.result.now k none in
    let link_is : link ≡ link_of observations survey.benchmarks o = link_at survey c.arcs-arcs.result.now k none c.arcs-arcs.ensures.arcs within o is in
    let flow : ℤ = get_or flows k (pos 0) in
    let light : unsigned_abs flow ≤ max_weight = All-get_or (λ flow. unsigned_abs flow ≤ max_weight) flows k (pos 0) there c.requires.in_range in
    let plain : to_z w64 (of_z w64 flow) ≡ flow = to_z-of_z w64 flow (fits_signed_from_abs w64 flow (omega (arith, light))) in
    let diff_fits : FitsSigned w64 link.diff = search rules in
    let diff : to_z w64 (of_z w64 link.diff) ≡ f o = to_z-of_z w64 link.diff diff_fits ∙ ap (λ (l : Link). l.diff) link_is in
    let product : to_z w64 (of_z w64 flow) *ℤ to_z w64 (of_z w64 link.diff) ≡ flow *ℤ f o = ap (λ z. z *ℤ to_z w64 (of_z w64 link.diff)) plain ∙ ap (λ z. flow *ℤ z) diff in
    let more = summed_more f observations flows k o within there (sym is) in
    let before = c.loop-k.invariant in
    let sum = c.in_ok-value.ensures in
    let value_fits : FitsSigned w128 c.in_ok-value.value = search rules in
    let plain_value = to_z-of_z w128 c.in_ok-value.value value_fits in
    let was = c.loop-k.value-is in
    omega (arith, ints, product, more, before, sum, plain_value, was)

pub returns : goal.returns
returns c =
    let survey = c.args.network.now in
    c.loop-k.invariant ∙ summed_all (link_difference survey.benchmarks) survey.observations c.args.flows.now c.loop-k.k c.requires.each (omega (arith, c.requires.each, c.loop-k-test.false))
