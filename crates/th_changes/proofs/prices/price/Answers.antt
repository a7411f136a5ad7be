use Rattle.std.proofs.Common.{◌≡◌, ◌<◌, ◌∙◌, ◌*◌, ℕ, ℤ, pos, ◌+ℤ◌, ◌-ℤ◌, ◌*ℤ◌, FitsSigned, List, ap, get_or, length, of_z, rules, sym, to_z, unsigned_abs, w64, arith}
use Rattle.std.proofs.lemmas.Int.{ints, to_z-of_z}
use Rattle.std.proofs.lemmas.List.{get_or-map, get_or_default}
use Rattle.std.proofs.lemmas.Option.{get_or_from_slice_get}
use Rattle.th_observations.specs.Observed.{Observed}
use Rattle.th_network.specs.Links.{link_of}
use Rattle.th_network.specs.Networks.{weights_of}
use Rattle.th_network.specs.declared.links.Link.{Link}
use Rattle.th_tables.specs.Rows.{weight_of}
use Rattle.th_changes.specs.Numbers.{touch}
use Rattle.th_changes.proofs.PriceLemmas.{price_of}
use Rattle.th_changes.proofs.ReroutedLemmas.{link_at}
use Rattle.th_changes.proofs.prices.price.Goals as goal

pub returns : goal.returns
returns c o here =
    let survey = c.args.network.now in
    let number = c.args.number.now in
    let levels : List ℤ = c.args.heights.now in
    let x : ℤ = c.args.change in
    let observations : List Observed = survey.observations in
    let within : c.args.place < length observations = c.requires in
    let read : Observed = c.index-observations-place.result in
    let is_o : read ≡ o = c.index-observations-place.is ∙ ap (λ (os : List Observed). get_or os c.args.place read) c.observations-observations.ensures.observations ∙ get_or_default observations c.args.place read o within ∙ here in
    let touches : c.touch-touch.result ≡ touch number o = c.touch-touch.ensures.touch ∙ ap (touch number) is_o in
    let none : Link = record { tail = 0; head = 0; diff = pos 0 } in
    let link : Link = get_or c.arcs-arcs.result.now c.args.place none in
    let link_is : link ≡ link_of observations survey.benchmarks o = link_at survey c.arcs-arcs.result.now c.args.place none c.arcs-arcs.ensures.arcs within o here in
    let touch_fits : FitsSigned w64 c.touch-touch.result = search rules in
    let plain_touch = to_z-of_z w64 c.touch-touch.result touch_fits in
    let plain_change = to_z-of_z w64 x c.ranges.change in
    let residual_fits : FitsSigned w64 c.in_ok-residual.residual = search rules in
    let plain_residual = to_z-of_z w64 c.in_ok-residual.residual residual_fits in
    let product : to_z w64 (of_z w64 x) *ℤ to_z w64 (of_z w64 c.touch-touch.result) ≡ x *ℤ touch number o =
    ap (λ (z : ℤ). z *ℤ to_z w64 (of_z w64 c.touch-touch.result)) plain_change ∙ ap (λ (z : ℤ). x *ℤ z) (plain_touch ∙ touches) in
    let residual = c.in_ok-residual.ensures in
    let difference : c.in_ok-residual.residual ≡ link.diff +ℤ x *ℤ touch number o -ℤ (get_or levels link.head (pos 0) -ℤ get_or levels link.tail (pos 0)) = omega (arith, ints, residual, product) in
    let weighs : c.weight.result ≡ weight_of survey.weights o.station o.target =
    sym (get_or_from_slice_get (weights_of survey) c.args.place c.weight.result 0 c.weight.ensures.weight)
    ∙ get_or-map (λ (o : Observed). weight_of survey.weights o.station o.target) observations c.args.place o 0 within ∙ ap (λ (own : Observed). weight_of survey.weights own.station own.target) here in
    let size : c.unsigned_abs.result ≡ unsigned_abs c.in_ok-residual.residual = c.unsigned_abs.ensures.value ∙ ap unsigned_abs plain_residual in
    let times : c.in_ok-price.price ≡ c.weight.result * unsigned_abs c.in_ok-residual.residual = c.in_ok-price.ensures.1 ∙ ap (λ (w : ℕ). w * c.from.result) c.from-weight.ensures ∙ ap (λ (r : ℕ). c.weight.result * r) (c.from.ensures ∙ size) in
    price_of survey number x levels o link c.in_ok-price.price c.weight.result c.in_ok-residual.residual link_is difference weighs times
