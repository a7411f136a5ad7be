use Rattle.std.proofs.Common.{◌≡◌, ◌<◌, ◌≤◌, ◌+◌, ◌*◌, pos, length, get_or, unsigned_abs, ap, ◌∙◌, arith}
use Rattle.std.proofs.Common.{ℕ, ℤ, List, Some, slice_get, sum_by, take, sym}
use Rattle.std.specs.List.{zip}
use Rattle.std.proofs.lemmas.List.{take_all}
use Rattle.std.proofs.lemmas.List.Sums.{sum_by_more}
use Rattle.std.proofs.lemmas.Slice.Zip.{get_or-zip, length-zip}
use Rattle.std.proofs.lemmas.Option.{slice_get-get_or}
use Rattle.std.proofs.lemmas.List.Elements.{All-get_or}
use Rattle.th_observations.specs.Observed.{Observed}
use Rattle.std.proofs.lemmas.List.{length-map}
use Rattle.th_tables.specs.Limits.{max_weight}
use Rattle.th_tables.specs.Rows.{weight_of}
use Rattle.th_network.specs.Networks.{IsWeight, weights_of}
use Rattle.std.proofs.lemmas.Int.{ints}
use Rattle.th_blunders.specs.Residuals.{residual_limit}
use Rattle.th_blunders.proofs.CostLemmas.{bounded-more, cost-more}
use Rattle.th_blunders.proofs.costs.cost.Goals as goal

-- the weighted size
abbrev weighted : ℕ × ℤ → ℕ
weighted pair = pair.0 * unsigned_abs pair.1

-- the size that was added is that of the residual
size_there : (c : goal.After-from-in-loop-i) → (c.from-in-loop-i.result ≡ unsigned_abs (get_or c.args.residuals.now c.loop-i.i (pos 0))) × (c.from-in-loop-i.result ≤ residual_limit)
size_there c =
    let bound = c.requires.small c.loop-i.i (pos 0) c.loop-i-test.true in
    (omega (arith, ints, bound), omega (arith, ints, bound))

light : (c : goal.After-from-in-loop-i) → c.from.result ≤ max_weight
light c =
    let within : c.loop-i.i < length c.weights-weights.result.now = omega (arith, ap length c.weights-weights.ensures.weights, length-map c.args.network.now.observations (λ (o : Observed). weight_of c.args.network.now.weights o.station o.target), c.requires.each, c.loop-i-test.true) in
    let here = All-get_or IsWeight c.weights-weights.result.now c.loop-i.i 0 within c.weights-weights.ensures.in_range in
    omega (arith, c.from.ensures, here.1)

pub loop-i-preserved : goal.loop-i-preserved
loop-i-preserved c =
    let network = c.args.network.now in
    let within : c.loop-i.i < length network.observations = omega arith in
    let weights = weights_of network in
    let residuals = c.args.residuals.now in
    let pairs = zip weights residuals in
    let i = c.loop-i.i in
    let there : length weights ≡ length network.observations = length-map network.observations (λ o. weight_of network.weights o.station o.target) in
    let as_weight : c.from.result ≡ get_or weights i 0 = c.from.ensures ∙ ap (λ (ws : List ℕ). get_or ws i 0) c.weights-weights.ensures.weights in
    let found : slice_get weights i ≡ Some c.from.result = slice_get-get_or weights i 0 (omega (arith, there, within)) ∙ ap Some (sym as_weight) in
    let pair_is = get_or-zip weights residuals i (0, pos 0) (omega (arith, there, within)) (omega arith) in
    record {
      sum = ap (λ total. total + c.from.result * c.from-in-loop-i.result) c.loop-i.invariant.sum
          ∙ ap (λ w. sum_by weighted (take i pairs) + w * c.from-in-loop-i.result) as_weight
          ∙ ap (λ s. sum_by weighted (take i pairs) + get_or weights i 0 * s) (size_there c).0
          ∙ ap (λ pair. sum_by weighted (take i pairs) + weighted pair) (sym pair_is)
          ∙ sym (sum_by_more weighted pairs i (0, pos 0) (omega (arith, length-zip weights residuals, there, within)));
      total = λ heights are.
          cost-more network.weights network.observations heights c.args.residuals.now c.loop-i.i c.loop-i.total c.from.result c.from-in-loop-i.result are within found (size_there c).0 (c.loop-i.invariant.total heights are);
      small = bounded-more c.loop-i.total c.loop-i.i c.from.result c.from-in-loop-i.result residual_limit c.loop-i.invariant.small (light c) (size_there c).1;
    }

pub overflow_add-total : goal.overflow_add-total
overflow_add-total c =
    let more = bounded-more c.loop-i.total c.loop-i.i c.from.result c.from-in-loop-i.result residual_limit c.loop-i.invariant.small (light c) (size_there c).1 in
    let there = length-map c.args.network.now.observations (λ (o : Observed). weight_of c.args.network.now.weights o.station o.target) in
    omega (arith, more, c.weights-weights.ensures.few, ap length c.weights-weights.ensures.weights, there, c.requires.each)

pub returns-clause-sum : goal.returns-clause-sum
returns-clause-sum c =
    let weights = weights_of c.args.network.now in
    let pairs = zip weights c.args.residuals.now in
    let there : length weights ≡ length c.args.network.now.observations = length-map c.args.network.now.observations (λ o. weight_of c.args.network.now.weights o.station o.target) in
    c.loop-i.invariant.sum ∙ ap (sum_by weighted) (take_all c.loop-i.i pairs (omega (arith, length-zip weights c.args.residuals.now, there, c.requires.each, c.loop-i-test.false)))
