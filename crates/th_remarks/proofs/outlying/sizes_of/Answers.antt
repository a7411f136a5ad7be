use Rattle.std.proofs.Common.{◌≡◌, ◌<◌, ◌^◌, ◌*◌, ◌++◌, ◌∷◌, [], ◌∙◌, ℕ, ℤ, pos, cond, List, get_or, length, take, unsigned_abs, ap, sym, arith}
use Rattle.std.specs.Prelude.{nat_lt}
use Rattle.std.specs.List.{zip}
use Rattle.std.proofs.lemmas.Bool.{ltb-true}
use Rattle.std.proofs.lemmas.List.{length-map, take_all}
use Rattle.std.proofs.lemmas.Slice.Zip.{length-zip}
use Rattle.th_observations.specs.Observed.{Observed}
use Rattle.th_network.specs.Networks.{weights_of}
use Rattle.th_tables.specs.Rows.{weight_of}
use Rattle.th_remarks.specs.Outliers.{size_at, sizes_of, weighed}
use Rattle.th_remarks.proofs.SightLemmas.{all_added, plain, size_there, sizes_more}
use Rattle.th_remarks.proofs.outlying.sizes_of.Goals as goal

pub loop-i-preserved : goal.loop-i-preserved
loop-i-preserved c =
    let network = c.args.network.now in
    let residuals : List ℤ = c.args.residuals.now in
    let i : ℕ = c.loop-i.i in
    let within : i < length residuals = c.loop-i-test.true in
    let weights : List ℕ = weights_of network in
    let there : length weights ≡ length network.observations = length-map network.observations (λ (o : Observed). weight_of network.weights o.station o.target) in
    let light : i < length weights = omega (arith, there, c.requires.each, within) in
    let sights : List (ℕ × ℤ) = weighed network residuals in
    let all : i < length sights = omega (arith, length-zip weights residuals, light, within) in
    let size : c.weighted_size.result ≡ size_at sights i =
    c.weighted_size.ensures.value
    ∙ ap (λ (residual : ℤ). get_or c.weights-weights.result.now i 0 * unsigned_abs residual) (plain residuals i c.requires.small within)
    ∙ ap (λ (own : List ℕ). get_or own i 0 * unsigned_abs (get_or residuals i (pos 0))) c.weights-weights.ensures.weights
    ∙ sym (size_there weights residuals i light within) in
    let added : (λ (front : List ℕ). front) c.add_size.new.sizes.items ≡ c.loop-i.sizes.items ++ cond (nat_lt 0 c.weighted_size.result) (c.weighted_size.result ∷ []) [] = c.in_ok-add_size.ensures in
    record {
      sizes = added
          ∙ ap (λ (front : List ℕ). front ++ cond (nat_lt 0 c.weighted_size.result) (c.weighted_size.result ∷ []) []) c.loop-i.invariant.sizes
          ∙ ap (λ (size : ℕ). sizes_of (take i sights) ++ cond (nat_lt 0 size) (size ∷ []) []) size
          ∙ sym (sizes_more sights i all);
      short = all_added (λ size. size < 2 ^ 96) c.loop-i.sizes.items _ (nat_lt 0 c.weighted_size.result) c.weighted_size.result added c.loop-i.invariant.short (λ passes. c.weighted_size.ensures.short);
      positive = all_added (λ size. 0 < size) c.loop-i.sizes.items _ (nat_lt 0 c.weighted_size.result) c.weighted_size.result added c.loop-i.invariant.positive (λ passes. ltb-true 0 c.weighted_size.result passes);
    }

pub returns-clause-sizes : goal.returns-clause-sizes
returns-clause-sizes c =
    let sights : List (ℕ × ℤ) = weighed c.args.network.now c.args.residuals.now in
    c.loop-i.invariant.sizes ∙ ap sizes_of (take_all c.loop-i.i sights (omega (arith, length-zip (weights_of c.args.network.now) c.args.residuals.now, c.loop-i-test.false)))
