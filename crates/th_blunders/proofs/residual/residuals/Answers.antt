use Rattle.std.proofs.Common.{◌≡◌, ℕ, ℤ, ◌<◌, ◌-ℤ◌, pos, List, [], ◌∷◌, ◌++◌, All, get_or, length, map, unsigned_abs, arith, ap, sym, subst, ◌∙◌, w64, to_z, of_z}
use Rattle.std.proofs.lemmas.Int.{fits_signed_from_abs, ints, to_z-of_z}
use Rattle.std.proofs.lemmas.List.{length-map}
use Rattle.std.proofs.lemmas.List.Elements.{All-get_or, All-push}
use Rattle.th_observations.specs.Observed.{Observed}
use Rattle.th_points.specs.Ends.{ends_in}
use Rattle.th_network.specs.Heights.{heights_at, residual}
use Rattle.th_network.specs.Limits.{height_limit}
use Rattle.th_network.specs.Networks.{points_of}
use Rattle.th_blunders.specs.Residuals.{residual_limit}
use Rattle.th_blunders.proofs.PointPlaces.{residual_there, residuals-more}
use Rattle.th_blunders.proofs.residual.residuals.Goals as goal

-- a height at a place is kept in 64 bits
plain : (heights : List ℤ) (place : ℕ) → All (λ height. unsigned_abs height < height_limit) heights → place < length heights → to_z w64 (of_z w64 (get_or heights place (pos 0))) ≡ get_or heights place (pos 0)
plain heights place small within =
    let bound : unsigned_abs (get_or heights place (pos 0)) < height_limit = All-get_or (λ height. unsigned_abs height < height_limit) heights place (pos 0) within small in
    to_z-of_z w64 (get_or heights place (pos 0)) (fits_signed_from_abs w64 (get_or heights place (pos 0)) (omega (arith, bound)))

pub loop-i-preserved : goal.loop-i-preserved
loop-i-preserved c =
    let observations : List Observed = c.observations-observations.result.now in
    let names : List (List ℕ) = points_of c.args.network.now in
    let listed : List ℤ = c.args.heights.now in
    let ends : List (ℕ × ℕ) = c.ends-ends.result.now in
    let i : ℕ = c.loop-i.i in
    let o : Observed = c.index-observations-i.result in
    let placed : ends ≡ map (ends_in names) observations = c.ends-ends.ensures.ends ∙ ap (map (ends_in names)) (sym c.observations-observations.ensures.observations) in
    let end : ℕ × ℕ = get_or ends i (0, 0) in
    let count : i < length ends = omega (arith, c.loop-i-test.true, ap length placed, length-map observations (ends_in names)) in
    let below : (end.0 < length names) × (end.1 < length names) = All-get_or (λ pair. (pair.0 < length names) × (pair.1 < length names)) ends i (0, 0) count c.ends-ends.ensures.within in
    let from = plain listed end.0 c.requires.in_range (omega (arith, below.0, c.requires.one_for_each)) in
    let to = plain listed end.1 c.requires.in_range (omega (arith, below.1, c.requires.one_for_each)) in
    let value : c.residual.result ≡ residual o (heights_at names listed) =
    c.residual.ensures.value
    ∙ (λ j. o.difference -ℤ (to j -ℤ from j))
    ∙ residual_there observations names listed ends i o c.loop-i-test.true c.index-observations-i.is placed in
    let pushed : to_z w64 (of_z w64 c.residual.result) ≡ residual o (heights_at names listed) = omega (arith, ints, value, c.residual.ensures.small) in
    let small : unsigned_abs (to_z w64 (of_z w64 c.residual.result)) < residual_limit = omega (arith, ints, c.residual.ensures.small) in
    record {
      values = c.in_ok-push.ensures.items ∙ (λ j. c.loop-i.invariant.values j ++ pushed j ∷ [])
          ∙ sym (residuals-more observations (heights_at names listed) i o c.loop-i-test.true c.index-observations-i.is);
      small = subst (All (λ residual. unsigned_abs residual < residual_limit)) (sym c.in_ok-push.ensures.items)
          (All-push (λ residual. unsigned_abs residual < residual_limit) c.loop-i.residuals.items (to_z w64 (of_z w64 c.residual.result)) c.loop-i.invariant.small small);
    }
