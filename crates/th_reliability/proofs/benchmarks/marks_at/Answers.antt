use Rattle.std.proofs.Common.{◌≡◌, ℕ, List, map, ap, ◌∙◌, arith}
use Rattle.std.proofs.lemmas.List.{take_all}
use Rattle.th_points.specs.Ends.{ends_of}
use Rattle.th_points.specs.Places.{place_of}
use Rattle.th_points.specs.Points.{points}
use Rattle.th_reliability.specs.Inside.Ends.{is_at}
use Rattle.th_reliability.proofs.EndLemmas.{marked}
use Rattle.th_reliability.proofs.benchmarks.marks_at.Goals as goal

pub returns-clause-marks : goal.returns-clause-marks
returns-clause-marks c =
    let all = c.args.network.now.observations in
    let fixed = c.args.network.now.benchmarks in
    let name = c.args.name.now in
    let at : c.place_in-place.result ≡ place_of (points all fixed) name = c.place_in-place.ensures ∙ ap (λ (own : List (List ℕ)). place_of own name) c.points.ensures.points in
    let whole = take_all c.loop-own.own-index c.ends-ends.result.now (omega arith) in
    c.loop-own.invariant ∙ ap (map (is_at c.place_in-place.result)) (whole ∙ c.ends-ends.ensures.ends) ∙ ap (λ (place : ℕ). map (is_at place) (ends_of all fixed)) at ∙ marked all fixed name c.requires
