use Rattle.std.proofs.Common.{◌≡◌, ℕ, Some, List, ap, get_or, length, slice_get, subst, sym, ◌∙◌}
use Rattle.std.proofs.lemmas.Option.{slice_get-get_or}
use Rattle.th_points.specs.Ends.{ends_of}
use Rattle.th_numbers.specs.Inside.Parts.{AreApart}
use Rattle.th_numbers.proofs.PartLemmas.{apart_parts, joined_map}
use Rattle.th_numbers.proofs.ties.parts_of.Goals as goal

pub loop-station-init : goal.loop-station-init
loop-station-init c =
    apart_parts c.args.network.now c.in_ok-parts.parts.items (subst (λ (own : List (List ℕ)). AreApart (length own) c.in_ok-parts.parts.items) c.points.ensures.points c.in_ok-parts.ensures)

pub loop-station-preserved : goal.loop-station-preserved
loop-station-preserved c =
    let survey = c.args.network.now in
    let i = c.loop-station.station-index in
    let ends : List (ℕ × ℕ) = c.ends-station-items.result.now in
    let at : slice_get (ends_of survey.observations survey.benchmarks) i ≡ Some (get_or ends i (0, 0)) =
    ap (λ (own : List (ℕ × ℕ)). slice_get own i) (sym c.ends-station-items.ensures.ends) ∙ slice_get-get_or ends i (0, 0) c.loop-station-test.true in
    joined_map survey i (get_or ends i (0, 0)) c.loop-station.parts.items c.in_ok-parts-2.parts.items at c.loop-station.invariant c.in_ok-parts-2.ensures
