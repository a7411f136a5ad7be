use Rattle.std.proofs.Common.{◌≡◌, ◌∙◌, ◌<◌, ◌≤◌, ℕ, ℤ, pos, List, [], ap, bytes_eq, get_or, length, map, of_z, subst, to_z, unsigned_abs, w64, arith}
use Rattle.std.proofs.lemmas.Int.{to_z-of_z}
use Rattle.std.proofs.lemmas.List.{get_or_default, take_all}
use Rattle.std.proofs.lemmas.List.Elements.{All-get_or}
use Rattle.std.specs.List.{AllZip, IsDistinct}
use Rattle.th_blunders.proofs.HeightLemmas.{same_units}
use Rattle.th_network.specs.Limits.{height_limit}
use Rattle.th_network.specs.Networks.{at_points_of, points_of}
use Rattle.th_answer.specs.Inside.Moving.{moved_in}
use Rattle.th_answer.specs.Inside.Readjusted.{IsListed}
use Rattle.th_answer.specs.Moved.{moved_of}
use Rattle.th_answer.proofs.ListLemmas.{map_next}
use Rattle.th_answer.proofs.MovedLemmas.{moved_there}
use Rattle.th_answer.proofs.moving.all_moved.Goals as goal

pub loop-place-preserved : goal.loop-place-preserved
loop-place-preserved c = λ after are.
    let survey = c.args.network.now in
    let limit : ℤ = to_z w64 (of_z w64 c.args.limit) in
    let low : List ℤ = c.args.low.now in
    let corrected = c.args.corrected.now in
    let points : List (List ℕ) = points_of survey in
    let place : ℕ = c.loop-place.place in
    let name : List ℕ = get_or points place [] in
    let within : place < length points = omega (arith, c.loop-place-test.true, ap length c.points-points.ensures.points) in
    let here = get_or_default points place [] name within in
    let distinct : IsDistinct bytes_eq points = subst (IsDistinct bytes_eq) c.points-points.ensures.points c.points-points.ensures.distinct in
    let small : unsigned_abs (get_or low place (pos 0)) < height_limit = All-get_or (λ height. unsigned_abs height < height_limit) low place (pos 0) (omega (arith, within, c.requires.low.each)) c.requires.low.in_range in
    let value : c.moved_at.result ≡ moved_in limit (get_or low place (pos 0)) place corrected = c.moved_at.ensures ∙ ap (λ (from : ℤ). moved_in limit from place corrected) (same_units (get_or low place (pos 0)) (omega (arith, small))) in
    map_next (moved_of limit (at_points_of survey low) after) points c.loop-place.moved.items c.push.new.self.items place name c.moved_at.result within here (value ∙ moved_there survey limit low after corrected place name are distinct within here) c.in_ok-push.ensures.items
    (c.loop-place.invariant after are)

pub returns : goal.returns
returns c = λ after.
    let survey = c.args.network.now in
    let points : List (List ℕ) = points_of survey in
    let all : length points ≤ c.loop-place.place = omega (arith, c.loop-place-test.false, ap length c.points-points.ensures.points) in
    subst (λ (limit : ℤ). AllZip (IsListed survey limit) after c.args.corrected.now → c.loop-place.moved.items ≡ map (moved_of limit (at_points_of survey c.args.low.now) after) points) (to_z-of_z w64 c.args.limit c.ranges.limit)
    (λ are. c.loop-place.invariant after are ∙ ap (map (moved_of (to_z w64 (of_z w64 c.args.limit)) (at_points_of survey c.args.low.now) after)) (take_all c.loop-place.place points all))
