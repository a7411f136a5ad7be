use Rattle.std.proofs.Common.{◌≡◌, ◌≤◌, FitsSigned, ℕ, ℤ, List, Some, ap, length, refl, rules, slice_get, subst, sym, unsigned_abs, w64, ◌∙◌, arith}
use Rattle.std.proofs.lemmas.Int.{to_z-of_z}
use Rattle.std.proofs.lemmas.List.{take_all}
use Rattle.std.proofs.lemmas.Option.{slice_get_read, slice_get_within}
use Rattle.std.specs.List.{AllZip}
use Rattle.th_changes.specs.Reach.{reach_of}
use Rattle.th_changes.specs.Tilted.{tilted}
use Rattle.th_changes.specs.declared.numbers.Number.{Number}
use Rattle.th_explain.specs.declared.freed.Freed.{Freed}
use Rattle.th_network.specs.Networks.{points_of}
use Rattle.th_reliability.proofs.ZipLemmas.{zip_next}
use Rattle.th_names.specs.Rises.{AreRises}
use Rattle.th_names.specs.Gaps.{name_in}
use Rattle.th_names.specs.Nears.{IsLocated}
use Rattle.th_names.specs.Inside.Ends.{distance_by, ends_at}
use Rattle.th_names.proofs.LocatedLemmas.{located_here}
use Rattle.th_names.proofs.distances.located_of.Goals as goal

pub rises_with-requires-clause-change : goal.rises_with-requires-clause-change
rises_with-requires-clause-change c =
    let freed : Freed = c.args.freed.now in
    let reach = c.requires.freed.low_in_reach in
    let fits : FitsSigned w64 freed.low = search rules in
    subst (λ (x : ℤ). unsigned_abs x ≤ reach_of c.number-number.result c.args.network.now.observations) (sym (to_z-of_z w64 freed.low fits))
    (subst (λ (number : Number). unsigned_abs freed.low ≤ reach_of number c.args.network.now.observations) (sym c.number-number.ensures) (omega (arith, reach)))

pub rises_with-requires-clause-place : goal.rises_with-requires-clause-place
rises_with-requires-clause-place c = slice_get_within (points_of c.args.network.now) c.args.place (name_in c.args.naming.now) c.requires.place

pub rises_with-requires-2-clause-change : goal.rises_with-requires-2-clause-change
rises_with-requires-2-clause-change c =
    let freed : Freed = c.args.freed.now in
    let reach = c.requires.freed.high_in_reach in
    let fits : FitsSigned w64 freed.high = search rules in
    subst (λ (x : ℤ). unsigned_abs x ≤ reach_of c.number-number.result c.args.network.now.observations) (sym (to_z-of_z w64 freed.high fits))
    (subst (λ (number : Number). unsigned_abs freed.high ≤ reach_of number c.args.network.now.observations) (sym c.number-number.ensures) (omega (arith, reach)))

pub rises_with-requires-2-clause-place : goal.rises_with-requires-2-clause-place
rises_with-requires-2-clause-place c = slice_get_within (points_of c.args.network.now) c.args.place (name_in c.args.naming.now) c.requires.place

pub loop-k-preserved : goal.loop-k-preserved
loop-k-preserved c =
    let survey = c.args.network.now in
    let naming = c.args.naming.now in
    let freed : Freed = c.args.freed.now in
    let k : ℕ = c.loop-k.k in
    let points : List (List ℕ) = c.points-points.result.now in
    let all : points ≡ points_of survey = c.points-points.ensures.points in
    let point : List ℕ = c.index-points-k.result in
    let low_fits : FitsSigned w64 freed.low = search rules in
    let high_fits : FitsSigned w64 freed.high = search rules in
    let name = name_in naming in
    let before_low : List ℤ = c.in_ok-before.before.low.items in
    let before_high : List ℤ = c.in_ok-before.before.high.items in
    let after_low : List ℤ = c.in_ok-after.after.low.items in
    let after_high : List ℤ = c.in_ok-after.after.high.items in
    let before = subst (λ (number : Number). AreRises (tilted number freed.low survey) name before_low before_high) c.number-number.ensures
    (subst (λ (change : ℤ). AreRises (tilted c.number-number.result change survey) name before_low before_high) (to_z-of_z w64 freed.low low_fits) (c.in_ok-before.ensures.rises name c.requires.place)) in
    let after = subst (λ (number : Number). AreRises (tilted number freed.high survey) name after_low after_high) c.number-number.ensures
    (subst (λ (change : ℤ). AreRises (tilted c.number-number.result change survey) name after_low after_high) (to_z-of_z w64 freed.high high_fits) (c.in_ok-after.ensures.rises name c.requires.place)) in
    let at : slice_get points k ≡ Some point = slice_get_read points (length points) k point refl c.loop-k-test.true c.index-points-k.is in
    let here : slice_get (points_of survey) k ≡ Some point = sym (ap (λ (own : List (List ℕ)). slice_get own k) all) ∙ at in
    let is = c.requires.naming in
    let own = located_here survey naming freed point k before_low before_high after_low after_high is c.requires.freed.exact before after here in
    let distance : c.distance_by.result ≡ distance_by naming freed (ends_at before_low before_high after_low after_high k) = c.distance_by.ensures ∙ ap (distance_by naming freed) c.ends_at-ends.ensures in
    zip_next (IsLocated survey naming) points c.loop-k.located.items c.push.new.self.items k point (record { point = point; distance = c.distance_by.result }) c.loop-k-test.true c.index-points-k.is c.in_ok-push.ensures.items c.loop-k.invariant
    (subst (λ (n : ℕ). IsLocated survey naming point (record { point = point; distance = n })) (sym distance) own)

pub returns : goal.returns
returns c =
    let survey = c.args.network.now in
    let points : List (List ℕ) = c.points-points.result.now in
    subst (λ (own : List (List ℕ)). AllZip (IsLocated survey c.args.naming.now) own c.loop-k.located.items)
    (take_all c.loop-k.k points (omega (arith, c.loop-k-test.false)) ∙ c.points-points.ensures.points) c.loop-k.invariant
