use Rattle.std.proofs.Common.{◌≡◌, ◌<◌, ◌+◌, ◌++◌, ◌∷◌, [], ℕ, ℤ, List, bytes_eq, get_or, length, map, of_z, pos, subst, sym, take, to_z, w64, ap, ◌∙◌, arith}
use Rattle.std.specs.List.{IsDistinct}
use Rattle.std.proofs.lemmas.List.{map_push, take_more}
use Rattle.th_network.specs.Heights.{heights_at}
use Rattle.th_network.specs.Networks.{points_of}
use Rattle.th_blunders.proofs.HeightLemmas.{height_there}
use Rattle.th_notes.specs.Twins.{spot_at}
use Rattle.th_notes.specs.declared.twins.Spot.{Spot}
use Rattle.th_notes.proofs.twins.spots_of.Goals as goal

pub loop-k-preserved : goal.loop-k-preserved
loop-k-preserved c =
    let names : List (List ℕ) = points_of c.args.network.now in
    let low : List ℤ = c.args.low.now in
    let k : ℕ = c.loop-k.k in
    let name : List ℕ = c.index-names-k.result in
    let all = c.points-names.ensures.points in
    let within : k < length names = omega (arith, ap length all, c.loop-k-test.true) in
    let is : name ≡ get_or names k name = c.index-names-k.is ∙ ap (λ (names : List (List ℕ)). get_or names k name) all in
    let distinct : IsDistinct bytes_eq names = subst (λ (names : List (List ℕ)). IsDistinct bytes_eq names) all c.points-names.ensures.distinct in
    let height = height_there names low k name distinct c.requires.in_range c.requires.each within is in
    let spot : List ℕ → Spot = spot_at (heights_at names low) in
    let next : take (k + 1) names ≡ take k names ++ name ∷ [] = take_more names k name within ∙ ap (λ own. take k names ++ own ∷ []) (sym is) in
    c.in_ok-push.ensures.items
    ∙ ap (λ own. own ++ record { name = name; height = to_z w64 (of_z w64 (get_or low k (pos 0))) } ∷ []) c.loop-k.invariant
    ∙ ap (λ (height : ℤ). map spot (take k names) ++ record { name = name; height = height } ∷ []) height
    ∙ sym (ap (map spot) next ∙ map_push spot (take k names) name)
