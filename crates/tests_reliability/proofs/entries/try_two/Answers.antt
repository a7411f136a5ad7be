use Rattle.std.proofs.Common.{[], ◌∷◌, rules}
use Rattle.std.proofs.lemmas.List.Elements.{All-cons, All-nil}
use Rattle.th_reliability.specs.Sights.{IsOfOneStation}
use Rattle.tests_reliability.proofs.entries.try_two.Goals as goal

pub shared_mistakes-requires-clause-one : goal.shared_mistakes-requires-clause-one
shared_mistakes-requires-clause-one g c =
    let observations = c.args.network.now.observations in
    let first = c.sights_of-one.result in
    let second = c.sights_of-two.result in
    let one : IsOfOneStation c.args.network.now.observations c.sights_of-one.result = search rules in
    let two : IsOfOneStation c.args.network.now.observations c.sights_of-two.result = search rules in
    All-cons (IsOfOneStation observations) first (first ∷ second ∷ second ∷ []) one
    (All-cons (IsOfOneStation observations) first (second ∷ second ∷ []) one
    (All-cons (IsOfOneStation observations) second (second ∷ []) two
    (All-cons (IsOfOneStation observations) second [] two (All-nil (IsOfOneStation observations)))))
