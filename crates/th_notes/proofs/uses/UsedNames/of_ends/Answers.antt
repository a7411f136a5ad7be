use Rattle.std.proofs.Common.{◌∷◌, [], ◌++◌, List, ℕ, take, sym, subst, ap, ◌∙◌, append_assoc}
use Rattle.std.proofs.lemmas.List.{take_all}
use Rattle.th_observations.specs.Observed.{Observed}
use Rattle.th_notes.specs.Uses.{AreUsed, all_ends}
use Rattle.th_notes.proofs.FindingLemmas.{given_more}
use Rattle.th_notes.proofs.uses.UsedNames.of_ends.Goals as goal

pub loop-o-preserved : goal.loop-o-preserved
loop-o-preserved c =
    let observations : List Observed = c.args.observations.now in
    let i = c.loop-o.o-index in
    let o : Observed = c.o-item.result in
    let before = all_ends (take i observations) in
    let both : Observed → List (List ℕ) = λ o. o.station ∷ o.target ∷ [] in
    subst (λ (names : List (List ℕ)). AreUsed names c.take-in-loop-o.new.self)
    (append_assoc before (c.ends-station.result.0 ∷ []) (c.ends-station.result.1 ∷ [])
    ∙ ap (λ own. before ++ own ∷ c.ends-station.result.1 ∷ []) c.ends-station.ensures.station
    ∙ ap (λ own. before ++ o.station ∷ own ∷ []) c.ends-station.ensures.target
    ∙ sym (given_more both observations i o c.loop-o-test.true c.o-item.is))
    (c.in_ok-take-2.ensures (before ++ c.ends-station.result.0 ∷ []) (c.in_ok-take.ensures before c.loop-o.invariant))

pub returns : goal.returns
returns c =
    subst (λ (own : List Observed). AreUsed (all_ends own) c.loop-o.used) (take_all c.loop-o.o-index c.args.observations.now c.loop-o-test.false) c.loop-o.invariant
