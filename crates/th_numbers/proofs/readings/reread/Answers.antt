use Rattle.std.proofs.Common.{◌≡◌, ◌∷◌, ◌++◌, [], FitsSigned, List, ap, map, of_z, rules, sym, take, to_z, w64, ◌∙◌}
use Rattle.std.proofs.lemmas.Int.{to_z-of_z}
use Rattle.std.proofs.lemmas.List.{map_more}
use Rattle.th_observations.specs.Observed.{Observed}
use Rattle.th_numbers.specs.Readings.{read_difference, read_observation, with_difference}
use Rattle.th_numbers.proofs.readings.reread.Goals as goal

pub loop-o-preserved : goal.loop-o-preserved
loop-o-preserved c =
    let read : Observed → Observed = read_observation c.args.kinds.now.entries.now c.args.book in
    let observations : List Observed = c.args.observations.now in
    let i = c.loop-o.o-index in
    let o : Observed = c.o-item.result in
    let fits : FitsSigned w64 c.read_difference-difference.result = search rules in
    let difference : to_z w64 (of_z w64 c.read_difference-difference.result) ≡ read_difference c.args.kinds.now.entries.now c.args.book o = to_z-of_z w64 c.read_difference-difference.result fits ∙ c.read_difference-difference.ensures in
    c.in_ok-push.ensures.items
    ∙ ap (λ (own : List Observed). own ++ c.with_difference.result ∷ []) c.loop-o.invariant
    ∙ ap (λ (own : Observed). map read (take i observations) ++ own ∷ []) (c.with_difference.ensures ∙ ap (with_difference o) difference ∙ ap read c.o-item.is)
    ∙ sym (map_more read observations i o c.loop-o-test.true)
