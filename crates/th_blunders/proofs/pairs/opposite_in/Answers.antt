use Rattle.std.proofs.Common.{◌≡◌, ◌≤◌, ◌+ℤ◌, w64, to_z, of_z, IfSome, Some, option_map, unsigned_abs, arith, ap, sym, subst, ◌∙◌}
use Rattle.std.proofs.lemmas.Int.{ints}
use Rattle.indexmap.specs.IndexMap.{get}
use Rattle.gsi_word.specs.Names.{same_pair}
use Rattle.th_observations.specs.Observed.{largest_difference}
use Rattle.th_blunders.specs.Opposites.{opposite_to}
use Rattle.th_blunders.proofs.pairs.opposite_in.Goals as goal

pub overflow_add-result : goal.overflow_add-result
overflow_add-result c =
    let bound : unsigned_abs c.in_ok-earlier.field-0.now.1 ≤ largest_difference =
    subst (λ last. IfSome last (λ last. unsigned_abs last.1 ≤ largest_difference)) (sym c.in_ok-earlier.ensures.value) (c.requires _) in
    omega (arith, ints, bound)

pub returns : goal.returns
returns c =
    let bound : unsigned_abs c.in_ok-earlier.field-0.now.1 ≤ largest_difference =
    subst (λ last. IfSome last (λ last. unsigned_abs last.1 ≤ largest_difference)) (sym c.in_ok-earlier.ensures.value) (c.requires _) in
    let sum : to_z w64 (of_z w64 (to_z w64 (of_z w64 c.difference.result) +ℤ to_z w64 (of_z w64 c.in_ok-earlier.field-0.now.1))) ≡ c.args.o.now.difference +ℤ c.in_ok-earlier.field-0.now.1 = omega (arith, ints, bound, c.difference.ensures.value) in
    ap (λ z. Some (record { number = c.args.number; earlier = c.in_ok-earlier.field-0.now.0; sum = z })) sum
    ∙ ap (option_map (opposite_to c.args.number c.args.o.now.difference)) (c.in_ok-earlier.ensures.value ∙ λ i. get same_pair c.args.latest.now (c.ends-station.ensures.target i, c.ends-station.ensures.station i))
