use Rattle.std.proofs.Common.{◌≡◌, ◌≤◌, ℕ, ℤ, ◌+◌, ◌<◌, Bool, true, false, cond, List, [], ◌∷◌, ◌++◌, Option, None, Some, IfSome, option_map, length, get_or, take, unsigned_abs, arith, sym, ap, subst, ◌∙◌, w64, to_z, of_z}
use Rattle.std.specs.List.{enumerate_from, filter_map}
use Rattle.std.proofs.lemmas.Int.{ints}
use Rattle.std.proofs.lemmas.List.{append-nil}
use Rattle.indexmap.specs.IndexMap.{get}
use Rattle.gsi_word.specs.Names.{same_pair}
use Rattle.th_observations.specs.Observed.{Observed, largest_difference}
use Rattle.th_blunders.specs.Opposites.{latest, opposite_of, opposite_to, runs_between}
use Rattle.th_blunders.proofs.LatestOnes.{latest-more, opposite_of-seen, seen, seen-more}
use Rattle.th_blunders.proofs.Numbered.{filter_map-found}
use Rattle.th_blunders.proofs.pairs.opposites.Goals as goal
use Rattle.th_blunders.proofs.pairs.opposites.Goals.{in-Some+in_ok-push, in_default}

-- what the map holds for two points keeps its bound where the last observation does
small_still : (b : Bool) (last : ℕ × ℤ) (before : Option (ℕ × ℤ)) → unsigned_abs last.1 ≤ largest_difference → IfSome before (λ last. unsigned_abs last.1 ≤ largest_difference) → IfSome (cond b (Some last) before) (λ last. unsigned_abs last.1 ≤ largest_difference)
small_still true last before bound h = bound
small_still false last before bound h = h

pub loop-i-preserved : goal.loop-i-preserved
loop-i-preserved c =
    let observations : List Observed = c.args.observations.now in
    let i : ℕ = c.loop-i.i in
    let o : Observed = c.index-observations-i.result in
    let within : i < length observations = c.loop-i-test.true in
    let at : o ≡ get_or observations i o = c.index-observations-i.is in
    let difference : to_z w64 (of_z w64 c.difference.result) ≡ o.difference = omega (arith, ints, c.difference.ensures.value) in
    let updated : (ends : List ℕ × List ℕ) → get same_pair c.insert.new.self ends ≡ cond (runs_between ends o) (Some (i + 1, o.difference)) (get same_pair c.loop-i.latest ends) =
    λ ends. c.in_ok-insert.ensures.updates.0 ends ∙ λ j. cond (same_pair (c.ends.ensures.station j, c.ends.ensures.target j) ends) (Some (i + 1, difference j)) (get same_pair c.loop-i.latest ends) in
    let found : c.opposite_in.result ≡ opposite_of observations (i + 1, o) =
    c.opposite_in.ensures ∙ ap (option_map (opposite_to (i + 1) o.difference)) (c.loop-i.invariant.kept (o.target, o.station)) ∙ opposite_of-seen observations i o in
    let bound : unsigned_abs o.difference ≤ largest_difference = omega (arith, ints, c.difference.ensures.value, c.difference.ensures.in_range) in
    record {
      found = elim c.match-opposite_in.branch [
        | in-Some+in_ok-push w ↦
            ap (λ v. v.items) w.opposites-is ∙ w.in_ok-push.ensures.items ∙ ap (λ opposites. opposites ++ w.in-Some.opposite ∷ []) c.loop-i.invariant.found
            ∙ sym (filter_map-found (opposite_of observations) observations i o (Some w.in-Some.opposite) within at (sym found ∙ w.in-Some.is))
        | in_default w ↦
            ap (λ v. v.items) w.opposites-is ∙ c.loop-i.invariant.found ∙ sym (append-nil (filter_map (opposite_of observations) (enumerate_from 1 (take i observations))))
            ∙ sym (filter_map-found (opposite_of observations) observations i o None within at (sym found ∙ w.in_default.is))
      ];
      kept = λ ends. updated ends ∙ ap (λ before. cond (runs_between ends o) (Some (i + 1, o.difference)) before) (c.loop-i.invariant.kept ends)
          ∙ sym (seen-more (runs_between ends o) (i + 1, o) (latest (take i observations) ends))
          ∙ ap (option_map seen) (sym (latest-more observations i o ends within at));
      small = λ ends. subst (λ last. IfSome last (λ last. unsigned_abs last.1 ≤ largest_difference)) (sym (updated ends)) (small_still (runs_between ends o) (i + 1, o.difference) (get same_pair c.loop-i.latest ends) bound (c.loop-i.invariant.small ends));
    }
