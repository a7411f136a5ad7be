-- Best heights where a number is set free are those of the survey in which its change is moved to the differences.
use Rattle.std.proofs.Common.{◌≡◌, ℕ, ℤ, List, ap, ◌∙◌, arith}
use Rattle.th_network.specs.Heights.{Least}
use Rattle.th_network.specs.Networks.{Survey}
use Rattle.th_changes.specs.declared.numbers.Number.{Number}
use Rattle.th_changes.specs.Freed.{Costs, IsFreed, IsProposed, cost_of}
use Rattle.th_changes.specs.Numbers.{changed}
use Rattle.th_changes.specs.Tilted.{tilted}
use Rattle.th_changes.proofs.Changes.{keeps_lowered, keeps_raised, lowered, raised}
use Rattle.th_changes.proofs.TiltLemmas.{cost_moved}
use Rattle.th_names.specs.Fits.{AreBestFreed}
use Rattle.th_names.proofs.PointLemmas.{raised_lowered}

abbrev pub IsLeast : Survey → (List ℕ → ℤ) → Type 0
IsLeast survey heights = Least survey.observations survey.benchmarks survey.weights heights

tilted_cost : (survey : Survey) (number : Number) (x : ℤ) (heights : List ℕ → ℤ) → cost_of (tilted number x survey) heights ≡ cost_of (changed number x survey) (raised number x heights)
tilted_cost survey number x heights = cost_moved number x survey.weights heights survey.observations

lowered_cost : (survey : Survey) (number : Number) (x : ℤ) (heights : List ℕ → ℤ) → cost_of (tilted number x survey) (lowered number x heights) ≡ cost_of (changed number x survey) heights
lowered_cost survey number x heights = tilted_cost survey number x (lowered number x heights) ∙ ap (cost_of (changed number x survey)) (raised_lowered number x heights)

pub freed_same : (survey : Survey) (number : Number) (one other : ℕ) → IsFreed survey number one → IsFreed survey number other → one ≡ other
freed_same survey number one other a b = by a.reached b.reached
  where
    by : ((x : ℤ) × Costs survey number x one) → ((x : ℤ) × Costs survey number x other) → one ≡ other
    by (x, (heights, kept, same)) (y, (others, others_kept, others_same)) =
        let less = a.least y others others_kept in
        let more = b.least x heights kept in
        omega arith

-- a proposed change has best heights
pub proposed_best : (survey : Survey) (number : Number) (freed : ℕ) (x : ℤ) → IsFreed survey number freed → IsProposed survey number x → (heights : List ℕ → ℤ) × AreBestFreed survey number freed x heights
proposed_best survey number freed x is_freed proposed = by proposed.reached
  where
    by : Costs survey number x proposed.freed → (heights : List ℕ → ℤ) × AreBestFreed survey number freed x heights
    by (heights, kept, same) = (heights, record { is_freed = is_freed; kept = kept; reached = same ∙ freed_same survey number proposed.freed freed proposed.is_freed is_freed })

-- and its best heights are those of the tilted survey
pub best_of_tilted : (survey : Survey) (number : Number) (freed : ℕ) (x : ℤ) (heights : List ℕ → ℤ) → IsFreed survey number freed → IsProposed survey number x → IsLeast (tilted number x survey) heights → AreBestFreed survey number freed x (raised number x heights)
best_of_tilted survey number freed x heights is_freed proposed least = by (proposed_best survey number freed x is_freed proposed)
  where
    by : ((others : List ℕ → ℤ) × AreBestFreed survey number freed x others) → AreBestFreed survey number freed x (raised number x heights)
    by (others, best) =
        let kept = keeps_raised survey number x heights least.kept in
        let more = is_freed.least x (raised number x heights) kept in
        let less = least.least (lowered number x others) (keeps_lowered survey number x others best.kept) in
        let own = tilted_cost survey number x heights in
        let other = lowered_cost survey number x others in
        let reached = best.reached in
        record { is_freed = is_freed; kept = kept; reached = omega arith }

pub tilted_of_best : (survey : Survey) (number : Number) (freed : ℕ) (x : ℤ) (heights : List ℕ → ℤ) → AreBestFreed survey number freed x heights → IsLeast (tilted number x survey) (lowered number x heights)
tilted_of_best survey number freed x heights best = record {
  kept = keeps_lowered survey number x heights best.kept;
  least = λ others kept.
      let more = best.is_freed.least x (raised number x others) (keeps_raised survey number x others kept) in
      let own = lowered_cost survey number x heights in
      let other = tilted_cost survey number x others in
      let reached = best.reached in
      omega arith;
}
