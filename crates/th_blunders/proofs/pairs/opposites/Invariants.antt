use Rattle.std.proofs.Common.{◌≡◌, ◌≤◌, ℕ, List, IfSome, option_map, take, unsigned_abs}
use Rattle.std.specs.List.{enumerate_from, filter_map}
use Rattle.indexmap.specs.IndexMap.{get}
use Rattle.gsi_word.specs.Names.{same_pair}
use Rattle.th_observations.specs.Observed.{largest_difference}
use Rattle.th_blunders.specs.Opposites.{latest, opposite_of}
use Rattle.th_blunders.proofs.LatestOnes.{seen}
use Rattle.th_blunders.proofs.pairs.opposites.Given as goal

abbrev pub invariant-loop-i : goal.invariant-loop-i
invariant-loop-i l =
    record {
      found : l.opposites.items ≡ filter_map (opposite_of l.observations) (enumerate_from 1 (take l.i l.observations));
      kept : (ends : List ℕ × List ℕ) → get same_pair l.latest ends ≡ option_map seen (latest (take l.i l.observations) ends);
      small : (ends : List ℕ × List ℕ) → IfSome (get same_pair l.latest ends) (λ last. unsigned_abs last.1 ≤ largest_difference);
    }
