-- Each observation has a weight that one may have, whether a table lists it or not.
use Rattle.std.proofs.Common.{ℕ, ◌≤◌, List, Option, Some, None, IfSome, unwrap_or, arith}
use Rattle.std.specs.Map.{lookup}
use Rattle.std.proofs.lemmas.Map.Entries.{All-lookup}
use Rattle.gsi_word.specs.Names.{same_pair}
use Rattle.th_tables.specs.Rows.{AreWeights, IsWeight, WeightRows, weight_of}

pub weight_is : (weights : WeightRows) → AreWeights weights → (station target : List ℕ) → IsWeight (weight_of weights station target)
weight_is weights are station target = by (lookup (same_pair (station, target)) weights) (All-lookup IsWeight (same_pair (station, target)) weights are.weights)
  where
    by : (found : Option ℕ) → IfSome found IsWeight → IsWeight (unwrap_or found 1)
    by None none = (omega arith, omega arith)
    by (Some weight) listed = listed

pub heavy : (weights : WeightRows) → AreWeights weights → (station target : List ℕ) → 1 ≤ weight_of weights station target
heavy weights are station target = (weight_is weights are station target).0
