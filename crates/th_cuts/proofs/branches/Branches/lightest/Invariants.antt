use Rattle.std.proofs.Common.{◌≡◌, ℕ, ◌≤◌, ◌<◌, ◌⊎◌, Bool, true, length, slice_index_or}
use Rattle.th_cuts.specs.declared.branches.Branch.{Branch}
use Rattle.th_cuts.specs.CutWeights.{cut_weight, separates}
use Rattle.th_cuts.proofs.branches.Branches.lightest.Given as goal

abbrev pub invariant-walking : goal.invariant-walking
invariant-walking l = record {
  order : l.early ≤ l.late;
  late : l.late < l.self.graph.vertices;
  within : l.lightest < length l.self.branches.items;
  least : (d : Branch) (inside : ℕ → Bool) → separates inside l.first l.second ≡ true → (separates inside l.early l.late ≡ true) ⊎ ((slice_index_or l.self.branches.items l.lightest d).cut.value ≤ cut_weight inside l.self.graph.edges.items);
}

abbrev pub decreases-walking : goal.decreases-walking
decreases-walking l = l.late
