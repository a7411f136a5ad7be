use Rattle.std.proofs.Common.{◌≡◌, length}
use Rattle.th_search.specs.Inside.Labels.{AreLabels, IsForest, room}
use Rattle.th_search.proofs.label_search.found_in.Given as goal

abbrev pub invariant-passes : goal.invariant-passes
invariant-passes l = record {
  size : length l.labels.values.items ≡ l.n;
  labels : AreLabels l.arcs l.labels.values.items l.labels.entries.items;
  marks : length l.marks.items ≡ l.n;
  forest : IsForest l.arcs l.labels.entries.items;
}

abbrev pub decreases-passes : goal.decreases-passes
decreases-passes l = room l.labels.values.items
