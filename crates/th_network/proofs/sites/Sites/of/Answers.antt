use Rattle.std.proofs.Common.{map, ap, ◌∙◌}
use Rattle.th_tables.specs.Rows.{height_of}
use Rattle.th_network.proofs.sites.Sites.of.Goals as goal

pub invariant_of-result : goal.invariant_of-result
invariant_of-result c = record {
  are = c.in_ok-points.ensures;
  fixed = c.in_ok-heights.ensures.value ∙ ap (map (height_of c.args.benchmarks.now)) c.as_slice.ensures.keys;
  in_range = c.in_ok-heights.ensures.in_range;
}
