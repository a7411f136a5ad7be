use Rattle.std.proofs.Common.{◌≡◌, ◌<◌, ◌+◌, [], length, get_or, map, sym, ap, ◌∙◌, arith}
use Rattle.std.specs.Option.{is_some}
use Rattle.std.proofs.lemmas.List.{get_or-map}
use Rattle.std.proofs.lemmas.List.Sums.{count_by_more_no, count_by_more_yes}
use Rattle.std.proofs.lemmas.Option.{get_or_from_slice_get}
use Rattle.th_tables.specs.Rows.{height_of}
use Rattle.th_network.specs.Networks.{points_of}
use Rattle.th_report.specs.Reports.{is_benchmark}
use Rattle.th_report.proofs.heads.benchmark_count.Goals as goal
use Rattle.th_report.proofs.heads.benchmark_count.Goals.{then-is_some, else-is_some}

pub loop-k-preserved : goal.loop-k-preserved
loop-k-preserved c =
    let survey = c.args.network.now in
    let points = points_of survey in
    let k = c.loop-k.k in
    let within : k < length points = omega (arith, ap length c.points-k-end.ensures.points, c.loop-k-test.true) in
    let fixed : is_benchmark survey (get_or points k []) ≡ c.is_some.result =
    ap is_some (sym (get_or-map (height_of survey.benchmarks) points k [] c.fixed.result within) ∙ get_or_from_slice_get (map (height_of survey.benchmarks) points) k c.fixed.result c.fixed.result c.fixed.ensures.height) ∙ sym c.is_some.ensures in
    elim c.if-is_some.branch [
      | then-is_some w ↦ record {
        count = w.count-is ∙ ap (λ n. n + 1) c.loop-k.invariant.count ∙ sym (count_by_more_yes (is_benchmark survey) points k [] within (fixed ∙ w.if-is_some.true));
        few = omega arith;
      }
      | else-is_some w ↦ record {
        count = w.count-is ∙ c.loop-k.invariant.count ∙ sym (count_by_more_no (is_benchmark survey) points k [] within (fixed ∙ w.if-is_some.false));
        few = omega arith;
      }
    ]
