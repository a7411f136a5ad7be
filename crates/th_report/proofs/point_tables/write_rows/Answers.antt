use Rattle.std.proofs.Common.{◌≡◌, ◌<◌, ◌+◌, ◌++◌, Bool, ℕ, ℤ, List, bytes_eq, drop, get_or, length, subst, ap, ◌∙◌, arith}
use Rattle.std.specs.List.{IsDistinct}
use Rattle.std.specs.Option.{is_some}
use Rattle.th_units.specs.Metres.{metres}
use Rattle.th_tables.specs.Rows.{height_of}
use Rattle.th_network.specs.Heights.{heights_at}
use Rattle.th_network.specs.Networks.{points_of}
use Rattle.th_report.specs.Reports.{benchmark_mark, is_benchmark, point_columns, point_line}
use Rattle.th_columns.proofs.RowLemmas.{drop-first, found_there, further}
use Rattle.th_blunders.proofs.HeightLemmas.{height_there}
use Rattle.th_report.proofs.point_tables.write_rows.Goals as goal

pub loop-k-preserved : goal.loop-k-preserved
unfolding point_line
loop-k-preserved c =
    let survey = c.args.network.now in
    let names = points_of survey in
    let heights = c.args.heights.now in
    let k = c.loop-k.k in
    let name = c.name-item.result in
    let all = c.points-name-items.ensures.points in
    let within : k < length names = omega (arith, ap length all, c.loop-k-test.true) in
    let is : name ≡ get_or names k name = c.name-item.is ∙ ap (λ (names : List (List ℕ)). get_or names k name) all in
    let distinct : IsDistinct bytes_eq names = subst (λ (names : List (List ℕ)). IsDistinct bytes_eq names) all c.points-name-items.ensures.distinct in
    let height = height_there names heights k name distinct c.requires.in_range c.requires.each within is in
    let fixed : c.is_some.result ≡ is_benchmark survey name = c.is_some.ensures ∙ ap is_some (found_there (height_of survey.benchmarks) names k name c.fixed.result within is c.fixed.ensures.height) in
    let line = point_line survey (heights_at names heights) in
    let written : c.write_point.new.page ≡ c.loop-k.page ++ line name =
    c.in_ok-write_point.ensures
    ∙ ap (λ (height : ℤ). c.loop-k.page ++ point_columns name (metres height) (benchmark_mark c.is_some.result)) height
    ∙ ap (λ (fixed : Bool). c.loop-k.page ++ point_columns name (metres (heights_at names heights name)) (benchmark_mark fixed)) fixed in
    further line name (drop k names) (drop (k + 1) names) c.loop-k.page c.write_point.new.page _ (drop-first names k name within is) written c.loop-k.invariant
