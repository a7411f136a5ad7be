use Rattle.std.proofs.Common.{sym, arith}
use Rattle.std.proofs.lemmas.Option.{slice_get_within}
use Rattle.th_points.proofs.PointOrder.{row_more, no_row_more}
use Rattle.th_points.proofs.points.add_benchmarks.Goals as goal

pub loop-row-preserved : goal.loop-row-preserved
loop-row-preserved c =
    let within = slice_get_within c.args.benchmarks.now c.loop-row.k c.in-Some.row (sym c.in-Some.ensures.value) in
    let more = row_more c.args.names.now.keys c.args.benchmarks.now c.loop-row.k c.in-Some.row c.in-Some.ensures.value in
    let keys = c.in_ok-place_in.ensures.keys in
    (omega arith, cc)

pub returns : goal.returns
returns c =
    let all = no_row_more c.args.benchmarks.now c.loop-row.k c.in_default.ensures.value in
    cc
