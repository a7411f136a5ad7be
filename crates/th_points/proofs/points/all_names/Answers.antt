use Rattle.std.proofs.Common.{◌++◌, flat_map, map, sym, ap, ◌∙◌, arith}
use Rattle.std.proofs.lemmas.Option.{slice_get_within}
use Rattle.th_points.specs.Points.{ends}
use Rattle.th_points.specs.Inside.NameLines.{name_line}
use Rattle.th_points.proofs.NameLineLemmas.{row_lines_more}
use Rattle.th_points.proofs.PointOrder.{no_row_more}
use Rattle.th_points.proofs.points.all_names.Goals as goal

pub rows-preserved : goal.rows-preserved
rows-preserved c =
    let within = slice_get_within c.args.benchmarks.now c.rows.k c.in-Some.row (sym c.in-Some.ensures.value) in
    record {
      within = omega arith;
      lines = c.in_ok-add_line-3.ensures ∙ row_lines_more (ends c.args.observations.now) c.args.benchmarks.now c.rows.k c.in-Some.row c.rows.content.items c.in-Some.ensures.value c.rows.invariant.lines;
    }

pub returns : goal.returns
returns c =
    c.rows.invariant.lines ∙ ap (λ rows. flat_map name_line (ends c.args.observations.now ++ map (λ row. row.0) rows)) (no_row_more c.args.benchmarks.now c.rows.k c.in_default.ensures.value)
