use Rattle.std.proofs.Common.{sym, arith}
use Rattle.std.proofs.lemmas.List.{length-take-le, take_all}
use Rattle.th_html.proofs.tables.first_rows.Goals as goal

pub slice_bounds-result-end : goal.slice_bounds-result-end
slice_bounds-result-end g c = sym (length-take-le 100 c.args.rows.now (omega arith))

pub returns-then-rows-le-MOST_ROWS : goal.returns-then-rows-le-MOST_ROWS
returns-then-rows-le-MOST_ROWS g c = sym (take_all 100 c.args.rows.now c.if-rows-le-MOST_ROWS.true)
