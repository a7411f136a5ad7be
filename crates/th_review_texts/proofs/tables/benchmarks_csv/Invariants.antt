use Rattle.std.proofs.Common.{◌≡◌, ◌++◌, drop, map}
use Rattle.th_csv.specs.Texts.{csv_text}
use Rattle.th_review_texts.specs.Tables.{benchmark_record, benchmarks_text}
use Rattle.th_review_texts.proofs.tables.benchmarks_csv.Given as goal

abbrev pub invariant-loop-row : goal.invariant-loop-row
invariant-loop-row l = l.rows.text ++ csv_text (map benchmark_record (drop l.row-index l.benchmarks)) ≡ benchmarks_text l.benchmarks
