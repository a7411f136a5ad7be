use Rattle.std.proofs.Common.{ℕ, List, map}
use Rattle.std.specs.List.{enumerate_from}
use Rattle.th_observations.specs.Observed.{Observed}
use Rattle.th_csv.specs.Texts.{csv_text}
use Rattle.th_report.specs.Lists.{list_record}

-- the rows of observations that are numbered from a number on
abbrev pub rows_from : ℕ → List Observed → List ℕ
rows_from number observations = csv_text (map list_record (enumerate_from number observations))
