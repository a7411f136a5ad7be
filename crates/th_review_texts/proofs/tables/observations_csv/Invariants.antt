use Rattle.std.proofs.Common.{◌≡◌, ◌++◌, drop, map}
use Rattle.th_csv.specs.Texts.{csv_text}
use Rattle.th_review_texts.specs.Tables.{observations_text, observation_record}
use Rattle.th_review_texts.proofs.tables.observations_csv.Given as goal

abbrev pub invariant-loop-row : goal.invariant-loop-row
invariant-loop-row l = l.rows.text ++ csv_text (map observation_record (drop l.row-index l.observations)) ≡ observations_text l.observations
