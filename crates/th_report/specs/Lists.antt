use Rattle.std.specs.Prelude.{ℕ, List, [], ◌∷◌, codes, decimal, map}
use Rattle.std.specs.List.{enumerate_from}
use Rattle.th_units.specs.Metres.{metres}
use Rattle.th_csv.specs.Records.{Fields}
use Rattle.th_csv.specs.Texts.{csv_text}
use Rattle.th_observations.specs.Observed.{Observed}

-- the header of the list
abbrev pub list_header : Fields
list_header = codes "number" ∷ codes "from" ∷ codes "to" ∷ codes "difference" ∷ []

-- the record of an observation: number, station, target, and difference in metres
abbrev pub list_record : ℕ × Observed → Fields
list_record (number, observed) = decimal number ∷ observed.station ∷ observed.target ∷ metres observed.difference ∷ []

-- the records of the list: the header, and then the observations, numbered from 1
abbrev pub list_records : List Observed → List Fields
list_records observations = list_header ∷ map list_record (enumerate_from 1 observations)

-- the text of the list
abbrev pub list_text : List Observed → List ℕ
list_text observations = csv_text (list_records observations)
