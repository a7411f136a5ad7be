-- The text of a certificate, in each of its versions.
use Rattle.std.specs.Prelude.{◌≡◌, ℕ, ℤ, List, None, Some, [], ◌∷◌, ◌++◌, All, codes, decimal, length, map}
use Rattle.std.specs.Fmt.{signed_decimal}
use Rattle.std.specs.List.{enumerate_from}
use Rattle.gsi_word.specs.Names.{name_of}
use Rattle.th_observations.specs.Observed.{IsBetweenPoints}
use Rattle.th_tables.specs.Rows.{AreWeights}
use Rattle.th_units.specs.Metres.{metres}
use Rattle.th_csv.specs.Records.{Fields}
use Rattle.th_csv.specs.Texts.{csv_text}
use Rattle.th_network.specs.Faults.{IsNetwork}
use Rattle.th_network.specs.Heights.{cost}
use Rattle.th_network.specs.Networks.{Survey, points_of}
use Rattle.th_certificate.specs.Certified.{Certified, HeightRows, rows_at}

-- the row of a name and its height in metres, under the letter of its kind
abbrev pub height_row : List ℕ → List ℕ × ℤ → Fields
height_row letter (name, height) = letter ∷ name ∷ metres height ∷ []

-- the row of an observation's number and its flow
abbrev pub flow_row : ℕ × ℤ → Fields
flow_row (number, flow) = codes "F" ∷ decimal number ∷ signed_decimal flow ∷ []

-- a name and its height for each point of a survey, in point order
abbrev pub heights_at_points : Survey → (List ℕ → ℤ) → HeightRows
heights_at_points survey heights = rows_at (points_of survey) heights

-- the first row, and the second, which has the version and the number of observations
abbrev pub header_row : Fields
header_row = codes "kind" ∷ codes "key" ∷ codes "value" ∷ []

abbrev pub version_row : List ℕ → ℕ → Fields
version_row version count = codes "V" ∷ version ∷ decimal count ∷ []

-- the row of a cost
abbrev pub cost_row : ℕ → Fields
cost_row cost = codes "Z" ∷ codes "cost" ∷ decimal cost ∷ []

-- a row for each flow, numbered from 1, and the cost
abbrev pub end_rows : List ℤ → ℕ → List Fields
end_rows flows cost = map flow_row (enumerate_from 1 flows) ++ cost_row cost ∷ []

-- the cost of heights over a survey
abbrev pub cost_of : Survey → (List ℕ → ℤ) → ℕ
cost_of survey heights = cost survey.observations survey.weights heights

-- the rows of version 1: heights at the points, flows, and the cost of the heights
abbrev pub rows_of_version_1 : Survey → (List ℕ → ℤ) → List ℤ → List Fields
rows_of_version_1 survey heights flows =
    header_row ∷ version_row (codes "1") (length survey.observations)
    ∷ (map (height_row (codes "H")) (heights_at_points survey heights) ++ end_rows flows (cost_of survey heights))

-- the rows of version 2, which also has the lowest and the highest best heights
abbrev pub rows_of_version_2 : Survey → (List ℕ → ℤ) → (List ℕ → ℤ) → (List ℕ → ℤ) → List ℤ → List Fields
rows_of_version_2 survey heights low high flows =
    header_row ∷ version_row (codes "2") (length survey.observations)
    ∷ (map (height_row (codes "H")) (heights_at_points survey heights)
    ++ (map (height_row (codes "L")) (heights_at_points survey low)
    ++ (map (height_row (codes "U")) (heights_at_points survey high)
    ++ end_rows flows (cost_of survey heights))))

-- the texts of version 1 and of version 2
abbrev pub text_of_version_1 : Survey → (List ℕ → ℤ) → List ℤ → List ℕ
text_of_version_1 survey heights flows = csv_text (rows_of_version_1 survey heights flows)

abbrev pub text_of_version_2 : Survey → (List ℕ → ℤ) → (List ℕ → ℤ) → (List ℕ → ℤ) → List ℤ → List ℕ
text_of_version_2 survey heights low high flows = csv_text (rows_of_version_2 survey heights low high flows)

-- the certificates that these texts state
abbrev pub certificate_of_version_1 : Survey → (List ℕ → ℤ) → List ℤ → Certified
certificate_of_version_1 survey heights flows =
    record { version = 1; heights = heights_at_points survey heights; low = None; high = None; flows = flows; cost = cost_of survey heights }

abbrev pub certificate_of_version_2 : Survey → (List ℕ → ℤ) → (List ℕ → ℤ) → (List ℕ → ℤ) → List ℤ → Certified
certificate_of_version_2 survey heights low high flows = record {
  version = 2;
  heights = heights_at_points survey heights;
  low = Some (heights_at_points survey low);
  high = Some (heights_at_points survey high);
  flows = flows;
  cost = cost_of survey heights;
}

-- what every network has: no fault, observations and weights in their ranges, and names in reduced form
pub record IsCertifiable (survey : Survey) : Type 0 where
  pub network : IsNetwork survey.observations survey.benchmarks
  pub between : All IsBetweenPoints survey.observations
  pub weights : AreWeights survey.weights
  pub names : All (λ name. name_of name ≡ Some name) (points_of survey)
