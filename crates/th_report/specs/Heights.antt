-- The file of heights.
use Rattle.std.specs.Prelude.{ℕ, ℤ, List, [], ◌∷◌, codes, map, take}
use Rattle.th_units.specs.Metres.{metres}
use Rattle.th_csv.specs.Records.{Fields, records_of}
use Rattle.th_csv.specs.Texts.{csv_text}
use Rattle.th_network.specs.Networks.{Survey, points_of}

-- the header of the file
abbrev pub heights_header : Fields
heights_header = codes "point" ∷ codes "height" ∷ codes "low" ∷ codes "high" ∷ []

-- the fields of a point: name, height, which is the lowest best one, lowest and highest best height, all in metres
abbrev pub height_fields : List ℕ → ℤ → ℤ → Fields
height_fields name low high = name ∷ metres low ∷ metres low ∷ metres high ∷ []

-- the record of a point
abbrev pub height_record : (List ℕ → ℤ) → (List ℕ → ℤ) → List ℕ → Fields
height_record low high name = height_fields name (low name) (high name)

-- the text of the file: the header, and then a record for each point, in point order
abbrev pub heights_text : Survey → (List ℕ → ℤ) → (List ℕ → ℤ) → List ℕ
heights_text survey low high = csv_text (heights_header ∷ map (height_record low high) (points_of survey))

-- what a heights file shows of points and their heights: the first three fields of each record, which are all but the highest best height
abbrev pub printed_heights : List ℕ → List Fields
printed_heights text = map (take 3) (records_of text)

-- the first three fields of a point: its name, and twice its height, which is the lowest best one, in metres
abbrev pub printed_height : (List ℕ → ℤ) → List ℕ → Fields
printed_height low name = name ∷ metres (low name) ∷ metres (low name) ∷ []
