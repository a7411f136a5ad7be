-- The fields of a record by their places.
use Rattle.std.proofs.Common.{◌≡◌, ◌<◌, ◌≤◌, ℕ, List, [], ◌∷◌, length, Some, None, suc, zero, arith}
use Rattle.csv.specs.Records.{field_at}

-- a field that is there stands at a place below their count
pub field_there : (fields : List (List ℕ)) (place : ℕ) (field : List ℕ) → Some field ≡ field_at fields place → place < length fields
unfolding field_at
field_there [] place field h = cc h
field_there (first ∷ fields) zero field h = omega arith
field_there (first ∷ fields) (suc place) field h = omega (arith, field_there fields place field h)

-- past the last field there is none
pub field_missing : (fields : List (List ℕ)) (place : ℕ) → None ≡ field_at fields place → length fields ≤ place
unfolding field_at
field_missing [] place h = omega arith
field_missing (first ∷ fields) zero h = cc h
field_missing (first ∷ fields) (suc place) h = omega (arith, field_missing fields place h)
