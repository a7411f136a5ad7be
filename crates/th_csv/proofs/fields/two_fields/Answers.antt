use Rattle.std.proofs.Common.{◌≡◌, ◌∷◌, [], ℕ, List, Some, None, arith}
use Rattle.csv.specs.Records.{field_at}
use Rattle.th_csv.proofs.FieldLemmas.{field_missing, field_there}
use Rattle.th_csv.proofs.fields.two_fields.Goals as goal
use Rattle.th_csv.proofs.fields.two_fields.Goals.{in_default-via-in-Some+in-Some+in_default, in_default-via-in-Some+in_default, in_default-via-in_default}

-- two fields and no third
two : (fields : List (List ℕ)) (first second : List ℕ) → Some first ≡ field_at fields 0 → Some second ≡ field_at fields 1 → None ≡ field_at fields 2 → fields ≡ first ∷ second ∷ []
unfolding field_at
two [] first second a b c = cc a
two (x ∷ []) first second a b c = cc b
two (x ∷ y ∷ []) first second a b c = cc
two (x ∷ y ∷ z ∷ rest) first second a b c = cc c

pub returns-in-Some-Some-None : goal.returns-in-Some-Some-None
returns-in-Some-Some-None c =
    two _ c.in-Some-Some-None.first.now c.in-Some-Some-None.second.now c.in-Some-Some-None.ensures.value c.in-Some-Some-None.ensures'.value c.in-Some-Some-None.ensures''.value

pub returns-in_default : goal.returns-in_default
returns-in_default c = λ two. elim c.in_default.branch [
  | in_default-via-in-Some+in-Some+in_default w ↦ omega (arith, field_there _ 2 _ w.in_default.ensures''.value)
  | in_default-via-in-Some+in_default w ↦ omega (arith, field_missing _ 1 w.in_default.ensures'.value)
  | in_default-via-in_default w ↦ omega (arith, field_missing _ 0 w.in_default.ensures.value)
]
