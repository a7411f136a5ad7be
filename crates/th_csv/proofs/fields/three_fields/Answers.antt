use Rattle.std.proofs.Common.{◌≡◌, ◌∷◌, [], ℕ, List, Some, None, arith}
use Rattle.csv.specs.Records.{field_at}
use Rattle.th_csv.proofs.FieldLemmas.{field_missing, field_there}
use Rattle.th_csv.proofs.fields.three_fields.Goals as goal
use Rattle.th_csv.proofs.fields.three_fields.Goals.{in_default-via-in-Some+in-Some+in-Some+in_default, in_default-via-in-Some+in-Some+in_default, in_default-via-in-Some+in_default, in_default-via-in_default}

-- three fields and no fourth
three : (fields : List (List ℕ)) (first second third : List ℕ) → Some first ≡ field_at fields 0 → Some second ≡ field_at fields 1 → Some third ≡ field_at fields 2 → None ≡ field_at fields 3
    → fields ≡ first ∷ second ∷ third ∷ []
unfolding field_at
three [] first second third a b c d = cc a
three (x ∷ []) first second third a b c d = cc b
three (x ∷ y ∷ []) first second third a b c d = cc c
three (x ∷ y ∷ z ∷ []) first second third a b c d = cc
three (x ∷ y ∷ z ∷ w ∷ rest) first second third a b c d = cc d

pub returns-in-Some-Some-Some-None : goal.returns-in-Some-Some-Some-None
returns-in-Some-Some-Some-None c =
    let arm = c.in-Some-Some-Some-None in
    three _ arm.first.now arm.second.now arm.third.now arm.ensures.value arm.ensures'.value arm.ensures''.value arm.ensures'''.value

pub returns-in_default : goal.returns-in_default
returns-in_default c = λ three. elim c.in_default.branch [
  | in_default-via-in-Some+in-Some+in-Some+in_default w ↦ omega (arith, field_there _ 3 _ w.in_default.ensures'''.value)
  | in_default-via-in-Some+in-Some+in_default w ↦ omega (arith, field_missing _ 2 w.in_default.ensures''.value)
  | in_default-via-in-Some+in_default w ↦ omega (arith, field_missing _ 1 w.in_default.ensures'.value)
  | in_default-via-in_default w ↦ omega (arith, field_missing _ 0 w.in_default.ensures.value)
]
