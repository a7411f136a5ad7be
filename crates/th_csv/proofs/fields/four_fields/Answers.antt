use Rattle.std.proofs.Common.{◌≡◌, ◌∷◌, [], ℕ, List, Some, None, arith}
use Rattle.csv.specs.Records.{field_at}
use Rattle.th_csv.proofs.FieldLemmas.{field_missing, field_there}
use Rattle.th_csv.proofs.fields.four_fields.Goals as goal
use Rattle.th_csv.proofs.fields.four_fields.Goals.{in_default-via-in-Some+in-Some+in-Some+in-Some+in_default, in_default-via-in-Some+in-Some+in-Some+in_default, in_default-via-in-Some+in-Some+in_default, in_default-via-in-Some+in_default, in_default-via-in_default}

-- four fields and no fifth
four : (fields : List (List ℕ)) (first second third fourth : List ℕ) → Some first ≡ field_at fields 0 → Some second ≡ field_at fields 1 → Some third ≡ field_at fields 2 → Some fourth ≡ field_at fields 3 → None ≡ field_at fields 4
    → fields ≡ first ∷ second ∷ third ∷ fourth ∷ []
unfolding field_at
four [] first second third fourth a b c d e = cc a
four (x ∷ []) first second third fourth a b c d e = cc b
four (x ∷ y ∷ []) first second third fourth a b c d e = cc c
four (x ∷ y ∷ z ∷ []) first second third fourth a b c d e = cc d
four (x ∷ y ∷ z ∷ w ∷ []) first second third fourth a b c d e = cc
four (x ∷ y ∷ z ∷ w ∷ v ∷ rest) first second third fourth a b c d e = cc e

pub returns-in-Some-Some-Some-Some-None : goal.returns-in-Some-Some-Some-Some-None
returns-in-Some-Some-Some-Some-None c =
    let arm = c.in-Some-Some-Some-Some-None in
    four _ arm.first.now arm.second.now arm.third.now arm.fourth.now arm.ensures.value arm.ensures'.value arm.ensures''.value arm.ensures'''.value arm.ensures''''.value

pub returns-in_default : goal.returns-in_default
returns-in_default c = λ four. elim c.in_default.branch [
  | in_default-via-in-Some+in-Some+in-Some+in-Some+in_default w ↦ omega (arith, field_there _ 4 _ w.in_default.ensures''''.value)
  | in_default-via-in-Some+in-Some+in-Some+in_default w ↦ omega (arith, field_missing _ 3 w.in_default.ensures'''.value)
  | in_default-via-in-Some+in-Some+in_default w ↦ omega (arith, field_missing _ 2 w.in_default.ensures''.value)
  | in_default-via-in-Some+in_default w ↦ omega (arith, field_missing _ 1 w.in_default.ensures'.value)
  | in_default-via-in_default w ↦ omega (arith, field_missing _ 0 w.in_default.ensures.value)
]
