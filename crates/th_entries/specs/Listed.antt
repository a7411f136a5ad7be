-- The first of some things, and how many there are.
use Rattle.std.specs.Prelude.{◌≡◌, ℕ, ◌-◌, ◌^◌, min, List, length, take}
use Rattle.th_entries.specs.Limits.{max_listed}
use Rattle.th_entries.specs.declared.listed.Listed.{Listed}

-- how many things there are; the count stops at 2^32 - 1
abbrev pub counted : {X : Type 0} → List X → ℕ
counted things = min (length things) (2 ^ 32 - 1)

-- the list has the first of these things, as many as are listed at most, and how many there are
pub record IsListed {X : Type 0} (things : List X) (listed : Listed X) : Type 0 where
  pub first : listed.first.items ≡ take max_listed things
  pub count : listed.count ≡ counted things
