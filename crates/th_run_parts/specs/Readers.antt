-- What the readers of books promise.
use Rattle.std.specs.Prelude.{◌≡◌, ◌+◌, ◌++◌, ℕ, List, [], ◌∷◌, Option}
use Rattle.th_observations.specs.Observed.{Observed}

-- a feed took these bytes: if it had just them left to take, it has none left now
abbrev pub AreTaken : {B F : Type 0} → (B → List ℕ → F → Type 0) → List ℕ → F → F → Type 0
AreTaken {B} has_taken bytes old new = (start : B) → has_taken start bytes old → has_taken start [] new

-- a reader read books one after the other, numbered from this one on, and their observations were put after others
abbrev pub HasReadBooks : {R : Type 0} → (ℕ → Option (List ℕ) → List Observed → R → R → Type 0) → ℕ → List (Option (List ℕ)) → List Observed → List Observed → R → R → Type 0
HasReadBooks has_read number [] before after old new = (after ≡ before) × (new ≡ old)
HasReadBooks {R} has_read number (told ∷ tolds) before after old new =
    (mid : R) × (observations : List Observed) × has_read number told observations old mid
    × HasReadBooks has_read (number + 1) tolds (before ++ observations) after mid new
