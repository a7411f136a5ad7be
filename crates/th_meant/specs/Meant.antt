-- What somebody may have meant who keyed in a height.
use Rattle.std.specs.Prelude.{◌≡◌, ◌≢◌, ◌↔◌, ℤ, Bool, true, List, [], Contains, if◌then◌else◌, length, nat_le}
use Rattle.std.specs.List.{AllPairs, list_any}
use Rattle.std.specs.Ordering.{int_eq}
use Rattle.th_meant.specs.Limits.{max_named}
use Rattle.th_meant.specs.Ranges.{is_nearer, is_within}
use Rattle.th_meant.specs.Slips.{IsSlipOf}
use Rattle.th_meant.specs.declared.proposed.Proposed.{Proposed}
use Rattle.th_meant.specs.declared.typed.Typed.{Typed}

-- a height is one of some
abbrev pub is_among : ℤ → List ℤ → Bool
is_among height heights = list_any (λ own. int_eq own height) heights

-- A height may have been meant: it is not the given one, and it fits. Where the given one is in force elsewhere too, it was not keyed in
-- again, and what was meant is another one that is in force. Where it is not, what was meant is a slip of it.
pub record IsCandidate (typed : Typed) (others : List ℤ) (proposed : Proposed) (height : ℤ) : Type 0 where
  pub another : height ≢ typed.given
  pub fits : is_within proposed height ≡ true
  pub other : Contains others typed.given → Contains others height
  pub slip : ¬ Contains others typed.given → IsSlipOf typed height

-- these are all heights that may have been meant, each once, the nearest to the middle first
pub record AreCandidates (typed : Typed) (others : List ℤ) (proposed : Proposed) (heights : List ℤ) : Type 0 where
  pub each : (height : ℤ) → Contains heights height ↔ IsCandidate typed others proposed height
  pub ordered : AllPairs (λ one other. is_nearer proposed one other ≡ true) heights

-- the heights that are named: all that may have been meant, or none if these are too many
abbrev pub named_of : List ℤ → List ℤ
named_of heights = if nat_le (length heights) max_named then heights else []

abbrev pub AreNamed : Typed → List ℤ → Proposed → List ℤ → Type 0
AreNamed typed others proposed named =
    (heights : List ℤ) × AreCandidates typed others proposed heights × (named ≡ named_of heights)
