-- The farthest unmarked sight, one sight further.
use Rattle.std.proofs.Common.{◌≡◌, ◌<◌, ◌≤◌, ◌+◌, ◌⊎◌, inl, inr, ℕ, ℤ, Bool, true, false, List, None, Some, refl, arith}
use Rattle.std.specs.Prelude.{Option}
use Rattle.th_blunders.specs.Blunders.{is_blunder}
use Rattle.th_remarks.specs.Outliers.{IsFarthest, IsLargestUnmarked, IsUnmarked, sight_at, size_at}
use Rattle.th_remarks.proofs.BelowLemmas.{split}

conflict : (b : Bool) → b ≡ true → b ≡ false → ⊥
conflict b here there = cc

le_lt : (a b c : ℕ) → a ≤ b → b < c → a < c
le_lt a b c small large = omega arith

lt_le : (a b : ℕ) → a < b → a ≤ b
lt_le a b small = omega arith

module _ (limit : ℤ) (sights : List (ℕ × ℤ)) (i : ℕ) where
  split_unmarked : (place : ℕ) → IsUnmarked limit sights (i + 1) place → IsUnmarked limit sights i place ⊎ (place ≡ i)
  split_unmarked place is = elim (split place i is.within) [
    | inl below ↦ inl (record { within = below; unmarked = is.unmarked })
    | inr same ↦ inr same
  ]

  wider : (place : ℕ) → IsUnmarked limit sights i place → IsUnmarked limit sights (i + 1) place
  wider place is = record { within = omega (arith, is.within); unmarked = is.unmarked }

  not_marked : (place : ℕ) → is_blunder limit (sight_at sights i).1 ≡ true → IsUnmarked limit sights (i + 1) place → place ≡ i → ⊥
  not_marked place marked is same =
      let here : is_blunder limit (sight_at sights place).1 ≡ true = rw same marked in
      conflict (is_blunder limit (sight_at sights place).1) here is.unmarked

  -- the next sight is marked
  pub marked_more : (before : Option ℕ) → is_blunder limit (sight_at sights i).1 ≡ true → IsFarthest limit sights i before → IsFarthest limit sights (i + 1) before
  marked_more None marked none = λ place is. elim (split_unmarked place is) [
    | inl earlier ↦ none place earlier
    | inr same ↦ not_marked place marked is same
  ]
  marked_more (Some place) marked far = record {
    there = wider place far.there;
    largest = λ other is. elim (split_unmarked other is) [
      | inl earlier ↦ far.largest other earlier
      | inr same ↦ absurd (not_marked other marked is same)
    ];
    first = λ other before is. elim (split_unmarked other is) [
      | inl earlier ↦ far.first other before earlier
      | inr same ↦ absurd (not_marked other marked is same)
    ];
  }

  -- the next sight is the first unmarked one
  pub first_unmarked : is_blunder limit (sight_at sights i).1 ≡ false → IsFarthest limit sights i None → IsFarthest limit sights (i + 1) (Some i)
  first_unmarked unmarked none = record {
    there = record { within = omega arith; unmarked = unmarked };
    largest = λ other is. elim (split_unmarked other is) [
      | inl earlier ↦ absurd (none other earlier)
      | inr same ↦ rw same (omega arith)
    ];
    first = λ other before is. absurd (none other (record { within = before; unmarked = is.unmarked }));
  }

  -- the next sight is farther than those before it
  pub farther_more : (place : ℕ) → is_blunder limit (sight_at sights i).1 ≡ false → size_at sights place < size_at sights i → IsFarthest limit sights i (Some place) → IsFarthest limit sights (i + 1) (Some i)
  farther_more place unmarked larger far = record {
    there = record { within = omega arith; unmarked = unmarked };
    largest = λ other is. elim (split_unmarked other is) [
      | inl earlier ↦ lt_le _ _ (le_lt _ _ _ (far.largest other earlier) larger)
      | inr same ↦ rw same (omega arith)
    ];
    first = λ other before is. le_lt _ _ _ (far.largest other (record { within = before; unmarked = is.unmarked })) larger;
  }

  -- the next sight is no farther
  pub nearer_more : (place : ℕ) → size_at sights i ≤ size_at sights place → IsFarthest limit sights i (Some place) → IsFarthest limit sights (i + 1) (Some place)
  nearer_more place nearer far = record {
    there = wider place far.there;
    largest = λ other is. elim (split_unmarked other is) [
      | inl earlier ↦ far.largest other earlier
      | inr same ↦ rw same nearer
    ];
    first = λ other before is. elim (split_unmarked other is) [
      | inl earlier ↦ far.first other before earlier
      | inr same ↦ absurd (omega (arith, same, before, far.there.within))
    ];
  }
