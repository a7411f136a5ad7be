-- Sets of names, and of pairs of names, in the order of bytes.
use Rattle.std.specs.Prelude.{ℕ, Bool, List}
use Rattle.std.specs.BTreeSet.{BTreeSet, contains}
use Rattle.std.specs.Cmp.Lexicographic.{slice_cmp}
use Rattle.std.specs.Ordering.{nat_cmp, ordering_then}

-- whether a name is in a set
abbrev pub has_name : BTreeSet (List ℕ) → List ℕ → Bool
has_name = contains (slice_cmp nat_cmp)

-- whether a pair of names is in a set
abbrev pub has_pair : BTreeSet (List ℕ × List ℕ) → List ℕ × List ℕ → Bool
has_pair = contains (λ pair other. ordering_then (slice_cmp nat_cmp pair.0 other.0) (slice_cmp nat_cmp pair.1 other.1))
