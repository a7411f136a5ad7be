-- What is said in a book, kept in a set.
use Rattle.std.specs.Prelude.{◌≡◌, ◌+◌, ℕ, ℤ, Bool, List, Some, slice_get}
use Rattle.std.specs.BTreeSet.{BTreeSet, contains}
use Rattle.std.specs.Cmp.Lexicographic.{slice_cmp}
use Rattle.std.specs.Ordering.{int_cmp, nat_cmp, ordering_then}
use Rattle.std.specs.declared.cmp.Ordering.{Ordering}
use Rattle.th_observations.specs.Observed.{Observed}
use Rattle.th_remarks.specs.Repeats.{is_said_in}

-- what a sight says: its station, its target and the difference
abbrev pub Said : Type 0
Said = List ℕ × List ℕ × ℤ

abbrev pub said : Observed → Said
said o = (o.station, o.target, o.difference)

-- the order of a set of what is said
abbrev pub said_cmp : Said → Said → Ordering
said_cmp a b = ordering_then (ordering_then (slice_cmp nat_cmp a.0 b.0) (slice_cmp nat_cmp a.1 b.1)) (int_cmp a.2 b.2)

-- whether a set has what is said
abbrev pub has_said : BTreeSet Said → Said → Bool
has_said = contains said_cmp

-- a set has what is said in a book
abbrev pub IsSaidIn : List Observed → ℕ → BTreeSet Said → Type 0
IsSaidIn observations book set = (o : Observed) → has_said set (said o) ≡ is_said_in observations book o

-- sets have what is said in books 1, 2 and so on
abbrev pub AreSaidIn : List Observed → List (BTreeSet Said) → Type 0
AreSaidIn observations sets = (k : ℕ) (set : BTreeSet Said) → slice_get sets k ≡ Some set → IsSaidIn observations (k + 1) set
