-- How far a number may change.
use Rattle.std.specs.Prelude.{ℕ, ◌-◌, pos, List, fold, if◌then◌else◌, min, unsigned_abs}
use Rattle.std.specs.Ordering.{int_eq}
use Rattle.th_observations.specs.Observed.{Observed, largest_difference}
use Rattle.th_changes.specs.declared.numbers.Number.{Number}
use Rattle.th_changes.specs.Numbers.{touch}

-- the lesser of a reach and how much an observation's difference may change, if the number touches it, before it could be more than a book can say
abbrev pub nearer : Number → ℕ → Observed → ℕ
nearer number reach o = if int_eq (touch number o) (pos 0) then reach else min reach (largest_difference - unsigned_abs o.difference)

-- how far a number may change before a difference that it touches could be more than a book can say
abbrev pub reach_of : Number → List Observed → ℕ
reach_of number observations = fold (nearer number) largest_difference observations
