use Rattle.std.specs.Prelude.{ℕ, ℤ, List, map}
use Rattle.std.specs.Int.{int_shr}
use Rattle.th_network.specs.declared.links.Link.{Link}

-- a difference in a phase: halved as often as the number of the phase, and rounded down
abbrev pub difference_in : ℕ → ℤ → ℤ
difference_in phase diff = int_shr diff phase

-- the differences of a phase
abbrev pub differences_in : ℕ → List Link → List ℤ
differences_in phase links = map (λ link. difference_in phase link.diff) links
