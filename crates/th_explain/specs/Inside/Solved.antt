-- What the simplex shows of a number.
use Rattle.std.specs.Prelude.{ℕ, Option, None}
use Rattle.th_network.specs.Networks.{Survey}
use Rattle.th_changes.specs.declared.numbers.Number.{Number}
use Rattle.th_explain.specs.Explained.{IsExact, IsExplainedOrMore}
use Rattle.th_explain.specs.declared.solving.Solved.{Solved}
use Rattle.th_explain.specs.declared.solving.Solved.TheVariants.{Nothing, Exactly, Unknown}

-- it is missing, exact, or not known
abbrev pub IsSolved : Survey → ℕ → Option ℕ → Number → Solved → Type 0
IsSolved survey limit least number Nothing = IsExplainedOrMore survey limit least number None
IsSolved survey limit least number (Exactly freed) = IsExact survey number freed
IsSolved survey limit least number Unknown = Unit {0}

-- it is exact, or not known
abbrev pub IsExactOrUnknown : Survey → Number → Solved → Type 0
IsExactOrUnknown survey number Nothing = ⊥
IsExactOrUnknown survey number (Exactly freed) = IsExact survey number freed
IsExactOrUnknown survey number Unknown = Unit {0}
