-- Costs as texts.
use Rattle.std.specs.Prelude.{ℕ, pos, List}
use Rattle.th_units.specs.Metres.{metres}

-- a cost in metres times weight, with eight decimals
abbrev pub cost_metres : ℕ → List ℕ
cost_metres cost = metres (pos cost)
