-- The orders in which a pass goes over a list.
use Rattle.std.specs.Prelude.{ℕ, ◌-◌}
use Rattle.th_search.specs.declared.sweeps.Sweep.{Sweep}
use Rattle.th_search.specs.declared.sweeps.Sweep.TheVariants.{Forwards, Backwards}

-- the index, in a list of this size, to which a step leads
abbrev pub index_at : Sweep → ℕ → ℕ → ℕ
index_at Forwards size step = step
index_at Backwards size step = size - 1 - step

-- the opposite order
abbrev pub reversed : Sweep → Sweep
reversed Forwards = Backwards
reversed Backwards = Forwards
