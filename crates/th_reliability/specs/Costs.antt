use Rattle.std.specs.Prelude.{ℕ, ◌*◌, ℤ, Bool, List, if◌then◌else◌, min, sum_by, unsigned_abs}
use Rattle.th_observations.specs.Observed.{Observed}
use Rattle.th_tables.specs.Rows.{WeightRows, weight_of}
use Rattle.th_network.specs.Heights.{residual}

-- the cost of the observations that are not blunders: the sum of weight times size of the residual
abbrev pub cost_outside : List Observed → WeightRows → (Observed → Bool) → (List ℕ → ℤ) → ℕ
cost_outside observations weights blunder heights = sum_by (λ o. if blunder o then 0 else weight_of weights o.station o.target * unsigned_abs (residual o heights)) observations

-- the cost of the observations if no residual counts for more than `most`: the sum of weight times the lesser of `most` and the size of the residual
abbrev pub cost_up_to : List Observed → WeightRows → ℕ → (List ℕ → ℤ) → ℕ
cost_up_to observations weights most heights = sum_by (λ o. weight_of weights o.station o.target * min most (unsigned_abs (residual o heights))) observations
