use Rattle.std.specs.Prelude.{ℕ, ◌==◌, Option, Some, None, nat_lt, if◌then◌else◌}
use Rattle.th_reliability.specs.declared.mistakes.Mistake.{Mistake}
use Rattle.th_reliability.specs.declared.mistakes.Mistake.TheVariants.{Shows, Ties, Hides, Unchecked}

-- What a mistake does in an observation with this control and weight. It shows if there is no control, and is unchecked if the control is 0.
-- Otherwise it shows if the control is above the weight, ties if both are equal, and hides if the control is below the weight.
abbrev pub mistake_of : Option ℕ → ℕ → Mistake
mistake_of None weight = Shows
mistake_of (Some control) weight =
    if control == 0 then Unchecked
    else (if nat_lt weight control then Shows
    else (if control == weight then Ties else Hides))
