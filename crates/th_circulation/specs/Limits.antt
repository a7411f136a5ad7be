use Rattle.std.specs.Prelude.{ℕ}
use Rattle.th_limits.specs.Limits.{calls_before}

-- the most calls of its search, and the most steps, that settling may start with
abbrev pub max_counted : ℕ
max_counted = calls_before

-- the number of phases of settling: the binary digits of the largest difference of a link, and one for its sign
abbrev pub phases : ℕ
phases = 44
