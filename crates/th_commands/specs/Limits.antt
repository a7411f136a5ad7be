use Rattle.std.specs.Prelude.{ℕ}

-- the largest limit of blunders that a command takes, in micrometres: 1 km
abbrev pub max_blunder : ℕ
max_blunder = 1000000000

-- the limit of blunders where none is given, in micrometres: 20 mm
abbrev pub default_blunder : ℕ
default_blunder = 20000

-- the most characters of a title
abbrev pub max_title : ℕ
max_title = 100
