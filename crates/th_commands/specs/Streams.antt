-- Standard input as an input by name.
use Rattle.std.specs.Prelude.{◌+◌, ℕ, Bool, List, [], codes, min, nat_lt, unwrap_or}
use Rattle.std.specs.List.{count_by}
use Rattle.std.specs.Str.{bytes_eq}
use Rattle.clap.specs.Words.{Row, Text, all_of}

-- the name of standard input
abbrev pub is_stream : Text → Bool
is_stream name = bytes_eq name (codes "-")

-- how many of these names are that of standard input
abbrev pub streams_among : List Text → ℕ
streams_among names = count_by is_stream names

-- how many of the names that `clap` found for an argument are; two at most are counted
abbrev pub streams_in : Text → List Row → ℕ
streams_in argument rows = min (streams_among (unwrap_or (all_of argument rows) [])) 2

-- whether more than one input that `clap` found is standard input
abbrev pub reads_twice : List Row → Bool
reads_twice rows =
    nat_lt 1 (streams_in (codes "book") rows + streams_in (codes "benchmarks") rows + streams_in (codes "weights") rows
    + streams_in (codes "certificate") rows + streams_in (codes "changes") rows)
