-- Numbers that belong to one point.
use Rattle.th_network.specs.Networks.{Survey}
use Rattle.th_reliability.specs.Sights.{IsOfOneStation}
use Rattle.th_changes.specs.declared.numbers.Number.{Number}
use Rattle.th_changes.specs.declared.numbers.Number.TheVariants.{Added, Subtracted, Benchmark}

-- all sights of the number are from one station, as those of an entry are; the height of a benchmark belongs to it
abbrev pub IsAtOnePoint : Survey → Number → Type 0
IsAtOnePoint survey (Added sights) = IsOfOneStation survey.observations sights
IsAtOnePoint survey (Subtracted sights) = IsOfOneStation survey.observations sights
IsAtOnePoint survey (Benchmark name) = Unit {0}
