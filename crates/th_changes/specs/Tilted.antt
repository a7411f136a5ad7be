-- A survey in which the change of a number was moved to the differences that it touches. It costs the same.
use Rattle.std.specs.Prelude.{ℤ, ◌+ℤ◌, ◌*ℤ◌, map}
use Rattle.th_observations.specs.Observed.{Observed}
use Rattle.th_network.specs.Networks.{Survey, surveyed}
use Rattle.th_changes.specs.declared.numbers.Number.{Number}
use Rattle.th_changes.specs.Numbers.{touch}

abbrev pub tilted_observation : Number → ℤ → Observed → Observed
tilted_observation number x o = record o { difference = o.difference +ℤ x *ℤ touch number o }

abbrev pub tilted : Number → ℤ → Survey → Survey
tilted number x survey = surveyed (map (tilted_observation number x) survey.observations) survey.benchmarks survey.weights
