use Rattle.th_points.proofs.PlaceLemmas.{points_cases, points_distinct}
use Rattle.th_points.proofs.laws.points_are_ends_and_benchmarks.Goals as goal

pub returns-clause-each : goal.returns-clause-each
returns-clause-each c = points_cases

pub returns-clause-once : goal.returns-clause-once
returns-clause-once c = points_distinct
