use Rattle.std.proofs.Common.{◌≡◌, ◌+◌, drop, not}
use Rattle.std.specs.List.{position_from, zip}
use Rattle.th_checker.specs.Inside.Tests.{is_slack_at, not_slack_at, residuals_at}
use Rattle.th_checker.proofs.observations.Tested.first_not_slack.Given as goal

abbrev pub invariant-loop-i : goal.invariant-loop-i
invariant-loop-i l =
    let ended = zip l.self.observations.now l.self.ends.now in
    position_from (λ it. not (is_slack_at it)) (l.i + 1) (drop l.i (zip l.self.weights.now (zip (residuals_at ended l.heights) l.self.flows.now))) ≡ not_slack_at l.self.weights.now ended l.self.flows.now l.heights
