use Rattle.std.proofs.Common.{ℤ, All, subst, w64}
use Rattle.std.proofs.lemmas.Int.{to_z-of_z}
use Rattle.th_observations.specs.Observed.{IsBetweenPoints}
use Rattle.th_network.specs.Networks.{Survey}
use Rattle.th_points.proofs.PlaceLemmas.{points_distinct}
use Rattle.th_answer.specs.Inside.Readjusted.{IsAdjusted}
use Rattle.th_answer.specs.declared.correcting.Readjusted.{Readjusted}
use Rattle.th_answer.proofs.CorrectedLemmas.{read_with, readable_if}
use Rattle.th_answer.proofs.correcting.reread.Goals as goal

pub returns-in_ok-adjusted-in-Some : goal.returns-in_ok-adjusted-in-Some
returns-in_ok-adjusted-in-Some c =
    let survey = c.args.network.now in
    let entries = c.args.kinds.now.entries.now in
    let own : Survey = c.in-Some.own in
    let found : Readjusted = c.in_ok-adjusted-in-Some.field-0 in
    let same = rw c.in-Some.is at c.in_ok-own.ensures in
    let between : All IsBetweenPoints own.observations = subst (λ (own : Survey). All IsBetweenPoints own.observations) c.own.view_is c.own.invariant.between in
    let adjusted : IsAdjusted own c.args.limit found = subst (λ (limit : ℤ). IsAdjusted own limit found) (to_z-of_z w64 c.args.limit c.ranges.limit) c.in_ok-adjusted-in-Some.ensures in
    read_with survey entries c.args.limit c.args.book (readable_if entries c.args.book survey.observations (subst (λ (own : Survey). All IsBetweenPoints own.observations) same between)) own same found adjusted
    (points_distinct own.observations own.benchmarks)
