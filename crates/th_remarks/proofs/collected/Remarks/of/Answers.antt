use Rattle.std.proofs.Common.{◌≤◌, [], length, ap, arith}
use Rattle.th_limits.specs.Limits.{max_books, max_points}
use Rattle.th_network.specs.Networks.{points_of}
use Rattle.th_remarks.proofs.FewLemmas.{few_alike, few_found}
use Rattle.th_remarks.proofs.collected.Remarks.of.Goals as goal

pub invariant_of-result : goal.invariant_of-result
invariant_of-result c =
    let notes = c.in_ok-repeats.ensures in
    let books : length c.in_ok-repeats.repeats.items ≤ max_books = omega (arith, ap length notes.all, few_found notes.found, notes.each) in
    let points : length c.in_ok-alike.alike.items ≤ max_points =
    omega (arith, ap length c.in_ok-alike.ensures, few_alike c.args.network.now.observations [] (points_of c.args.network.now), c.observations-observations.ensures.network.few_points) in
    record { few_books = books; few_points = points }
