use Rattle.std.proofs.Common.{ap, length, arith}
use Rattle.th_numbers.proofs.listing.benchmarks_of.Goals as goal

pub tied_benchmarks-requires : goal.tied_benchmarks-requires
tied_benchmarks-requires c = omega (arith, ap length c.deref.ensures.value, c.in_ok-rows.ensures.few)
