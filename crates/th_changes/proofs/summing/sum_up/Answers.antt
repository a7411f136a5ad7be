use Rattle.std.proofs.Common.{◌≡◌, ◌<◌, ◌≤◌, ◌+◌, ◌*◌, ℤ, pos, ◌+ℤ◌, List, ap, get_or, length, of_z, to_z, unsigned_abs, w32, w64, ◌∙◌, arith}
use Rattle.std.proofs.lemmas.Int.{fits_signed_from_abs, ints, to_z-of_z}
use Rattle.std.proofs.lemmas.List.Elements.{All-get_or}
use Rattle.th_tables.specs.Limits.{max_weight}
use Rattle.th_changes.specs.Inside.Sums.{sum_before}
use Rattle.th_changes.proofs.SumLemmas.{before_more, one_more}
use Rattle.th_changes.proofs.summing.sum_up.Goals as goal

pub loop-k-preserved : goal.loop-k-preserved
loop-k-preserved c =
    let flows : List ℤ = c.args.flows.now in
    let k = c.loop-k.k in
    let there : k < length flows = omega (arith, c.loop-k-test.true) in
    let flow : ℤ = get_or flows k (pos 0) in
    let light : unsigned_abs flow ≤ max_weight = All-get_or (λ flow. unsigned_abs flow ≤ max_weight) flows k (pos 0) there c.requires.flows.in_range in
    let read : ℤ = to_z w64 (of_z w64 flow) in
    let plain_read : read ≡ flow = to_z-of_z w64 flow (fits_signed_from_abs w64 flow (omega (arith, light))) in
    let read_size = ap unsigned_abs plain_read in
    let own : ℤ = to_z w32 (of_z w32 read) in
    let plain : own ≡ flow = to_z-of_z w32 read (fits_signed_from_abs w32 read (omega (arith, light, read_size))) ∙ plain_read in
    let size = ap unsigned_abs plain in
    let so_far = c.loop-k.invariant in
    let was = c.loop-k.sum-is in
    let sum : ℤ = to_z w32 c.loop-k.sum-bits +ℤ own in
    let small : unsigned_abs sum ≤ (k + 1) * max_weight = omega (arith, ints, light, size, so_far.small, was) in
    let few = c.observations-all.ensures.few in
    let each = c.requires.flows.each in
    let total : to_z w32 (of_z w32 sum) ≡ sum = to_z-of_z w32 sum (fits_signed_from_abs w32 sum (omega (arith, small, few, there))) in
    let more = before_more flows k there in
    let is : to_z w32 (of_z w32 sum) ≡ sum_before flows (k + 1) = omega (arith, ints, total, more, plain, so_far.sum, was) in
    let same_size = ap unsigned_abs total in
    record {
      sum = is;
      small = omega (arith, small, same_size);
      sums = one_more flows c.loop-k.sums k (to_z w32 (of_z w32 sum)) there is (omega (arith, small, same_size, few, there)) so_far.sums;
    }
