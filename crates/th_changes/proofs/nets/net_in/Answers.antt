use Rattle.std.proofs.Common.{◌≡◌, ℤ, ◌*ℤ◌, List, ap, of_z, sym, to_z, unsigned_abs, w64, ◌∙◌, arith}
use Rattle.std.proofs.lemmas.Int.{fits_signed_from_abs, to_z-of_z}
use Rattle.th_changes.specs.Numbers.{sign}
use Rattle.th_changes.proofs.NetLemmas.{net_of_whole}
use Rattle.th_changes.proofs.nets.net_in.Goals as goal

pub returns-then-run-clause-net : goal.returns-then-run-clause-net
returns-then-run-clause-net c =
    let number = c.args.number.now in
    let flows : List ℤ = c.args.flows.now in
    let sum : ℤ = c.sum_between.result in
    let size = c.sum_between.ensures.small in
    let plain_sum : to_z w64 (of_z w64 sum) ≡ sum = to_z-of_z w64 sum (fits_signed_from_abs w64 sum (omega (arith, size))) in
    let same_size = ap unsigned_abs plain_sum in
    let small = c.signed.ensures.small in
    let plain = to_z-of_z w64 c.signed.result (fits_signed_from_abs w64 c.signed.result (omega (arith, small, same_size, size))) in
    plain ∙ c.signed.ensures.signed ∙ ap (λ z. z *ℤ sign number) (plain_sum ∙ c.sum_between.ensures.sum)
    ∙ sym (net_of_whole number c.args.network.now flows c.args.run c.requires.flows.each c.requires.run c.if-run.true)
