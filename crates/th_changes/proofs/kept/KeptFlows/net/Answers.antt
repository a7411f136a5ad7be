use Rattle.std.proofs.Common.{◌≡◌, ℤ, pos, ◌-ℤ◌, ◌*ℤ◌, FitsSigned, List, ap, get_or, of_z, rules, sym, to_z, unsigned_abs, w32, w64, ◌∙◌, arith}
use Rattle.std.proofs.lemmas.Int.{fits_signed_from_abs, ints, to_z-of_z}
use Rattle.std.proofs.lemmas.List.{get_or_default}
use Rattle.th_changes.specs.Inside.Sums.{flows_of, sum_between}
use Rattle.th_changes.specs.Numbers.{sign}
use Rattle.th_changes.proofs.NetLemmas.{net_of_whole}
use Rattle.th_changes.proofs.SumLemmas.{between_of}
use Rattle.th_changes.proofs.kept.KeptFlows.net.Goals as goal

pub returns-then-run : goal.returns-then-run
returns-then-run c =
    let own = c.args.self.now in
    let survey = own.case.now.network.now in
    let sums : List ℤ = own.sums.items in
    let flows : List ℤ = flows_of sums in
    let number = c.args.number.now in
    let run = c.args.run in
    let each = own.kept.each_flow.each in
    let long = own.are_sums.each in
    let ordered = c.requires.ordered in
    let within = c.requires.within in
    let last : ℤ = get_or sums run.end (pos 0) in
    let first : ℤ = get_or sums run.start (pos 0) in
    let read_last : c.index.result.now ≡ last = c.index.ensures ∙ get_or_default sums run.end c.index.result.now (pos 0) (omega (arith, each, long, within)) in
    let read_first : c.index-then-run.result.now ≡ first = c.index-then-run.ensures ∙ get_or_default sums run.start c.index-then-run.result.now (pos 0) (omega (arith, each, long, within, ordered)) in
    let last_small = own.are_sums.small run.end (omega (arith, each, within)) in
    let first_small = own.are_sums.small run.start (omega (arith, each, within, ordered)) in
    let last_size = ap unsigned_abs read_last in
    let first_size = ap unsigned_abs read_first in
    let last_is : c.from.result ≡ last = c.from.ensures ∙ to_z-of_z w32 c.index.result.now (fits_signed_from_abs w32 c.index.result.now (omega (arith, last_small, last_size))) ∙ read_last in
    let first_is : c.from-then-run.result ≡ first = c.from-then-run.ensures ∙ to_z-of_z w32 c.index-then-run.result.now (fits_signed_from_abs w32 c.index-then-run.result.now (omega (arith, first_small, first_size))) ∙ read_first in
    let last_abs = ap unsigned_abs last_is in
    let first_abs = ap unsigned_abs first_is in
    let plain_last = to_z-of_z w64 c.from.result (fits_signed_from_abs w64 c.from.result (omega (arith, last_small, last_abs))) in
    let plain_first = to_z-of_z w64 c.from-then-run.result (fits_signed_from_abs w64 c.from-then-run.result (omega (arith, first_small, first_abs))) in
    let sum : ℤ = to_z w64 (of_z w64 c.from.result) -ℤ to_z w64 (of_z w64 c.from-then-run.result) in
    let plain : to_z w64 (of_z w64 sum) ≡ sum = to_z-of_z w64 sum (fits_signed_from_abs w64 sum (omega (arith, ints, plain_last, plain_first, last_is, first_is, last_small, first_small))) in
    let between : sum ≡ sum_between flows run.start run.end = let own_sum = between_of flows sums run.start run.end own.are_sums ordered (omega (arith, each, within)) in omega (arith, ints, plain_last, plain_first, last_is, first_is, own_sum) in
    let fits : FitsSigned w64 c.signed.result = search rules in
    to_z-of_z w64 c.signed.result fits ∙ c.signed.ensures.signed ∙ ap (λ z. z *ℤ sign number) (plain ∙ between)
    ∙ sym (net_of_whole number survey flows run each c.requires c.if-run.true)
