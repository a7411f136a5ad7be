use Rattle.std.proofs.Common.{◌≡◌, ◌<◌, ◌+ℤ◌, ◌-ℤ◌, ℕ, ℤ, pos, neg_ℤ, List, length, get_or, to_z, of_z, unsigned_abs, w64, subst, sym, ap, ◌∙◌, arith}
use Rattle.std.specs.List.{zip}
use Rattle.std.proofs.Math.ListN.{set}
use Rattle.std.proofs.lemmas.Int.{fits_signed_from_abs, ints, to_z-of_z}
use Rattle.std.proofs.lemmas.List.{take_all}
use Rattle.std.proofs.lemmas.List.Elements.{All-get_or}
use Rattle.std.proofs.lemmas.Slice.Zip.{get_or-zip, length-zip}
use Rattle.th_certificate.specs.Certified.{flow_limit}
use Rattle.th_points.specs.Ends.{AreBelow}
use Rattle.th_checker.specs.Inside.Tests.{AreBalances}
use Rattle.th_checker.proofs.BalanceLemmas.{balances_more, small_more}
use Rattle.th_checker.proofs.NumberLemmas.{plain_flow}
use Rattle.th_checker.proofs.balances.add_all.Goals as goal

pub loop-i-preserved : goal.loop-i-preserved
loop-i-preserved c =
    let tested = c.args.tested.now.tested in
    let ends = c.args.tested.now.ends.now in
    let flows = c.args.tested.now.flows.now in
    let same : length flows ≡ length ends = tested.flowing ∙ sym tested.ended in
    let i = c.loop-i.i in
    let old = c.loop-i.balances in
    let points = c.args.tested.now.points in
    let end = get_or ends i (0, 0) in
    let flow = get_or flows i (pos 0) in
    let within : i < length ends = omega (arith, same, c.loop-i-test.true) in
    let below : AreBelow points end = All-get_or (AreBelow points) ends i (0, 0) within tested.within in
    let small : unsigned_abs flow < flow_limit = All-get_or (λ flow. unsigned_abs flow < flow_limit) flows i (pos 0) c.loop-i-test.true tested.in_range in
    let plain = plain_flow flows i tested.in_range c.loop-i-test.true in
    let turned : pos 0 -ℤ flow ≡ neg_ℤ flow = omega (arith, ints) in
    let back : to_z w64 (of_z w64 (pos 0 -ℤ to_z w64 (of_z w64 flow))) ≡ neg_ℤ flow =
    ap (λ z. to_z w64 (of_z w64 (pos 0 -ℤ z))) plain ∙ ap (λ z. to_z w64 (of_z w64 z)) turned ∙ to_z-of_z w64 (neg_ℤ flow) (fits_signed_from_abs w64 (neg_ℤ flow) (omega (arith, ints, small))) in
    let first : c.add.new.balances ≡ set old end.0 (get_or old end.0 (pos 0) +ℤ neg_ℤ flow) = c.add.ensures ∙ ap (λ z. set old end.0 (get_or old end.0 (pos 0) +ℤ z)) back in
    let once = c.add.new.balances in
    let second : c.add-in-loop-i.new.balances ≡ set once end.1 (get_or once end.1 (pos 0) +ℤ flow) = c.add-in-loop-i.ensures ∙ ap (λ z. set once end.1 (get_or once end.1 (pos 0) +ℤ z)) plain in
    let pair : get_or (zip ends flows) i ((0, 0), pos 0) ≡ (end, flow) = get_or-zip ends flows i ((0, 0), pos 0) within c.loop-i-test.true in
    let size = c.loop-i.auto.balances in
    record {
      sums = balances_more points (zip ends flows) i end.0 end.1 flow old once c.add-in-loop-i.new.balances c.loop-i.invariant.sums (omega (arith, length-zip ends flows, within, c.loop-i-test.true)) pair below.0 below.1 first second;
      small = λ place. small_more old once c.add-in-loop-i.new.balances i end.0 end.1 flow place (omega (arith, size, below.0)) (omega (arith, size, below.1)) small first second (c.loop-i.invariant.small place);
    }

pub returns : goal.returns
returns c =
    let tested = c.args.tested.now.tested in
    let pairs = zip c.args.tested.now.ends.now c.args.tested.now.flows.now in
    subst (λ (ps : List ((ℕ × ℕ) × ℤ)). AreBalances c.args.tested.now.points ps c.loop-i.balances)
    (take_all c.loop-i.i pairs (omega (arith, length-zip c.args.tested.now.ends.now c.args.tested.now.flows.now, tested.flowing, tested.ended, c.loop-i-test.false))) c.loop-i.invariant.sums
