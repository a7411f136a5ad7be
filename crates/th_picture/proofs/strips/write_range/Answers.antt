use Rattle.std.proofs.Common.{◌≡◌, ◌++◌, ◌-◌, ◌*◌, ℕ, codes, decimal, ap, ◌∙◌, arith}
use Rattle.th_picture.specs.Strips.{range_text}
use Rattle.th_picture.proofs.Joins.{more, on_ok}
use Rattle.th_picture.proofs.strips.write_range.Goals as goal

pub returns : goal.returns
unfolding range_text
returns c =
    let p = c.args.page.now in
    let part1 = codes "<rect x=\"900\" y=\"" in
    let part2 = decimal (650 - c.args.within) in
    let part3 = codes "\" width=\"7000\" height=\"" in
    let part4 = decimal (2 * c.args.within) in
    let part5 = codes "\"/>\n" in
    let front2 = part1 ++ part2 in
    let front3 = front2 ++ part3 in
    let front4 = front3 ++ part4 in
    let top : c.saturating_sub.result ≡ 650 - c.args.within = omega arith in
    let step1 : c.add.new.self ≡ p ++ part1 = c.in_ok-add.ensures in
    let step2 = more p part1 part2 c.add.new.self c.write_number.new.page step1 (c.in_ok-write_number.ensures ∙ ap (λ (at : ℕ). c.add.new.self ++ decimal at) top) in
    let step3 = more p front2 part3 c.write_number.new.page c.add-2.new.self step2 c.in_ok-add-2.ensures in
    let step4 = more p front3 part4 c.add-2.new.self c.write_number-2.new.page step3 (c.in_ok-write_number-2.ensures ∙ ap (λ (within : ℕ). c.add-2.new.self ++ decimal (2 * within)) c.from-within.ensures) in
    on_ok _ _ c.add-3.result (more p front4 part5 c.write_number-2.new.page c.add-3.new.self step4) c.add-3.ensures
