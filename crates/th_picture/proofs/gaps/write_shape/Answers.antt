use Rattle.std.proofs.Common.{◌≡◌, ◌++◌, ℕ, codes, decimal, ◌-◌, ap, ◌∙◌}
use Rattle.th_picture.specs.Lines.{pair_text}
use Rattle.th_picture.specs.Gaps.{gap_shape}
use Rattle.th_picture.proofs.Joins.{more, on_ok}
use Rattle.th_picture.proofs.gaps.write_shape.Goals as goal

pub returns : goal.returns
unfolding gap_shape
returns c =
    let p = c.args.page.now in
    let part1 = pair_text (codes "<path class=\"gap\" d=\"M") c.args.x c.args.v in
    let part2 = codes "V" in
    let part3 = decimal c.args.y in
    let part4 = pair_text (codes "\"/><path class=\"cross\" d=\"M") (c.args.x - 40) (c.args.v - 40) in
    let part5 = codes "l80 80m0-80l-80 80\"/>\n" in
    let front2 = part1 ++ part2 in
    let front3 = front2 ++ part3 in
    let front4 = front3 ++ part4 in
    let step1 : c.write_pair.new.page ≡ p ++ part1 = c.in_ok-write_pair.ensures ∙ ap (λ (x : ℕ). p ++ pair_text (codes "<path class=\"gap\" d=\"M") x c.from-2.result) c.from.ensures ∙ ap (λ (v : ℕ). p ++ pair_text (codes "<path class=\"gap\" d=\"M") c.args.x v) c.from-2.ensures in
    let step2 = more p part1 part2 c.write_pair.new.page c.add.new.self step1 c.in_ok-add.ensures in
    let step3 = more p front2 part3 c.add.new.self c.write_number.new.page step2 (c.in_ok-write_number.ensures ∙ ap (λ (y : ℕ). c.add.new.self ++ decimal y) c.from-3.ensures) in
    let step4 = more p front3 part4 c.write_number.new.page c.write_pair-2.new.page step3 (c.in_ok-write_pair-2.ensures ∙ ap (λ (x : ℕ). c.write_number.new.page ++ pair_text (codes "\"/><path class=\"cross\" d=\"M") x c.from-5.result) (c.from-4.ensures ∙ c.saturating_sub.ensures) ∙ ap (λ (v : ℕ). c.write_number.new.page ++ pair_text (codes "\"/><path class=\"cross\" d=\"M") (c.args.x - 40) v) (c.from-5.ensures ∙ c.saturating_sub-2.ensures)) in
    on_ok _ _ c.add-2.result (more p front4 part5 c.write_pair-2.new.page c.add-2.new.self step4) c.add-2.ensures
