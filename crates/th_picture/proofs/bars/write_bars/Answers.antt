use Rattle.std.proofs.Common.{◌≡◌, ◌++◌, ℕ, codes, decimal, length, ap, ◌∙◌}
use Rattle.std.specs.List.{flat_map}
use Rattle.th_picture.specs.Groups.{groups}
use Rattle.th_picture.specs.Strips.{bar_lines, bars_of, width_of}
use Rattle.th_picture.proofs.Joins.{more, on_ok}
use Rattle.th_picture.proofs.bars.write_bars.Goals as goal

pub returns : goal.returns
unfolding bar_lines
returns c =
    let p = c.args.page.now in
    let part1 = codes "<g class=\"bars\" stroke-width=\"" in
    let part2 = decimal (width_of (length c.args.sights.now)) in
    let part3 = codes "\">\n" in
    let part4 = flat_map (bars_of c.args.half c.args.sights.now) groups in
    let part5 = codes "</g>\n" in
    let front2 = part1 ++ part2 in
    let front3 = front2 ++ part3 in
    let front4 = front3 ++ part4 in
    let step1 : c.add.new.self ≡ p ++ part1 = c.in_ok-add.ensures in
    let step2 = more p part1 part2 c.add.new.self c.write_number.new.page step1 (c.in_ok-write_number.ensures ∙ ap (λ (width : ℕ). c.add.new.self ++ decimal width) c.width_of.ensures) in
    let step3 = more p front2 part3 c.write_number.new.page c.add-2.new.self step2 c.in_ok-add-2.ensures in
    let step4 = more p front3 part4 c.add-2.new.self c.write_groups.new.page step3 c.in_ok-write_groups.ensures in
    on_ok _ _ c.add-3.result (more p front4 part5 c.write_groups.new.page c.add-3.new.self step4) c.add-3.ensures
