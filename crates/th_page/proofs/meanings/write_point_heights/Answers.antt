use Rattle.std.proofs.Common.{◌≡◌, ◌++◌, ℤ, codes, ap, ◌∙◌}
use Rattle.std.proofs.Math.Facts.{to_z-of_z}
use Rattle.th_html.specs.Lengths.{height_text}
use Rattle.th_page.specs.Verdicts.{point_heights}
use Rattle.th_picture.proofs.Joins.{more, on_ok}
use Rattle.th_page.proofs.meanings.write_point_heights.Goals as goal

pub returns : goal.returns
unfolding point_heights
returns c =
    let p = c.args.page.now in
    let part1 = height_text c.args.mended in
    let part2 = codes "</b> in place of <s>" in
    let part3 = height_text c.args.height in
    let part4 = codes "</s>." in
    let front2 = part1 ++ part2 in
    let front3 = front2 ++ part3 in
    let step1 : c.write_height.new.page ≡ p ++ part1 = (c.in_ok-write_height.ensures ∙ ap (λ (height : ℤ). p ++ height_text height) (to_z-of_z c.ranges.mended)) in
    let step2 = more p part1 part2 c.write_height.new.page c.add.new.self step1 c.in_ok-add.ensures in
    let step3 = more p front2 part3 c.add.new.self c.write_height-2.new.page step2 (c.in_ok-write_height-2.ensures ∙ ap (λ (height : ℤ). c.add.new.self ++ height_text height) (to_z-of_z c.ranges.height)) in
    on_ok _ _ c.add-2.result (more p front3 part4 c.write_height-2.new.page c.add-2.new.self step3) c.add-2.ensures
