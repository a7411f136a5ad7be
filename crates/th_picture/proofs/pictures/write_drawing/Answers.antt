use Rattle.std.proofs.Common.{◌≡◌, ◌++◌, codes}
use Rattle.th_picture.specs.Curves.{group_lines}
use Rattle.th_picture.specs.Gaps.{gap_lines}
use Rattle.th_picture.specs.Names.{name_lines}
use Rattle.th_picture.specs.Pictures.{drawing, scale_lines}
use Rattle.th_picture.specs.Points.{point_lines}
use Rattle.th_picture.proofs.Joins.{more, on_ok}
use Rattle.th_picture.proofs.pictures.write_drawing.Goals as goal

pub returns : goal.returns
unfolding drawing
returns c =
    let p = c.args.page.now in
    let part1 = scale_lines c.args.frame.now.scale in
    let part2 = name_lines c.args.frame.now c.args.turn c.args.points.now in
    let part3 = group_lines c.args.frame.now c.args.sights.now in
    let part4 = point_lines c.args.frame.now c.args.points.now in
    let part5 = gap_lines c.args.frame.now c.args.sights.now in
    let part6 = codes "</svg>\n" in
    let front2 = part1 ++ part2 in
    let front3 = front2 ++ part3 in
    let front4 = front3 ++ part4 in
    let front5 = front4 ++ part5 in
    let step1 : c.write_scale.new.page ≡ p ++ part1 = c.in_ok-write_scale.ensures in
    let step2 = more p part1 part2 c.write_scale.new.page c.write_names.new.page step1 c.in_ok-write_names.ensures in
    let step3 = more p front2 part3 c.write_names.new.page c.write_groups.new.page step2 c.in_ok-write_groups.ensures in
    let step4 = more p front3 part4 c.write_groups.new.page c.write_points.new.page step3 c.in_ok-write_points.ensures in
    let step5 = more p front4 part5 c.write_points.new.page c.write_gaps.new.page step4 c.in_ok-write_gaps.ensures in
    on_ok _ _ c.add.result (more p front5 part6 c.write_gaps.new.page c.add.new.self step5) c.add.ensures
