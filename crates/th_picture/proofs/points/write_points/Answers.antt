use Rattle.std.proofs.Common.{◌≡◌, ◌++◌, codes}
use Rattle.std.specs.List.{enumerate_from, flat_map}
use Rattle.th_picture.specs.Points.{point_lines, point_shape}
use Rattle.th_picture.proofs.Joins.{more, on_ok}
use Rattle.th_picture.proofs.points.write_points.Goals as goal

pub returns : goal.returns
unfolding point_lines
returns c =
    let p = c.args.page.now in
    let part1 = codes "<g class=\"dots\">\n" in
    let part2 = flat_map (point_shape c.args.frame.now) (enumerate_from 0 c.args.points.now) in
    let part3 = codes "</g>\n" in
    let front2 = part1 ++ part2 in
    let step1 : c.add.new.self ≡ p ++ part1 = c.in_ok-add.ensures in
    let step2 = more p part1 part2 c.add.new.self c.write_shapes.new.page step1 c.in_ok-write_shapes.ensures in
    on_ok _ _ c.add-2.result (more p front2 part3 c.write_shapes.new.page c.add-2.new.self step2) c.add-2.ensures
