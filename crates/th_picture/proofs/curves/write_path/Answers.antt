use Rattle.std.proofs.Common.{◌≡◌, ◌++◌, codes}
use Rattle.th_html.specs.Places.{found_text}
use Rattle.th_picture.specs.Curves.{sight_curve, sight_path}
use Rattle.th_picture.proofs.Joins.{more, on_ok}
use Rattle.th_picture.proofs.curves.write_path.Goals as goal

pub returns : goal.returns
unfolding sight_path
returns c =
    let p = c.args.page.now in
    let part1 = codes "<path d=\"" in
    let part2 = sight_curve c.args.frame.now c.args.sight.now in
    let part3 = codes "\"><title>" in
    let part4 = found_text c.args.sight.now.row in
    let part5 = codes "</title></path>\n" in
    let front2 = part1 ++ part2 in
    let front3 = front2 ++ part3 in
    let front4 = front3 ++ part4 in
    let step1 : c.add.new.self ≡ p ++ part1 = c.in_ok-add.ensures in
    let step2 = more p part1 part2 c.add.new.self c.write_sight_curve.new.page step1 c.in_ok-write_sight_curve.ensures in
    let step3 = more p front2 part3 c.write_sight_curve.new.page c.add-2.new.self step2 c.in_ok-add-2.ensures in
    let step4 = more p front3 part4 c.add-2.new.self c.write_found.new.page step3 c.in_ok-write_found.ensures in
    on_ok _ _ c.add-3.result (more p front4 part5 c.write_found.new.page c.add-3.new.self step4) c.add-3.ensures
