use Rattle.std.proofs.Common.{◌≡◌, ◌++◌, codes, decimal}
use Rattle.th_picture.specs.Pictures.{open_text}
use Rattle.th_picture.proofs.Joins.{more, on_ok}
use Rattle.th_picture.proofs.pictures.write_open.Goals as goal

pub returns : goal.returns
unfolding open_text
returns c =
    let p = c.args.page.now in
    let part1 = codes "<svg viewBox=\"0 0 8000 " in
    let part2 = decimal c.args.height in
    let part3 = codes "\" role=\"img\" aria-label=\"Heights of points and sights\">\n" in
    let front2 = part1 ++ part2 in
    let step1 : c.add.new.self ≡ p ++ part1 = c.in_ok-add.ensures in
    let step2 = more p part1 part2 c.add.new.self c.write_number.new.page step1 c.in_ok-write_number.ensures in
    on_ok _ _ c.add-2.result (more p front2 part3 c.write_number.new.page c.add-2.new.self step2) c.add-2.ensures
