use Rattle.std.proofs.Common.{◌≡◌, ◌++◌, codes, decimal}
use Rattle.th_page.specs.Figures.{undrawn_note}
use Rattle.th_picture.proofs.Joins.{more, on_ok}
use Rattle.th_page.proofs.figures.write_undrawn_note.Goals as goal

pub returns : goal.returns
unfolding undrawn_note
returns c =
    let p = c.args.page.now in
    let part1 = codes "<p>Not drawn, because they are too many: " in
    let part2 = decimal c.args.count in
    let part3 = codes " sights.</p>\n" in
    let front2 = part1 ++ part2 in
    let step1 : c.add.new.self ≡ p ++ part1 = c.in_ok-add.ensures in
    let step2 = more p part1 part2 c.add.new.self c.write_count.new.page step1 c.in_ok-write_count.ensures in
    on_ok _ _ c.add-2.result (more p front2 part3 c.write_count.new.page c.add-2.new.self step2) c.add-2.ensures
