use Rattle.std.proofs.Common.{◌≡◌, ◌++◌, codes}
use Rattle.th_page.specs.Verdicts.{unchecked_called, unchecked_note}
use Rattle.th_picture.proofs.Joins.{more, on_ok}
use Rattle.th_page.proofs.meanings.write_unchecked_note.Goals as goal

pub returns : goal.returns
unfolding unchecked_note
returns c =
    let p = c.args.page.now in
    let part1 = codes "<p>Nothing checks " in
    let part2 = unchecked_called c.args.sights c.args.entries in
    let part3 = codes ": a mistake there would not show.</p>\n" in
    let front2 = part1 ++ part2 in
    let step1 : c.add.new.self ≡ p ++ part1 = c.in_ok-add.ensures in
    let step2 = more p part1 part2 c.add.new.self c.write_called.new.page step1 c.in_ok-write_called.ensures in
    on_ok _ _ c.add-2.result (more p front2 part3 c.write_called.new.page c.add-2.new.self step2) c.add-2.ensures
