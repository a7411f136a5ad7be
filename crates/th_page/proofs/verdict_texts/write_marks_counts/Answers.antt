use Rattle.std.proofs.Common.{◌≡◌, ◌++◌, codes, decimal}
use Rattle.th_page.specs.Verdicts.{marks_counts}
use Rattle.th_picture.proofs.Joins.{more, on_ok}
use Rattle.th_page.proofs.verdict_texts.write_marks_counts.Goals as goal

pub returns : goal.returns
unfolding marks_counts
returns c =
    let p = c.args.page.now in
    let part1 = codes "<b>" in
    let part2 = decimal c.args.count in
    let part3 = codes " of " in
    let part4 = decimal c.args.total in
    let part5 = codes " sights marked.</b> " in
    let front2 = part1 ++ part2 in
    let front3 = front2 ++ part3 in
    let front4 = front3 ++ part4 in
    let step1 : c.add.new.self ≡ p ++ part1 = c.in_ok-add.ensures in
    let step2 = more p part1 part2 c.add.new.self c.write_number.new.page step1 c.in_ok-write_number.ensures in
    let step3 = more p front2 part3 c.write_number.new.page c.add-2.new.self step2 c.in_ok-add-2.ensures in
    let step4 = more p front3 part4 c.add-2.new.self c.write_number-2.new.page step3 c.in_ok-write_number-2.ensures in
    on_ok _ _ c.add-3.result (more p front4 part5 c.write_number-2.new.page c.add-3.new.self step4) c.add-3.ensures
