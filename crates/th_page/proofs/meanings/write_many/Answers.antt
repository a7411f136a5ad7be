use Rattle.std.proofs.Common.{◌≡◌, ◌++◌, codes, decimal}
use Rattle.th_html.specs.Lengths.{size_text}
use Rattle.th_page.specs.Verdicts.{many_words}
use Rattle.th_picture.proofs.Joins.{more, on_ok}
use Rattle.th_page.proofs.meanings.write_many.Goals as goal

pub returns : goal.returns
unfolding many_words
returns c =
    let p = c.args.page.now in
    let part1 = codes "Then " in
    let part2 = decimal c.args.count in
    let part3 = codes " heights move by more than " in
    let part4 = size_text c.args.limit in
    let part5 = codes ": they are struck out below." in
    let front2 = part1 ++ part2 in
    let front3 = front2 ++ part3 in
    let front4 = front3 ++ part4 in
    let step1 : c.add.new.self ≡ p ++ part1 = c.in_ok-add.ensures in
    let step2 = more p part1 part2 c.add.new.self c.write_number.new.page step1 c.in_ok-write_number.ensures in
    let step3 = more p front2 part3 c.write_number.new.page c.add-2.new.self step2 c.in_ok-add-2.ensures in
    let step4 = more p front3 part4 c.add-2.new.self c.write_size.new.page step3 c.in_ok-write_size.ensures in
    on_ok _ _ c.add-3.result (more p front4 part5 c.write_size.new.page c.add-3.new.self step4) c.add-3.ensures
