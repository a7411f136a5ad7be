use Rattle.std.proofs.Common.{◌≡◌, ◌++◌, codes}
use Rattle.th_html.specs.Lengths.{size_text}
use Rattle.th_page.specs.Verdicts.{count_text, depend_words}
use Rattle.th_picture.proofs.Joins.{more, on_ok}
use Rattle.th_page.proofs.meanings.write_depend.Goals as goal

pub returns : goal.returns
unfolding depend_words
returns c =
    let p = c.args.page.now in
    let part1 = count_text c.args.count (codes "height depends") (codes "heights depend") in
    let part2 = codes " on it by more than " in
    let part3 = size_text c.args.limit in
    let part4 = codes ": struck out below." in
    let front2 = part1 ++ part2 in
    let front3 = front2 ++ part3 in
    let step1 : c.write_counted.new.page ≡ p ++ part1 = c.in_ok-write_counted.ensures in
    let step2 = more p part1 part2 c.write_counted.new.page c.add.new.self step1 c.in_ok-add.ensures in
    let step3 = more p front2 part3 c.add.new.self c.write_size.new.page step2 c.in_ok-write_size.ensures in
    on_ok _ _ c.add-2.result (more p front3 part4 c.write_size.new.page c.add-2.new.self step3) c.add-2.ensures
