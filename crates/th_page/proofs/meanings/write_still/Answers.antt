use Rattle.std.proofs.Common.{◌≡◌, ◌++◌, codes}
use Rattle.th_html.specs.Lengths.{size_text}
use Rattle.th_page.specs.Verdicts.{still_words}
use Rattle.th_picture.proofs.Joins.{more, on_ok}
use Rattle.th_page.proofs.meanings.write_still.Goals as goal

pub returns : goal.returns
unfolding still_words
returns c =
    let p = c.args.page.now in
    let part1 = codes "No height moves by more than " in
    let part2 = size_text c.args.limit in
    let part3 = codes " then." in
    let front2 = part1 ++ part2 in
    let step1 : c.add.new.self ≡ p ++ part1 = c.in_ok-add.ensures in
    let step2 = more p part1 part2 c.add.new.self c.write_size.new.page step1 c.in_ok-write_size.ensures in
    on_ok _ _ c.add-2.result (more p front2 part3 c.write_size.new.page c.add-2.new.self step2) c.add-2.ensures
