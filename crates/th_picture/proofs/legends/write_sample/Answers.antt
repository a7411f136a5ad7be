use Rattle.std.proofs.Common.{◌≡◌, ◌++◌, ◌∷◌, [], codes}
use Rattle.th_picture.specs.Legends.{sample_text}
use Rattle.th_picture.proofs.Joins.{more, on_ok}
use Rattle.th_picture.proofs.legends.write_sample.Goals as goal

pub returns : goal.returns
unfolding sample_text
returns c =
    let p = c.args.page.now in
    let part1 = codes "<li><svg viewBox=\"0 0 500 160\"><path class=\"" in
    let part2 = c.args.letter ∷ [] in
    let part3 = codes "\" d=\"M0 80H500\"/></svg>" in
    let part4 = c.args.words.now in
    let part5 = codes "\n" in
    let front2 = part1 ++ part2 in
    let front3 = front2 ++ part3 in
    let front4 = front3 ++ part4 in
    let step1 : c.add.new.self ≡ p ++ part1 = c.in_ok-add.ensures in
    let step2 = more p part1 part2 c.add.new.self c.add-2.new.self step1 c.in_ok-add-2.ensures in
    let step3 = more p front2 part3 c.add-2.new.self c.add-3.new.self step2 c.in_ok-add-3.ensures in
    let step4 = more p front3 part4 c.add-3.new.self c.add-4.new.self step3 c.in_ok-add-4.ensures in
    on_ok _ _ c.add-5.result (more p front4 part5 c.add-4.new.self c.add-5.new.self step4) c.add-5.ensures
