use Rattle.std.proofs.Common.{◌≡◌, ◌++◌, ◌∷◌, [], ℕ, codes, length, ap, ◌∙◌}
use Rattle.std.specs.List.{flat_map}
use Rattle.th_picture.specs.Groups.{letter_of}
use Rattle.th_picture.specs.Strips.{bar_group, bar_in}
use Rattle.th_picture.proofs.Joins.{more, on_ok}
use Rattle.th_picture.proofs.bars.write_group.Goals as goal

pub returns : goal.returns
unfolding bar_group
returns c =
    let p = c.args.page.now in
    let part1 = codes "<path class=\"" in
    let part2 = letter_of c.args.group ∷ [] in
    let part3 = codes "\" d=\"" in
    let part4 = flat_map (bar_in c.args.half (length c.args.sights.now) c.args.group) c.args.sights.now in
    let part5 = codes "\"/>\n" in
    let front2 = part1 ++ part2 in
    let front3 = front2 ++ part3 in
    let front4 = front3 ++ part4 in
    let step1 : c.add.new.self ≡ p ++ part1 = c.in_ok-add.ensures in
    let step2 = more p part1 part2 c.add.new.self c.add-2.new.self step1 (c.in_ok-add-2.ensures ∙ ap (λ (letter : ℕ). c.add.new.self ++ letter ∷ []) c.letter_of.ensures) in
    let step3 = more p front2 part3 c.add-2.new.self c.add-3.new.self step2 c.in_ok-add-3.ensures in
    let step4 = more p front3 part4 c.add-3.new.self c.write_each.new.page step3 c.in_ok-write_each.ensures in
    on_ok _ _ c.add-4.result (more p front4 part5 c.write_each.new.page c.add-4.new.self step4) c.add-4.ensures
