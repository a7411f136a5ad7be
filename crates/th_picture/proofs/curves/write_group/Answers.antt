use Rattle.std.proofs.Common.{◌≡◌, ◌++◌, ◌∷◌, [], ℕ, List, codes, ap, ◌∙◌}
use Rattle.std.specs.List.{flat_map}
use Rattle.th_picture.specs.Curves.{few_text, group_text, path_in}
use Rattle.th_picture.specs.Groups.{group_count, letter_of}
use Rattle.th_picture.proofs.Joins.{more, on_ok}
use Rattle.th_picture.proofs.curves.write_group.Goals as goal

pub returns : goal.returns
unfolding group_text
returns c =
    let p = c.args.page.now in
    let part1 = codes "<g class=\"" in
    let part2 = letter_of c.args.group ∷ [] in
    let part3 = few_text (group_count c.args.group c.args.sights.now) in
    let part4 = codes "\">\n" in
    let part5 = flat_map (path_in c.args.frame.now c.args.group) c.args.sights.now in
    let part6 = codes "</g>\n" in
    let front2 = part1 ++ part2 in
    let front3 = front2 ++ part3 in
    let front4 = front3 ++ part4 in
    let front5 = front4 ++ part5 in
    let step1 : c.add.new.self ≡ p ++ part1 = c.in_ok-add.ensures in
    let step2 = more p part1 part2 c.add.new.self c.add-2.new.self step1 (c.in_ok-add-2.ensures ∙ ap (λ (letter : ℕ). c.add.new.self ++ letter ∷ []) c.letter_of.ensures) in
    let step3 = more p front2 part3 c.add-2.new.self c.add-3.new.self step2 (c.in_ok-add-3.ensures ∙ ap (λ (few : List ℕ). c.add-2.new.self ++ few) (c.few_text.ensures ∙ ap few_text c.group_count.ensures)) in
    let step4 = more p front3 part4 c.add-3.new.self c.add-4.new.self step3 c.in_ok-add-4.ensures in
    let step5 = more p front4 part5 c.add-4.new.self c.write_paths.new.page step4 c.in_ok-write_paths.ensures in
    on_ok _ _ c.add-5.result (more p front5 part6 c.write_paths.new.page c.add-5.new.self step5) c.add-5.ensures
