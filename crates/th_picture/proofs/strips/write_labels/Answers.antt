use Rattle.std.proofs.Common.{◌≡◌, ◌++◌, codes, length}
use Rattle.std.specs.List.{flat_map}
use Rattle.th_picture.specs.Strips.{label_lines, label_of}
use Rattle.th_picture.proofs.Joins.{more, on_ok}
use Rattle.th_picture.proofs.strips.write_labels.Goals as goal

pub returns : goal.returns
unfolding label_lines
returns c =
    let p = c.args.page.now in
    let part1 = codes "<g class=\"n e\">\n" in
    let part2 = flat_map (label_of (length c.args.sights.now)) c.args.sights.now in
    let part3 = codes "</g>\n</svg>\n" in
    let front2 = part1 ++ part2 in
    let step1 : c.add.new.self ≡ p ++ part1 = c.in_ok-add.ensures in
    let step2 = more p part1 part2 c.add.new.self c.write_each.new.page step1 c.in_ok-write_each.ensures in
    on_ok _ _ c.add-2.result (more p front2 part3 c.write_each.new.page c.add-2.new.self step2) c.add-2.ensures
