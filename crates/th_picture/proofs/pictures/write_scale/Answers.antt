use Rattle.std.proofs.Common.{◌≡◌, ◌++◌, ℕ, List, codes, ap, ◌∙◌}
use Rattle.std.specs.List.{flat_map}
use Rattle.th_picture.specs.Pictures.{scale_lines, tick_at}
use Rattle.th_picture.specs.Scales.{lines_of}
use Rattle.th_picture.proofs.Joins.{more, on_ok}
use Rattle.th_picture.proofs.pictures.write_scale.Goals as goal

pub returns : goal.returns
unfolding scale_lines
returns c =
    let p = c.args.page.now in
    let part1 = codes "<g class=\"n e\">\n<text x=\"840\" y=\"260\">metres</text>\n" in
    let part2 = flat_map (tick_at c.args.scale.now) (lines_of c.args.scale.now) in
    let part3 = codes "</g>\n" in
    let front2 = part1 ++ part2 in
    let step1 : c.add.new.self ≡ p ++ part1 = c.in_ok-add.ensures in
    let step2 = more p part1 part2 c.add.new.self c.write_ticks.new.page step1 (c.in_ok-write_ticks.ensures ∙ ap (λ (lines : List ℕ). c.add.new.self ++ flat_map (tick_at c.args.scale.now) lines) c.lines-lines.ensures) in
    on_ok _ _ c.add-2.result (more p front2 part3 c.write_ticks.new.page c.add-2.new.self step2) c.add-2.ensures
