use Rattle.std.proofs.Common.{◌≡◌, ◌++◌, codes}
use Rattle.std.specs.List.{flat_map}
use Rattle.th_picture.specs.Legends.{legend_groups, legend_text, sample_of}
use Rattle.th_picture.proofs.Joins.{more, on_ok}
use Rattle.th_picture.proofs.legends.write_legend.Goals as goal

pub returns : goal.returns
unfolding legend_text
returns c =
    let p = c.args.page.now in
    let part1 = codes "<ul class=\"legend\">\n" in
    let part2 = flat_map (sample_of c.args.sights.now c.args.firsts) legend_groups in
    let part3 = codes "<li><svg viewBox=\"0 0 500 160\"><path class=\"k\" d=\"M250 20l70 120h-140z\"/></svg>benchmark\n</ul>\n" in
    let front2 = part1 ++ part2 in
    let step1 : c.add.new.self ≡ p ++ part1 = c.in_ok-add.ensures in
    let step2 = more p part1 part2 c.add.new.self c.write_samples.new.page step1 c.in_ok-write_samples.ensures in
    on_ok _ _ c.add-2.result (more p front2 part3 c.write_samples.new.page c.add-2.new.self step2) c.add-2.ensures
