use Rattle.std.proofs.Common.{◌≡◌, ◌++◌, ℕ, true, false, codes, ap, ◌∙◌}
use Rattle.th_html.specs.Lengths.{sized_text}
use Rattle.th_picture.specs.Lines.{label_end, line_open}
use Rattle.th_picture.specs.Strips.{scale_lines}
use Rattle.th_picture.proofs.Joins.{more, on_ok}
use Rattle.th_picture.proofs.strips.write_scale.Goals as goal

pub returns : goal.returns
unfolding scale_lines
returns c =
    let p = c.args.page.now in
    let part1 = codes "<g class=\"n e\">\n" in
    let part2 = line_open 375 in
    let part3 = codes "+" in
    let part4 = sized_text false c.args.half in
    let part5 = label_end in
    let part6 = line_open 925 in
    let part7 = sized_text true c.args.half in
    let part8 = label_end in
    let part9 = codes "</g>\n<path class=\"z\" d=\"M900 650H7900\"/>\n" in
    let front2 = part1 ++ part2 in
    let front3 = front2 ++ part3 in
    let front4 = front3 ++ part4 in
    let front5 = front4 ++ part5 in
    let front6 = front5 ++ part6 in
    let front7 = front6 ++ part7 in
    let front8 = front7 ++ part8 in
    let step1 : c.add.new.self ≡ p ++ part1 = c.in_ok-add.ensures in
    let step2 = more p part1 part2 c.add.new.self c.write_line.new.page step1 c.in_ok-write_line.ensures in
    let step3 = more p front2 part3 c.write_line.new.page c.add-2.new.self step2 c.in_ok-add-2.ensures in
    let step4 = more p front3 part4 c.add-2.new.self c.write_sized.new.page step3 (c.in_ok-write_sized.ensures ∙ ap (λ (size : ℕ). c.add-2.new.self ++ sized_text false size) c.from-size.ensures) in
    let step5 = more p front4 part5 c.write_sized.new.page c.write_label_end.new.page step4 c.in_ok-write_label_end.ensures in
    let step6 = more p front5 part6 c.write_label_end.new.page c.write_line-2.new.page step5 c.in_ok-write_line-2.ensures in
    let step7 = more p front6 part7 c.write_line-2.new.page c.write_sized-2.new.page step6 (c.in_ok-write_sized-2.ensures ∙ ap (λ (size : ℕ). c.write_line-2.new.page ++ sized_text true size) c.from-size.ensures) in
    let step8 = more p front7 part8 c.write_sized-2.new.page c.write_label_end-2.new.page step7 c.in_ok-write_label_end-2.ensures in
    on_ok _ _ c.add-3.result (more p front8 part9 c.write_label_end-2.new.page c.add-3.new.self step8) c.add-3.ensures
