use Rattle.std.proofs.Common.{◌≡◌, ◌++◌, codes}
use Rattle.th_html.specs.Texts.{escaped}
use Rattle.th_inputs.specs.Inputs.{input_text}
use Rattle.th_page.specs.Asks.{input_item, sum_text}
use Rattle.th_picture.proofs.Joins.{more, on_ok}
use Rattle.th_page.proofs.asks.write_input.Goals as goal

pub returns : goal.returns
unfolding input_item
returns c =
    let p = c.args.page.now in
    let part1 = codes "<li>" in
    let part2 = input_text c.args.sum.now.which in
    let part3 = codes ": <bdi>" in
    let part4 = escaped c.args.name.now in
    let part5 = codes "</bdi> " in
    let part6 = sum_text c.args.sum.now in
    let front2 = part1 ++ part2 in
    let front3 = front2 ++ part3 in
    let front4 = front3 ++ part4 in
    let front5 = front4 ++ part5 in
    let step1 : c.add.new.self ≡ p ++ part1 = c.in_ok-add.ensures in
    let step2 = more p part1 part2 c.add.new.self c.add-2.new.self step1 (rw (c.as_bytes.ensures.value, c.in_ok-label.ensures) at c.in_ok-add-2.ensures) in
    let step3 = more p front2 part3 c.add-2.new.self c.add-3.new.self step2 c.in_ok-add-3.ensures in
    let step4 = more p front3 part4 c.add-3.new.self c.write_escaped.new.page step3 c.in_ok-write_escaped.ensures in
    let step5 = more p front4 part5 c.write_escaped.new.page c.add-4.new.self step4 c.in_ok-add-4.ensures in
    on_ok _ _ c.write_sum.result (more p front5 part6 c.add-4.new.self c.write_sum.new.page step5) c.write_sum.ensures
