use Rattle.std.proofs.Common.{◌≡◌, ◌++◌, codes, decimal}
use Rattle.th_inputs.specs.Inputs.{digest_text}
use Rattle.th_page.specs.Asks.{sum_text}
use Rattle.th_picture.proofs.Joins.{more, on_ok}
use Rattle.th_page.proofs.asks.write_sum.Goals as goal

pub returns : goal.returns
unfolding sum_text
returns c =
    let p = c.args.page.now in
    let part1 = codes "<small>" in
    let part2 = decimal c.args.sum.now.length in
    let part3 = codes " B, SHA-256 " in
    let part4 = digest_text c.args.sum.now in
    let part5 = codes "</small>\n" in
    let front2 = part1 ++ part2 in
    let front3 = front2 ++ part3 in
    let front4 = front3 ++ part4 in
    let step1 : c.add.new.self ≡ p ++ part1 = c.in_ok-add.ensures in
    let step2 = more p part1 part2 c.add.new.self c.write_number.new.page step1 c.in_ok-write_number.ensures in
    let step3 = more p front2 part3 c.write_number.new.page c.add-2.new.self step2 c.in_ok-add-2.ensures in
    let step4 = more p front3 part4 c.add-2.new.self c.add-3.new.self step3 (rw (c.as_bytes.ensures.value, c.in_ok-digest.ensures) at c.in_ok-add-3.ensures) in
    on_ok _ _ c.add-4.result (more p front4 part5 c.add-3.new.self c.add-4.new.self step4) c.add-4.ensures
