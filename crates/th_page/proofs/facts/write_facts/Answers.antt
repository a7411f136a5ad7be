use Rattle.std.proofs.Common.{◌≡◌, ◌++◌, codes}
use Rattle.th_page.specs.Facts.{fact_item, facts_text, largest_item}
use Rattle.th_picture.proofs.Joins.{more, on_ok}
use Rattle.th_page.proofs.facts.write_facts.Goals as goal

pub returns : goal.returns
unfolding facts_text
returns c =
    let p = c.args.page.now in
    let part1 = codes "<ul class=\"facts\">\n" in
    let part2 = fact_item c.args.counts.now.sights (codes "sights") in
    let part3 = fact_item c.args.counts.now.free (codes "new points") in
    let part4 = fact_item c.args.counts.now.loops (codes "sights to spare") in
    let part5 = largest_item c.args.largest in
    let part6 = codes "</ul>\n" in
    let front2 = part1 ++ part2 in
    let front3 = front2 ++ part3 in
    let front4 = front3 ++ part4 in
    let front5 = front4 ++ part5 in
    let step1 : c.add.new.self ≡ p ++ part1 = c.in_ok-add.ensures in
    let step2 = more p part1 part2 c.add.new.self c.write_fact.new.page step1 c.in_ok-write_fact.ensures in
    let step3 = more p front2 part3 c.write_fact.new.page c.write_fact-2.new.page step2 c.in_ok-write_fact-2.ensures in
    let step4 = more p front3 part4 c.write_fact-2.new.page c.write_fact-3.new.page step3 c.in_ok-write_fact-3.ensures in
    let step5 = more p front4 part5 c.write_fact-3.new.page c.write_largest.new.page step4 c.in_ok-write_largest.ensures in
    on_ok _ _ c.add-2.result (more p front5 part6 c.write_largest.new.page c.add-2.new.self step5) c.add-2.ensures
