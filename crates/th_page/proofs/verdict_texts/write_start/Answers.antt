use Rattle.std.proofs.Common.{◌≡◌, ◌++◌, ℕ, List, codes, ap, ◌∙◌}
use Rattle.th_page.specs.Verdicts.{tone_class, verdict_heading, verdict_start}
use Rattle.th_picture.proofs.Joins.{more, on_ok}
use Rattle.th_page.proofs.verdict_texts.write_start.Goals as goal

pub returns : goal.returns
unfolding verdict_start
returns c =
    let p = c.args.page.now in
    let part1 = codes "<div class=\"verdict " in
    let part2 = tone_class c.args.tone in
    let part3 = codes "\">\n<h2>" in
    let part4 = verdict_heading c.args.verdict in
    let part5 = codes "</h2>\n" in
    let front2 = part1 ++ part2 in
    let front3 = front2 ++ part3 in
    let front4 = front3 ++ part4 in
    let step1 : c.add.new.self ≡ p ++ part1 = c.in_ok-add.ensures in
    let step2 = more p part1 part2 c.add.new.self c.add-2.new.self step1 (c.in_ok-add-2.ensures ∙ ap (λ (name : List ℕ). c.add.new.self ++ name) c.class.ensures) in
    let step3 = more p front2 part3 c.add-2.new.self c.add-3.new.self step2 c.in_ok-add-3.ensures in
    let step4 = more p front3 part4 c.add-3.new.self c.add-4.new.self step3 (c.in_ok-add-4.ensures ∙ ap (λ (heading : List ℕ). c.add-3.new.self ++ heading) c.heading.ensures) in
    on_ok _ _ c.add-5.result (more p front4 part5 c.add-4.new.self c.add-5.new.self step4) c.add-5.ensures
