use Rattle.std.proofs.Common.{◌≡◌, ◌++◌, ℕ, codes, decimal, ap, ◌∙◌}
use Rattle.th_html.specs.Places.{place_text}
use Rattle.th_observations.specs.Observed.{Observed}
use Rattle.th_picture.specs.Strips.{place_label}
use Rattle.th_picture.proofs.Joins.{more, on_ok}
use Rattle.th_picture.proofs.strips.write_label.Goals as goal

pub returns : goal.returns
unfolding place_label
returns c =
    let p = c.args.page.now in
    let part1 = codes "<text x=\"" in
    let part2 = decimal c.args.x in
    let part3 = codes "\" y=\"1350\">" in
    let part4 = place_text c.args.o.now.book c.args.o.now.line in
    let part5 = codes "</text>\n" in
    let front2 = part1 ++ part2 in
    let front3 = front2 ++ part3 in
    let front4 = front3 ++ part4 in
    let step1 : c.add.new.self ≡ p ++ part1 = c.in_ok-add.ensures in
    let step2 = more p part1 part2 c.add.new.self c.write_number.new.page step1 (c.in_ok-write_number.ensures ∙ ap (λ (x : ℕ). c.add.new.self ++ decimal x) c.from.ensures) in
    let step3 = more p front2 part3 c.write_number.new.page c.add-2.new.self step2 c.in_ok-add-2.ensures in
    let step4 = more p front3 part4 c.add-2.new.self c.write_place.new.page step3 (c.in_ok-write_place.ensures ∙ ap (λ (o : Observed). c.add-2.new.self ++ place_text o.book o.line) c.o.view_is) in
    on_ok _ _ c.add-3.result (more p front4 part5 c.write_place.new.page c.add-3.new.self step4) c.add-3.ensures
