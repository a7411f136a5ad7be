use Rattle.std.proofs.Common.{◌≡◌, ◌++◌, ℕ, codes, ◌-◌, ap, ◌∙◌}
use Rattle.th_picture.specs.Lines.{pair_text}
use Rattle.th_picture.specs.Points.{benchmark_shape, title_text}
use Rattle.th_picture.proofs.Joins.{more, on_ok}
use Rattle.th_picture.proofs.points.write_benchmark.Goals as goal

pub returns : goal.returns
unfolding benchmark_shape
returns c =
    let p = c.args.page.now in
    let part1 = pair_text (codes "<path class=\"k\" d=\"M") c.args.x (c.args.y - 75) in
    let part2 = codes "l70 120h-140z\">" in
    let part3 = title_text c.args.point.now in
    let part4 = codes "</path>\n" in
    let front2 = part1 ++ part2 in
    let front3 = front2 ++ part3 in
    let step1 : c.write_pair.new.page ≡ p ++ part1 = c.in_ok-write_pair.ensures ∙ ap (λ (x : ℕ). p ++ pair_text (codes "<path class=\"k\" d=\"M") x c.from-2.result) c.from.ensures ∙ ap (λ (y : ℕ). p ++ pair_text (codes "<path class=\"k\" d=\"M") c.args.x y) (c.from-2.ensures ∙ c.saturating_sub.ensures) in
    let step2 = more p part1 part2 c.write_pair.new.page c.add.new.self step1 c.in_ok-add.ensures in
    let step3 = more p front2 part3 c.add.new.self c.write_title.new.page step2 c.in_ok-write_title.ensures in
    on_ok _ _ c.add-2.result (more p front3 part4 c.write_title.new.page c.add-2.new.self step3) c.add-2.ensures
