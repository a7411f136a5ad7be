use Rattle.std.proofs.Common.{◌≡◌, ◌++◌, ℕ, codes, decimal, rules, ap, ◌∙◌}
use Rattle.th_page.specs.Verdicts.{outlier_limit}
use Rattle.th_picture.proofs.Joins.{more, on_ok}
use Rattle.th_page.proofs.meanings.write_outlier_limit.Goals as goal

pub returns : goal.returns
unfolding outlier_limit
returns c =
    let p = c.args.page.now in
    let is : c.from.result ≡ c.args.outlier.now.limit = search rules in
    let part1 = codes "To see what would explain it, make the page again with <code>--blunder " in
    let part2 = decimal c.args.outlier.now.limit in
    let part3 = codes "</code>.</p>\n" in
    let front2 = part1 ++ part2 in
    let step1 : c.add.new.self ≡ p ++ part1 = c.in_ok-add.ensures in
    let step2 = more p part1 part2 c.add.new.self c.write_number.new.page step1 (c.in_ok-write_number.ensures ∙ ap (λ (number : ℕ). c.add.new.self ++ decimal number) is) in
    on_ok _ _ c.add-2.result (more p front2 part3 c.write_number.new.page c.add-2.new.self step2) c.add-2.ensures
