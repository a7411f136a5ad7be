use Rattle.std.proofs.Common.{◌≡◌, ◌++◌, ℕ, List, codes, ap, ◌∙◌}
use Rattle.th_html.specs.Tables.{found_cells, sight_cells}
use Rattle.th_page.specs.Residuals.{group_words, residual_row}
use Rattle.th_picture.proofs.Joins.{more, on_ok}
use Rattle.th_page.proofs.residuals.write_row.Goals as goal

pub returns : goal.returns
unfolding residual_row
returns c =
    let p = c.args.page.now in
    let part1 = codes "<tr>" in
    let part2 = sight_cells c.args.sight.now.row in
    let part3 = found_cells c.args.sight.now.row in
    let part4 = codes "<th class=\"t\">" in
    let part5 = group_words c.args.sight.now.group in
    let part6 = codes "\n" in
    let front2 = part1 ++ part2 in
    let front3 = front2 ++ part3 in
    let front4 = front3 ++ part4 in
    let front5 = front4 ++ part5 in
    let step1 : c.add.new.self ≡ p ++ part1 = c.in_ok-add.ensures in
    let step2 = more p part1 part2 c.add.new.self c.write_sight_cells.new.page step1 c.in_ok-write_sight_cells.ensures in
    let step3 = more p front2 part3 c.write_sight_cells.new.page c.write_found_cells.new.page step2 c.in_ok-write_found_cells.ensures in
    let step4 = more p front3 part4 c.write_found_cells.new.page c.add-2.new.self step3 c.in_ok-add-2.ensures in
    let step5 = more p front4 part5 c.add-2.new.self c.add-3.new.self step4 (c.in_ok-add-3.ensures ∙ ap (λ (words : List ℕ). c.add-2.new.self ++ words) c.group_words.ensures) in
    on_ok _ _ c.add-4.result (more p front5 part6 c.add-3.new.self c.add-4.new.self step5) c.add-4.ensures
