use Rattle.std.proofs.Common.{◌≡◌, ◌++◌, ℕ, codes, map, rules, ap, ◌∙◌}
use Rattle.std.specs.List.{zip}
use Rattle.std.specs.Prelude.{unsigned_abs}
use Rattle.th_html.specs.Lengths.{size_text}
use Rattle.th_page.specs.Heads.{names_text, source_text}
use Rattle.th_picture.proofs.Joins.{more, on_ok}
use Rattle.th_page.proofs.heads.write_source.Goals as goal

pub returns : goal.returns
unfolding source_text
returns c =
    let p = c.args.page.now in
    let is : c.unsigned_abs.result ≡ unsigned_abs c.args.limit = search rules in
    let part1 = codes "<p class=\"of\">Heights from " in
    let part2 = names_text (zip (map (λ name. name.now) c.args.names.now) c.args.sums.now) in
    let part3 = codes " &middot; limit " in
    let part4 = size_text (unsigned_abs c.args.limit) in
    let part5 = codes "</p>\n" in
    let front2 = part1 ++ part2 in
    let front3 = front2 ++ part3 in
    let front4 = front3 ++ part4 in
    let step1 : c.add.new.self ≡ p ++ part1 = c.in_ok-add.ensures in
    let step2 = more p part1 part2 c.add.new.self c.write_names.new.page step1 c.in_ok-write_names.ensures in
    let step3 = more p front2 part3 c.write_names.new.page c.add-2.new.self step2 c.in_ok-add-2.ensures in
    let step4 = more p front3 part4 c.add-2.new.self c.write_size.new.page step3 (c.in_ok-write_size.ensures ∙ ap (λ (size : ℕ). c.add-2.new.self ++ size_text size) is) in
    on_ok _ _ c.add-3.result (more p front4 part5 c.write_size.new.page c.add-3.new.self step4) c.add-3.ensures
