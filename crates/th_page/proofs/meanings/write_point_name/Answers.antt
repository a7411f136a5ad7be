use Rattle.std.proofs.Common.{◌≡◌, ◌++◌, ℕ, List, codes, rules, ap, ◌∙◌}
use Rattle.th_html.specs.Texts.{escaped}
use Rattle.th_page.specs.Verdicts.{point_name}
use Rattle.th_picture.proofs.Joins.{more, on_ok}
use Rattle.th_page.proofs.meanings.write_point_name.Goals as goal

pub returns : goal.returns
unfolding point_name
returns c =
    let p = c.args.page.now in
    let is : c.as_bytes.result.now ≡ c.args.row.now.name = search rules in
    let part1 = codes "Then the height of <b>" in
    let part2 = escaped c.args.row.now.name in
    let part3 = codes "</b> is <b>" in
    let front2 = part1 ++ part2 in
    let step1 : c.add.new.self ≡ p ++ part1 = c.in_ok-add.ensures in
    let step2 = more p part1 part2 c.add.new.self c.write_escaped.new.page step1 (c.in_ok-write_escaped.ensures ∙ ap (λ (name : List ℕ). c.add.new.self ++ escaped name) is) in
    on_ok _ _ c.add-2.result (more p front2 part3 c.write_escaped.new.page c.add-2.new.self step2) c.add-2.ensures
