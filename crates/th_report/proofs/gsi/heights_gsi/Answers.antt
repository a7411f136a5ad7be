use Rattle.std.proofs.Common.{◌≡◌, ◌<◌, ◌+◌, ◌++◌, ℕ, ℤ, List, bytes_eq, drop, get_or, length, subst, ap, ◌∙◌, arith}
use Rattle.std.specs.List.{IsDistinct, enumerate_from}
use Rattle.th_network.specs.Heights.{heights_at}
use Rattle.th_network.specs.Networks.{points_of}
use Rattle.th_report.specs.Gsi.{point_text, text_of_point}
use Rattle.th_columns.proofs.RowLemmas.{further, numbered-first}
use Rattle.th_blunders.proofs.HeightLemmas.{height_there}
use Rattle.th_report.proofs.gsi.heights_gsi.Goals as goal

pub loop-k-preserved : goal.loop-k-preserved
unfolding text_of_point
loop-k-preserved c =
    let names = points_of c.args.network.now in
    let heights = c.args.heights.now in
    let k = c.loop-k.k in
    let name = c.name-item.result in
    let all = c.points-name-items.ensures.points in
    let within : k < length names = omega (arith, ap length all, c.loop-k-test.true) in
    let is : name ≡ get_or names k name = c.name-item.is ∙ ap (λ (names : List (List ℕ)). get_or names k name) all in
    let distinct : IsDistinct bytes_eq names = subst (λ (names : List (List ℕ)). IsDistinct bytes_eq names) all c.points-name-items.ensures.distinct in
    let height = height_there names heights k name distinct c.requires.in_range c.requires.each within is in
    let line = text_of_point (heights_at names heights) in
    let written : c.write_point.new.text.items ≡ c.loop-k.text.items ++ line (k + 1, name) =
    c.in_ok-write_point.ensures ∙ ap (λ (height : ℤ). c.loop-k.text.items ++ point_text (k + 1) name height) height in
    further line (k + 1, name) (enumerate_from (k + 1) (drop k names)) (enumerate_from (k + 1 + 1) (drop (k + 1) names)) c.loop-k.text.items c.write_point.new.text.items _ (numbered-first names k name within is) written c.loop-k.invariant
