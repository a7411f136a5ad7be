use Rattle.std.proofs.Common.{◌≡◌, ◌<◌, ◌+◌, ◌++◌, ◌∷◌, [], ℕ, ℤ, Option, None, List, bytes_eq, drop, get_or, length, subst, ap, ◌∙◌, arith}
use Rattle.std.specs.List.{IsDistinct, zip}
use Rattle.std.proofs.lemmas.List.{get_or_default}
use Rattle.th_network.specs.Heights.{heights_at}
use Rattle.th_network.specs.Networks.{points_of}
use Rattle.th_blunders.proofs.HeightLemmas.{height_there}
use Rattle.th_review_rows.specs.declared.rows.PointRow.{PointRow}
use Rattle.th_review_rows.specs.Rows.{point_row, point_row_of, point_rows}
use Rattle.th_review_rows.proofs.RowLemmas.{pushed, zipped-first3}
use Rattle.th_review_rows.proofs.point_list.point_rows.Goals as goal

-- the row with the heights of the maps
same_row : (name : List ℕ) (strength unit_strength : Option ℕ) (low low' high high' : ℤ) → low ≡ low' → high ≡ high' → point_row_of name low high strength unit_strength ≡ point_row_of name low' high' strength unit_strength
same_row name strength unit_strength low low' high high' same same' =
    ap (λ (low : ℤ). point_row_of name low high strength unit_strength) same ∙ ap (λ (high : ℤ). point_row_of name low' high strength unit_strength) same'

pub loop-k-preserved : goal.loop-k-preserved
loop-k-preserved c =
    let survey = c.args.network.now in
    let names = points_of survey in
    let low = c.args.low.now in
    let high = c.args.high.now in
    let strengths = c.args.strengths.now in
    let unit_strengths = c.args.unit_strengths.now in
    let k = c.loop-k.k in
    let name = c.index-names-k.result in
    let strength : Option ℕ = get_or strengths k None in
    let unit_strength : Option ℕ = get_or unit_strengths k None in
    let all = c.points-names.ensures.points in
    let within : k < length names = omega (arith, ap length all, c.loop-k-test.true) in
    let within' : k < length strengths = omega (arith, within, c.requires.strengths) in
    let within'' : k < length unit_strengths = omega (arith, within, c.requires.unit_strengths) in
    let is : name ≡ get_or names k name = c.index-names-k.is ∙ ap (λ (names : List (List ℕ)). get_or names k name) all in
    let distinct : IsDistinct bytes_eq names = subst (λ (names : List (List ℕ)). IsDistinct bytes_eq names) all c.points-names.ensures.distinct in
    let lowest = height_there names low k name distinct c.requires.low.in_range c.requires.low.each within is in
    let highest = height_there names high k name distinct c.requires.high.in_range c.requires.high.each within is in
    let first = zipped-first3 names strengths unit_strengths k name strength unit_strength within within' within'' is (get_or_default strengths k None strength within') (get_or_default unit_strengths k None unit_strength within'') in
    pushed (point_row (heights_at names low) (heights_at names high)) (name, (strength, unit_strength))
    (zip (drop k names) (zip (drop k strengths) (drop k unit_strengths)))
    (zip (drop (k + 1) names) (zip (drop (k + 1) strengths) (drop (k + 1) unit_strengths)))
    c.loop-k.rows.items c.push.new.self.items (point_rows survey (heights_at names low) (heights_at names high) strengths unit_strengths) first
    (c.in_ok-push.ensures.items
    ∙ ap (λ (row : PointRow). c.loop-k.rows.items ++ row ∷ []) (c.point_row.ensures ∙ same_row name strength unit_strength _ _ _ _ lowest highest))
    c.loop-k.invariant
