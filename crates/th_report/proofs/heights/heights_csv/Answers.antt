use Rattle.std.proofs.Common.{◌≡◌, ◌<◌, ◌+◌, ◌++◌, ℕ, ℤ, List, bytes_eq, drop, get_or, length, map, of_z, pos, to_z, w64, subst, ap, ◌∙◌, arith}
use Rattle.std.specs.List.{IsDistinct}
use Rattle.th_csv.specs.Texts.{row_text}
use Rattle.th_network.specs.Heights.{heights_at}
use Rattle.th_network.specs.Networks.{points_of}
use Rattle.th_report.specs.Heights.{height_fields, height_record}
use Rattle.th_columns.proofs.RowLemmas.{drop-first, further}
use Rattle.th_blunders.proofs.HeightLemmas.{height_there}
use Rattle.th_report.proofs.heights.heights_csv.Goals as goal

pub loop-k-preserved : goal.loop-k-preserved
loop-k-preserved c =
    let names = points_of c.args.network.now in
    let low = c.args.low.now in
    let high = c.args.high.now in
    let k = c.loop-k.k in
    let name = c.name-item.result in
    let all = c.points-name-items.ensures.points in
    let within : k < length names = omega (arith, ap length all, c.loop-k-test.true) in
    let is : name ≡ get_or names k name = c.name-item.is ∙ ap (λ (names : List (List ℕ)). get_or names k name) all in
    let distinct : IsDistinct bytes_eq names = subst (λ (names : List (List ℕ)). IsDistinct bytes_eq names) all c.points-name-items.ensures.distinct in
    let lowest = height_there names low k name distinct c.requires.low.in_range c.requires.low.each within is in
    let highest = height_there names high k name distinct c.requires.high.in_range c.requires.high.each within is in
    let record_of = height_record (heights_at names low) (heights_at names high) in
    let written : c.write_point.new.rows.text ≡ c.loop-k.rows.text ++ row_text (record_of name) =
    c.in_ok-write_point.ensures
    ∙ ap (λ (low : ℤ). c.loop-k.rows.text ++ row_text (height_fields name low (to_z w64 (of_z w64 (get_or high k (pos 0)))))) lowest
    ∙ ap (λ (high : ℤ). c.loop-k.rows.text ++ row_text (height_fields name (heights_at names low name) high)) highest in
    further row_text (record_of name) (map record_of (drop k names)) (map record_of (drop (k + 1) names)) c.loop-k.rows.text c.write_point.new.rows.text _ (ap (map record_of) (drop-first names k name within is)) written c.loop-k.invariant
