use Rattle.std.proofs.Common.{◌≡◌, ◌<◌, ◌≤◌, ◌++◌, ◌∷◌, [], ℕ, ℤ, List, bytes_eq, get_or, length, subst, ap, ◌∙◌, arith}
use Rattle.std.specs.List.{IsDistinct}
use Rattle.th_csv.specs.Texts.{csv_text}
use Rattle.th_network.specs.Heights.{heights_at}
use Rattle.th_network.specs.Networks.{points_of}
use Rattle.th_certificate.specs.Texts.{height_row}
use Rattle.th_certificate.proofs.PointLemmas.{height_there, names_all, names_more, rows_all, rows_more}
use Rattle.th_certificate.proofs.writing.write_heights.Goals as goal

pub loop-k-preserved : goal.loop-k-preserved
loop-k-preserved c =
    let names = points_of c.args.network.now in
    let heights = c.args.heights.now in
    let letter = c.args.letter.now in
    let k = c.loop-k.k in
    let name = c.name-item.result in
    let all = c.points-name-items.ensures.points in
    let within : k < length names = omega (arith, ap length all, c.loop-k-test.true) in
    let is : name ≡ get_or names k name = c.name-item.is ∙ ap (λ (names : List (List ℕ)). get_or names k name) all in
    let distinct : IsDistinct bytes_eq names = subst (λ (names : List (List ℕ)). IsDistinct bytes_eq names) all c.points-name-items.ensures.distinct in
    let height = height_there names heights k name distinct c.requires.in_range c.requires.each within is in
    let written : c.write_height.new.writer.text ≡ c.loop-k.writer.text ++ csv_text (height_row letter (name, heights_at names heights name) ∷ []) =
    c.in_ok-write_height.ensures.text
    ∙ ap (λ (height : ℤ). c.loop-k.writer.text ++ csv_text (height_row letter (name, height) ∷ [])) height in
    record {
      text = rows_more letter names (heights_at names heights) k name c.loop-k.writer.text c.write_height.new.writer.text _ within is written c.loop-k.invariant.text;
      names = names_more names k name within is c.in_ok-write_height.ensures.name c.loop-k.invariant.names;
    }

pub returns-clause-text : goal.returns-clause-text
returns-clause-text c =
    let names = points_of c.args.network.now in
    let past : length names ≤ c.loop-k.k = omega (arith, ap length c.points-name-items.ensures.points, c.loop-k-test.false) in
    rows_all c.args.letter.now names (heights_at names c.args.heights.now) c.loop-k.k c.loop-k.writer.text _ past c.loop-k.invariant.text

pub returns-clause-names : goal.returns-clause-names
returns-clause-names c =
    let names = points_of c.args.network.now in
    let past : length names ≤ c.loop-k.k = omega (arith, ap length c.points-name-items.ensures.points, c.loop-k-test.false) in
    names_all names c.loop-k.k past c.loop-k.invariant.names
