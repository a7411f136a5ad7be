use Rattle.std.proofs.Common.{◌≡◌, ◌<◌, ◌+◌, ◌++◌, ◌&&◌, ℕ, List, drop, get_or, length, ap, ◌∙◌, arith}
use Rattle.std.specs.Prelude.{is_some}
use Rattle.std.specs.List.{zip}
use Rattle.th_network.specs.Networks.{points_of}
use Rattle.th_tables.specs.Rows.{BenchmarkRows, height_of}
use Rattle.th_notes.specs.Inside.Sets.{has_name}
use Rattle.th_notes.specs.Parts.{mark_if, mark_of, marks_of}
use Rattle.th_notes.specs.Seen.{was_seen}
use Rattle.th_columns.proofs.RowLemmas.{zipped-first}
use Rattle.th_notes.proofs.FindingLemmas.{given_rest}
use Rattle.th_notes.proofs.PartLemmas.{length-parts}
use Rattle.th_notes.proofs.parts.marks_of.Goals as goal

pub index-requires : goal.index-requires
index-requires c =
    omega (arith, ap length c.in_ok-parts.ensures, length-parts (length c.points-names.result.now) c.ends.result.now, c.loop-k-test.true)

pub loop-k-preserved : goal.loop-k-preserved
loop-k-preserved c =
    let survey = c.args.network.now in
    let names : List (List ℕ) = points_of survey in
    let parts : List ℕ = c.in_ok-parts.parts.items in
    let k : ℕ = c.loop-k.k in
    let name : List ℕ = c.index-names-k.result in
    let part : ℕ = c.index.result.now in
    let all = c.points-names.ensures.points in
    let within : k < length names = omega (arith, ap length all, c.loop-k-test.true) in
    let within' : k < length parts =
    omega (arith, ap length c.in_ok-parts.ensures, length-parts (length c.points-names.result.now) c.ends.result.now, c.loop-k-test.true) in
    let is : name ≡ get_or names k name = c.index-names-k.is ∙ ap (λ (names : List (List ℕ)). get_or names k name) all in
    let is' : part ≡ get_or parts k part = c.index.ensures in
    let seen : has_name c.in_ok-seen.seen name ≡ was_seen survey.observations name =
    c.in_ok-seen.ensures name ∙ ap (λ observations. was_seen observations name) c.observations.ensures.observations in
    given_rest (mark_of survey) (name, part) (zip (drop k names) (drop k parts)) (zip (drop (k + 1) names) (drop (k + 1) parts))
    c.loop-k.marks.items c.add_mark.new.marks.items (marks_of survey)
    (zipped-first names parts k name part within within' is is')
    (c.in_ok-add_mark.ensures
    ∙ ap (λ (rows : BenchmarkRows). c.loop-k.marks.items ++ mark_if (is_some (height_of rows name) && has_name c.in_ok-seen.seen name) name part) c.benchmarks.ensures
    ∙ ap (λ own. c.loop-k.marks.items ++ mark_if (is_some (height_of survey.benchmarks name) && own) name part) seen)
    c.loop-k.invariant
