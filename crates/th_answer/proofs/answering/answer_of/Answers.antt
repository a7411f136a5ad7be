use Rattle.std.proofs.Common.{◌≡◌, ◌∙◌, ◌<◌, ◌*◌, ◌==◌, ◌&&◌, ℕ, ℤ, FitsSigned, All, List, ap, length, map, of_z, rules, subst, sym, take, to_z, unsigned_abs, w64, arith}
use Rattle.std.proofs.lemmas.Int.{to_z-of_z}
use Rattle.std.proofs.lemmas.Slice.Zip.{AllZip-long}
use Rattle.std.specs.List.{AllZip, count_by, filter_map}
use Rattle.th_blunders.specs.Blunders.{is_blunder}
use Rattle.th_changes.specs.declared.cases.Case.{Case}
use Rattle.th_entries.specs.declared.entries.Entry.{Entry}
use Rattle.th_explain_texts.specs.Sentences.{firsts}
use Rattle.th_explain_texts.specs.declared.rows.Row.{Row}
use Rattle.th_network.specs.Limits.{height_limit}
use Rattle.th_network.specs.Networks.{at_points_of, points_of}
use Rattle.th_points.proofs.PlaceLemmas.{points_distinct}
use Rattle.th_remarks.specs.Outliers.{IsOutlierNote, IsUsualOrNone, weighed}
use Rattle.th_review_rows.specs.Entries.{entries_of}
use Rattle.th_answer.specs.Answers.{those_corrected}
use Rattle.th_answer.specs.Limits.{asked_benchmarks}
use Rattle.th_answer.specs.Others.{IsSaid}
use Rattle.th_explain.specs.declared.mended.Mending.{Mending}
use Rattle.th_answer.specs.Corrected.{Corrected, IsCorrectedOrNone}
use Rattle.th_answer.specs.Groups.{group_of, nothing_is_wrong}
use Rattle.th_answer.specs.Inside.Moving.{drawn_heights}
use Rattle.th_answer.specs.Inside.Readjusted.{AreReadjusted, IsListed}
use Rattle.th_answer.specs.Moved.{drawn_by, moved_of}
use Rattle.th_answer.specs.Remedies.{remedy_of}
use Rattle.th_answer.specs.declared.answers.Answer.{Answer}
use Rattle.th_answer.specs.declared.correcting.Readjusted.{Readjusted}
use Rattle.th_answer.specs.declared.remedies.Remedy.{Remedy}
use Rattle.th_answer.proofs.AnswerLemmas.{answered, judged}
use Rattle.th_answer.proofs.ListedLemmas.{listed_heights}
use Rattle.th_answer.proofs.MovedLemmas.{drawn_listed}
use Rattle.th_answer.proofs.PlaceLemmas.{heights_are_long, heights_are_low, marks_are_long}
use Rattle.th_answer.proofs.answering.answer_of.Goals as goal

pub groups_of-requires-clause-marks : goal.groups_of-requires-clause-marks
groups_of-requires-clause-marks c =
    let survey = c.args.mending.now.case.now.network.now in
    let limit : ℤ = to_z w64 (of_z w64 c.args.explaining.limit) in
    let listed : List Readjusted = c.in_ok-corrected.corrected.items in
    let all : AreReadjusted survey c.in_ok-kinds.kinds.entries.now limit c.deref-4.result.now listed = c.in_ok-corrected.ensures.listed in
    subst (All (λ own. length own.marks.items ≡ length survey.observations)) (sym c.deref-9.ensures.value) (marks_are_long survey limit (those_corrected all.corrected) listed all.are_listed)

pub all_moved-requires-clause-each : goal.all_moved-requires-clause-each
all_moved-requires-clause-each c =
    let survey = c.args.mending.now.case.now.network.now in
    let limit : ℤ = to_z w64 (of_z w64 c.args.explaining.limit) in
    let listed : List Readjusted = c.in_ok-corrected.corrected.items in
    let all : AreReadjusted survey c.in_ok-kinds.kinds.entries.now limit c.deref-4.result.now listed = c.in_ok-corrected.ensures.listed in
    let long : length c.low-low.result.now ≡ length (points_of survey) = ap (λ (low : List ℤ). length low) c.low-low.ensures ∙ c.args.mending.now.case.now.at_points.each in
    subst (λ (n : ℕ). All (λ own. length own.heights.items ≡ n) c.deref-10.result.now) (sym long)
    (subst (All (λ own. length own.heights.items ≡ length (points_of survey))) (sym c.deref-10.ensures.value) (heights_are_long survey limit (those_corrected all.corrected) listed all.are_listed))

pub all_moved-requires-clause-in_range : goal.all_moved-requires-clause-in_range
all_moved-requires-clause-in_range c =
    let survey = c.args.mending.now.case.now.network.now in
    let limit : ℤ = to_z w64 (of_z w64 c.args.explaining.limit) in
    let listed : List Readjusted = c.in_ok-corrected.corrected.items in
    let all : AreReadjusted survey c.in_ok-kinds.kinds.entries.now limit c.deref-4.result.now listed = c.in_ok-corrected.ensures.listed in
    subst (All (λ own. All (λ height. unsigned_abs height < 2 * height_limit) own.heights.items)) (sym c.deref-10.ensures.value) (heights_are_low survey limit (those_corrected all.corrected) listed all.are_listed)

pub returns-clause-answer : goal.returns-clause-answer
returns-clause-answer c =
    let case : Case = c.args.mending.now.case.now in
    let survey = case.network.now in
    let reviews = c.args.explaining.reviews.now in
    let rows : List Row = c.args.explaining.rows.now in
    let limit : ℤ = c.args.explaining.limit in
    let bits : ℤ = to_z w64 (of_z w64 limit) in
    let fits : FitsSigned w64 limit = search rules in
    let plain : bits ≡ limit = to_z-of_z w64 limit fits in
    let low : List ℤ = case.best.now.low in
    let heights : List ℕ → ℤ = at_points_of survey low in
    let left : List ℤ = case.fit.now.residuals.items in
    let listed : List Readjusted = c.in_ok-corrected.corrected.items in
    let entries : c.in_ok-kinds.kinds.entries.now ≡ entries_of reviews = c.in_ok-kinds.ensures ∙ c.deref.ensures.value ∙ c.in_ok-entries.ensures in
    let leading : c.deref-4.result.now ≡ firsts rows = c.deref-4.ensures.value ∙ c.in_ok-firsts.ensures in
    let all : AreReadjusted survey (entries_of reviews) limit (firsts rows) listed =
    subst (λ (own : List Row). AreReadjusted survey (entries_of reviews) limit own listed) leading
    (subst (λ (limit : ℤ). AreReadjusted survey (entries_of reviews) limit c.deref-4.result.now listed) plain
    (subst (λ (own : List Entry). AreReadjusted survey own bits c.deref-4.result.now listed) entries c.in_ok-corrected.ensures.listed)) in
    let after : List Corrected = those_corrected all.corrected in
    let remedies : List Remedy = c.deref-8.result.now in
    let remedied : remedies ≡ filter_map (remedy_of (entries_of reviews)) (firsts rows) =
    c.deref-8.ensures.value ∙ c.in_ok-remedies.ensures
    ∙ ap (λ (own : List Entry). filter_map (remedy_of own) c.deref-3.result.now) (c.deref-2.ensures.value ∙ c.in_ok-entries.ensures) ∙ ap (filter_map (remedy_of (entries_of reviews))) (c.deref-3.ensures.value ∙ c.in_ok-firsts.ensures) in
    let first_count : c.len.result ≡ length c.in_ok-firsts.firsts.items = omega (arith, c.len.ensures, c.in_ok-firsts.firsts.ok) in
    let drawn_count : c.len-2.result ≡ length c.in_ok-firsts.firsts.items = omega (arith, c.len-2.ensures, c.in_ok-firsts.firsts.ok) in
    let quiet : c.is_nothing_wrong-is_quiet.result ≡ nothing_is_wrong survey heights limit (length (firsts rows)) =
    c.is_nothing_wrong-is_quiet.ensures ∙ ap (λ (n : ℕ). n == 0 && count_by (is_blunder bits) c.deref-5.result.now == 0) (first_count ∙ ap (λ (own : List Row). length own) c.in_ok-firsts.ensures)
    ∙ ap (λ (limit : ℤ). length (firsts rows) == 0 && count_by (is_blunder limit) c.deref-5.result.now == 0) plain ∙ ap (λ (left : List ℤ). length (firsts rows) == 0 && count_by (is_blunder limit) left == 0) (c.deref-5.ensures.value ∙ case.fits.residuals) in
    let usual = subst (λ (left : List ℤ). IsUsualOrNone (weighed survey left) c.in_ok-usual.usual) c.deref-6.ensures.value c.in_ok-usual.ensures.usual in
    let groups : c.in_ok-groups_of.field-0.items ≡ map (group_of (judged survey heights limit remedies after c.is_nothing_wrong-is_quiet.result c.in_ok-usual.usual)) survey.observations =
    subst (λ (limit : ℤ). AllZip (IsListed survey limit) after c.deref-9.result.now → c.in_ok-groups_of.field-0.items ≡ map (group_of (judged survey heights limit remedies after c.is_nothing_wrong-is_quiet.result c.in_ok-usual.usual)) survey.observations) plain
    (λ are. c.in_ok-groups_of.ensures heights after (record { residuals = c.deref-7.ensures.value ∙ case.fits.residuals; listed = are }))
    (subst (AllZip (IsListed survey limit) after) (sym c.deref-9.ensures.value) all.are_listed) in
    let moved : c.in_ok-all_moved.field-0.items ≡ map (moved_of limit heights after) (points_of survey) =
    subst (λ (limit : ℤ). AllZip (IsListed survey limit) after c.deref-10.result.now → c.in_ok-all_moved.field-0.items ≡ map (moved_of limit heights after) (points_of survey)) plain
    (λ are. c.in_ok-all_moved.ensures after are ∙ ap (λ (low : List ℤ). map (moved_of bits (at_points_of survey low) after) (points_of survey)) c.low-low.ensures)
    (subst (AllZip (IsListed survey limit) after) (sym c.deref-10.ensures.value) all.are_listed) in
    let count = AllZip-long (IsCorrectedOrNone survey (entries_of reviews)) (firsts rows) all.corrected all.are_corrected in
    let drawn : c.in_ok-drawn_of.field-0.items ≡ map (drawn_by heights all.corrected) (points_of survey) =
    c.in_ok-drawn_of.ensures ∙ ap (λ (low : List ℤ). drawn_heights low c.len-2.result c.deref-11.result.now) c.low-low.ensures
    ∙ ap (λ (n : ℕ). drawn_heights low n c.deref-11.result.now) (drawn_count ∙ ap (λ (own : List Row). length own) c.in_ok-firsts.ensures ∙ sym count) ∙ ap (drawn_heights low (length all.corrected)) c.deref-11.ensures.value
    ∙ drawn_listed survey limit heights low (listed_heights (points_of survey) low (points_distinct survey.observations survey.benchmarks) case.at_points.each) all.corrected listed all.are_listed in
    let outlier = subst (λ (limit : ℤ). IsOutlierNote survey left limit c.in_ok-outlier_of.field-0) plain (subst (λ (left : List ℤ). IsOutlierNote survey left bits c.in_ok-outlier_of.field-0) c.deref-12.ensures.value c.in_ok-outlier_of.ensures.note) in
    let later : Mending = c.all_readjusted.new.mending in
    let others = subst (λ (own : Case). AllZip (IsSaid own.network.now) (take (asked_benchmarks (length own.network.now.observations)) own.network.now.benchmarks) c.in_ok-others_of.field-0.items) (later.same ∙ c.in_ok-corrected.ensures.case) c.in_ok-others_of.ensures.said in
    let answer : Answer = record {
      groups = c.in_ok-groups_of.field-0;
      moved = c.in_ok-all_moved.field-0;
      drawn = c.in_ok-drawn_of.field-0;
      others = c.in_ok-others_of.field-0;
      outlier = c.in_ok-outlier_of.field-0;
    } in
    answered survey reviews rows limit heights case.lowest left case.fits.residuals listed all c.in_ok-usual.usual usual remedies remedied c.is_nothing_wrong-is_quiet.result quiet answer groups moved drawn others outlier
