-- The whole answer, of its parts.
use Rattle.std.proofs.Common.{◌≡◌, ◌∙◌, ℕ, ℤ, Bool, List, Option, ap, length, map, subst}
use Rattle.std.specs.List.{AllZip, filter_map}
use Rattle.std.specs.Prelude.{take}
use Rattle.th_entries.specs.declared.reviews.BookReview.{BookReview}
use Rattle.th_blunders.specs.Residuals.{residuals}
use Rattle.th_circulation.specs.Extremes.{AreLowest}
use Rattle.th_explain_texts.specs.Sentences.{firsts}
use Rattle.th_explain_texts.specs.declared.rows.Row.{Row}
use Rattle.th_network.specs.Networks.{Survey, points_of}
use Rattle.th_remarks.specs.Outliers.{IsOutlierNote, IsUsualOrNone, weighed}
use Rattle.th_review_rows.specs.Entries.{entries_of}
use Rattle.th_answer.specs.Answers.{IsAnswer, those_corrected}
use Rattle.th_answer.specs.Corrected.{Corrected}
use Rattle.th_answer.specs.Groups.{Judged, group_of, nothing_is_wrong}
use Rattle.th_answer.specs.Inside.Readjusted.{AreReadjusted}
use Rattle.th_answer.specs.Limits.{asked_benchmarks}
use Rattle.th_answer.specs.Moved.{drawn_by, moved_of}
use Rattle.th_answer.specs.Others.{IsSaid}
use Rattle.th_answer.specs.Remedies.{remedy_of}
use Rattle.th_answer.specs.declared.answers.Answer.{Answer}
use Rattle.th_answer.specs.declared.correcting.Readjusted.{Readjusted}
use Rattle.th_answer.specs.declared.remedies.Remedy.{Remedy}

-- what sights are judged by
abbrev pub judged : Survey → (List ℕ → ℤ) → ℤ → List Remedy → List Corrected → Bool → Option ℕ → Judged
judged survey heights limit remedies corrected is_quiet usual = record { survey = survey; heights = heights; limit = limit; remedies = remedies; corrected = corrected; is_quiet = is_quiet; usual = usual }

pub answered : (survey : Survey) (reviews : List BookReview) (rows : List Row) (limit : ℤ) (heights : List ℕ → ℤ) → AreLowest survey heights → (left : List ℤ) → left ≡ residuals survey.observations heights
    → (listed : List Readjusted) (all : AreReadjusted survey (entries_of reviews) limit (firsts rows) listed) (usual : Option ℕ) → IsUsualOrNone (weighed survey left) usual
    → (remedies : List Remedy) → remedies ≡ filter_map (remedy_of (entries_of reviews)) (firsts rows) → (is_quiet : Bool) → is_quiet ≡ nothing_is_wrong survey heights limit (length (firsts rows))
    → (answer : Answer) → answer.groups.items ≡ map (group_of (judged survey heights limit remedies (those_corrected all.corrected) is_quiet usual)) survey.observations
    → answer.moved.items ≡ map (moved_of limit heights (those_corrected all.corrected)) (points_of survey) → answer.drawn.items ≡ map (drawn_by heights all.corrected) (points_of survey)
    → AllZip (IsSaid survey) (take (asked_benchmarks (length survey.observations)) survey.benchmarks) answer.others.items → IsOutlierNote survey left limit answer.outlier → IsAnswer survey reviews rows limit answer
answered survey reviews rows limit heights lowest left are listed all usual is_usual remedies same is_quiet quiet answer groups moved drawn others outlier = record {
  heights = heights;
  lowest = lowest;
  corrected = all.corrected;
  are_corrected = all.are_corrected;
  usual = usual;
  is_usual = subst (λ (left : List ℤ). IsUsualOrNone (weighed survey left) usual) are is_usual;
  groups = groups
      ∙ ap (λ (remedies : List Remedy). map (group_of (judged survey heights limit remedies (those_corrected all.corrected) is_quiet usual)) survey.observations) same
      ∙ ap (λ (is_quiet : Bool). map (group_of (judged survey heights limit (filter_map (remedy_of (entries_of reviews)) (firsts rows)) (those_corrected all.corrected) is_quiet usual)) survey.observations) quiet;
  moved = moved;
  drawn = drawn;
  others = others;
  outlier = subst (λ (left : List ℤ). IsOutlierNote survey left limit answer.outlier) are outlier;
}
