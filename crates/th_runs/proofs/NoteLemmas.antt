-- What is noted of books that were read one after the other.
use Rattle.std.proofs.Common.{◌≡◌, ◌∙◌, ◌+◌, ℕ, ℤ, Global, List, [], ◌∷◌, ◌++◌, Ok, Err, Vec, ap, append-nil, append_assoc, subst, sym}
use Rattle.std.specs.Prelude.{OnOk, Option, Result, option_to_list}
use Rattle.th_observations.specs.Observed.{Observed}
use Rattle.th_entries.specs.Reviews.{parsed_of}
use Rattle.th_entries.specs.Several.{numbered}
use Rattle.th_entries.specs.Sights.{no_sight_in}
use Rattle.th_entries.specs.declared.sights.NoSight.{NoSight}
use Rattle.th_run_parts.specs.Readers.{HasReadBooks}
use Rattle.th_runs.specs.Inside.Readers.{IsNotedNext}
use Rattle.th_network.specs.Networks.{Survey, at_points_of}
use Rattle.th_blunders.specs.Residuals.{residuals}
use Rattle.th_circulation.specs.Best.{Best, IsBest}
use Rattle.th_remarks.specs.Heights.{IsHeightsNote}
use Rattle.th_remarks.specs.Marks.{IsMarksNote}
use Rattle.th_remarks.specs.Outliers.{IsOutlierNote}
use Rattle.th_remarks.specs.Remarks.{AreOfResiduals, AreOfSurvey, IsSilent}
use Rattle.th_remarks.specs.Repeats.{AreRepeatNotes}
use Rattle.th_remarks.specs.declared.cases.Alike.{Alike}
use Rattle.th_remarks.specs.declared.collected.Remarks.{Remarks}
use Rattle.th_remarks.specs.declared.heights.ManyHeights.{ManyHeights}
use Rattle.th_remarks.specs.declared.repeats.Repeat.{Repeat}
use Rattle.th_runs.specs.Noted.{AreNone, AreNotesOfList, AreRemarks, AreSightless, sightless}
use Rattle.th_run_parts.specs.Inputs.{AreTold}
use Rattle.th_runs.specs.declared.notes.Notes.{Notes}

-- books were read: what their texts are, and which of them were noted behind others
pub record AreAllNoted (number : ℕ) (tolds : List (Option (List ℕ))) (old new : Notes) : Type 0 where
  pub texts : List (List ℕ)
  pub told : AreTold tolds texts
  pub noted : new.books.items ≡ old.books.items ++ sightless (numbered number texts)

pub all_noted : (number : ℕ) (tolds : List (Option (List ℕ))) (before after : List Observed) (old new : Notes)
    → HasReadBooks (λ own told observations (first last : Notes). IsNotedNext own told first last) number tolds before after old new
    → AreAllNoted number tolds old new
all_noted number [] before after old new read = record {
  texts = [];
  told = tt;
  noted = ap (λ (own : Notes). own.books.items) read.1 ∙ sym (append-nil old.books.items);
}
all_noted number (told ∷ tolds) before after old new read =
    let next : IsNotedNext number told old read.0 = read.2 in
    let rest : AreAllNoted (number + 1) tolds read.0 new = all_noted (number + 1) tolds (before ++ read.1) after read.0 new read.3 in
    record {
      texts = next.text ∷ rest.texts;
      told = (next.is_told, rest.told);
      noted = rest.noted ∙ ap (λ (own : List NoSight). own ++ sightless (numbered (number + 1) rest.texts)) next.noted
          ∙ append_assoc old.books.items (option_to_list (no_sight_in number (parsed_of next.text))) (sightless (numbered (number + 1) rest.texts));
    }

-- where nothing was noted before, just they are noted
pub sightless_of_all : (tolds : List (Option (List ℕ))) (old new : Notes) → AreAllNoted 1 tolds old new → old.books.items ≡ [] → AreSightless 1 tolds new.books.items
sightless_of_all tolds old new read none = record {
  texts = read.texts;
  told = read.told;
  noted = read.noted ∙ ap (λ (own : List NoSight). own ++ sightless (numbered 1 read.texts)) none;
}

-- what holds anyway holds of a good answer
pub always : {X E Q : Type 0} (result : Result X E) → Q → OnOk result Q
always (Ok x) holds = holds
always (Err e) holds = tt

-- one book was read
pub list_noted : (told : Option (List ℕ)) (old new : Notes) → AreNone old → IsNotedNext 1 told old new → AreNotesOfList told new
list_noted told old new none next = record {
  books = record {
    texts = next.text ∷ [];
    told = (next.is_told, tt);
    noted = next.noted ∙ ap (λ (own : List NoSight). own ++ option_to_list (no_sight_in 1 (parsed_of next.text))) none.books
        ∙ sym (append-nil (option_to_list (no_sight_in 1 (parsed_of next.text))));
  };
  remarks = subst IsSilent (sym next.remarks) none.remarks;
}

-- remarks with one on heights are all remarks on a survey
pub remarks_with : (survey : Survey) (best : Best) (limit : ℤ) (left : List ℤ) (own later : Remarks) (heights : Option ManyHeights)
    → AreOfSurvey survey own → AreOfResiduals survey left limit own
    → later.repeats ≡ own.repeats → later.alike ≡ own.alike → later.marks ≡ own.marks → later.outlier ≡ own.outlier
    → IsBest survey best → IsHeightsNote survey best.low best.high limit heights → later.heights ≡ heights
    → left ≡ residuals survey.observations (at_points_of survey best.low) → AreRemarks survey limit later
remarks_with survey best limit left own later heights books residual repeats alike marks outlier is_best note same is = record {
  books = record {
    repeats = subst (λ (repeats : Vec Repeat Global). AreRepeatNotes survey.observations repeats.items) (sym repeats) books.repeats;
    alike = ap (λ (alike : Vec Alike Global). alike.items) alike ∙ books.alike;
  };
  best = best;
  is_best = is_best;
  heights = subst (IsHeightsNote survey best.low best.high limit) (sym same) note;
  residuals = subst (λ left. AreOfResiduals survey left limit later) is (record {
    marks = subst (IsMarksNote limit left) (sym marks) residual.marks;
    outlier = subst (IsOutlierNote survey left limit) (sym outlier) residual.outlier;
  });
}
