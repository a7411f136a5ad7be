-- A page accuses a sight for a reason: where a row explains most, or because the sight is marked.
use Rattle.std.proofs.Common.{◌≡◌, ◌∙◌, ◌+◌, ◌++◌, ◌<◌, ℕ, zero, suc, ℤ, Bool, true, false, List, [], ◌∷◌, Option, Some, None, length, map, refl, ap, ap₂, sym, subst, arith, inl}
use Rattle.std.specs.Prelude.{◌↔◌, ◌⊎◌, ◌&&◌, ◌-ℤ◌, All, Contains, IsSome, count_by, nat_lt, slice_get, slice_index_or}
use Rattle.std.specs.List.{enumerate_from, filter_map, list_all, list_any, zip}
use Rattle.std.proofs.lemmas.Bool.Decides.{nat_tests}
use Rattle.std.proofs.lemmas.List.Elements.{All-contains}
use Rattle.std.proofs.lemmas.List.Sums.{length-filter}
use Rattle.th_answer.specs.Answers.{judged_by, those_corrected}
use Rattle.th_answer.specs.Groups.{Judged, first_group, group_of, is_in_question, is_unlike, stays_marked}
use Rattle.th_answer.specs.declared.answers.Group.{Group}
use Rattle.th_answer.specs.declared.answers.Group.TheVariants.{Fits}
use Rattle.th_answer.specs.declared.remedies.Remedy.{Remedy}
use Rattle.th_blunders.specs.Blunders.{is_blunder}
use Rattle.th_circulation.specs.Extremes.{Low}
use Rattle.th_entries.specs.declared.reviews.BookReview.{BookReview}
use Rattle.th_explain_texts.specs.Sentences.{firsts}
use Rattle.th_explain_texts.specs.declared.rows.Row.{Row}
use Rattle.th_entries.specs.declared.listed.Listed.{Listed}
use Rattle.th_entries.specs.declared.spellings.Spelling.{Spelling}
use Rattle.th_inputs.specs.Inputs.{NamedInput}
use Rattle.th_network.specs.Heights.{residual}
use Rattle.th_network.specs.Networks.{Survey, at_points_of, points_of}
use Rattle.th_observations.specs.Observed.{Observed}
use Rattle.th_page.specs.Counts.{is_first, is_marked}
use Rattle.th_page.specs.Laws.{are_reasoned, has_reason}
use Rattle.th_picture.specs.Drawn.{drawn_sight}
use Rattle.th_picture.specs.declared.drawn.DrawnSight.{DrawnSight}
use Rattle.th_points.specs.Points.{ends, points}
use Rattle.th_reliability.specs.declared.blames.Blame.{Blame}
use Rattle.th_review_rows.specs.Entries.{entries_of}
use Rattle.th_review_rows.specs.Rows.{observation_row}
use Rattle.th_tables.specs.Rows.{BenchmarkRows, WeightRows, height_of}
use Rattle.th_runs.specs.Paged.{IsPaged, shown_in}

-- what laws of points and of best heights say
pub record Agreed : Type 0 where
  pub each : (observations : List Observed) (benchmarks : BenchmarkRows) (name : List ℕ) → Contains (points observations benchmarks) name ↔ (Contains (ends observations) name ⊎ IsSome (height_of benchmarks name))
  pub low : (observations : List Observed) (benchmarks : BenchmarkRows) (weights : WeightRows) (first second : List ℕ → ℤ)
      → Low observations benchmarks weights first → Low observations benchmarks weights second → All (λ point. first point ≡ second point) (points observations benchmarks)

-- ---- residuals
-- an observation ends at ends
record EndsAt (os : List Observed) (o : Observed) : Type 0 where
  station : Contains (ends os) o.station
  target : Contains (ends os) o.target

first_ends : (first : Observed) (os : List Observed) → EndsAt (first ∷ os) first
first_ends first os = record { station = (0, omega arith, refl); target = (1, omega arith, refl) }

more_ends : (first : Observed) (os : List Observed) (o : Observed) → EndsAt os o → EndsAt (first ∷ os) o
more_ends first os o at =
    let (k, within, is) = at.station in
    let (j, inside, has) = at.target in
    record { station = (suc (suc k), omega (arith, within), is); target = (suc (suc j), omega (arith, inside), has) }

ends_at : (os : List Observed) (j : ℕ) (o : Observed) → slice_get os j ≡ Some o → EndsAt os o
ends_at [] j o is = absurd (cc)
ends_at (first ∷ os) zero o is =
    let same : first ≡ o = cc in
    subst (λ (own : Observed). EndsAt (first ∷ os) own) same (first_ends first os)
ends_at (first ∷ os) (suc j) o is = more_ends first os o (ends_at os j o is)

same_residual : Agreed → (survey : Survey) (one other : List ℕ → ℤ) → Low survey.observations survey.benchmarks survey.weights one → Low survey.observations survey.benchmarks survey.weights other
    → (j : ℕ) (o : Observed) → slice_get survey.observations j ≡ Some o → residual o one ≡ residual o other
same_residual laws survey one other one_is other_is j o is =
    let at = ends_at survey.observations j o is in
    let same = laws.low survey.observations survey.benchmarks survey.weights one other one_is other_is in
    let among = λ (name : List ℕ) (has : Contains (ends survey.observations) name). All-contains (λ point. one point ≡ other point) (points_of survey) name same ((laws.each survey.observations survey.benchmarks name).1 (inl has)) in
    ap₂ (λ (target station : ℤ). o.difference -ℤ (target -ℤ station)) (among o.target at.target) (among o.station at.station)

-- ---- reasons
above_zero : (n : ℕ) → nat_lt 0 (suc n) ≡ true
above_zero n = grind (arith, nat_tests)

-- a sight of a number that explains most has a row that does
any_first : (rows : List Row) (remedy : Row → Option Remedy) (has : Remedy → Bool) → list_any has (filter_map remedy (firsts rows)) ≡ true → nat_lt 0 (count_by is_first rows) ≡ true
any_first rows remedy has any = ap (nat_lt 0) (sym (length-filter is_first rows)) ∙ some (firsts rows) any
  where
    some : (own : List Row) → list_any has (filter_map remedy own) ≡ true → nat_lt 0 (length own) ≡ true
    some [] none = absurd (let wrong : ⊥ = cc in wrong)
    some (row ∷ own) any = above_zero (length own)

reason_of : (limit : ℤ) (explaining : ℕ) (question marked stays unlike : Bool) (sight : DrawnSight) → (question ≡ true → nat_lt 0 explaining ≡ true) → (marked ≡ true → is_marked limit sight ≡ true)
    → has_reason limit explaining sight (first_group question marked stays unlike) ≡ true
reason_of limit explaining true marked stays unlike sight asked accused = asked refl
reason_of limit explaining false true true unlike sight asked accused = accused refl
reason_of limit explaining false true false unlike sight asked accused = accused refl
reason_of limit explaining false false stays true sight asked accused = refl
reason_of limit explaining false false stays false sight asked accused = refl

-- ---- the sights of a page
group_at : (group : Observed → Group) (os : List Observed) (j : ℕ) (o : Observed) → slice_get os j ≡ Some o → slice_index_or (map group os) j Fits ≡ group o
group_at group [] j o is = absurd (cc)
group_at group (first ∷ os) zero o is =
    let same : first ≡ o = cc in
    ap group same
group_at group (first ∷ os) (suc j) o is = group_at group os j o is

both_true : (one other : Bool) → one ≡ true → other ≡ true → (one && other) ≡ true
both_true true other first second = second
both_true false other first second = absurd (let wrong : ⊥ = cc in wrong)

module _ (survey : Survey) (low : List ℕ → ℤ) (limit : ℤ) (explaining : ℕ) (groups : List Group) (drawn : List ℤ) where
  -- however an observation is drawn, this group has a reason
  abbrev IsReasoned : Observed → Group → Type 0
  IsReasoned o group = (sight : DrawnSight) → sight.row.residual ≡ residual o low → has_reason limit explaining sight group ≡ true

  all_reasoned : (place number : ℕ) (os : List Observed) (controls : List (Option ℕ)) (blames : List (Option Blame))
      → ((j : ℕ) (o : Observed) → slice_get os j ≡ Some o → IsReasoned o (slice_index_or groups (place + j) Fits))
      → list_all (λ sight. has_reason limit explaining sight sight.group) (map (drawn_sight groups drawn) (enumerate_from place (map (observation_row survey low) (enumerate_from number (zip os (zip controls blames)))))) ≡ true
  all_reasoned place number [] controls blames each = refl
  all_reasoned place number (o ∷ os) [] blames each = refl
  all_reasoned place number (o ∷ os) (control ∷ controls) [] each = refl
  all_reasoned place number (o ∷ os) (control ∷ controls) (blame ∷ blames) each =
      let here : IsReasoned o (slice_index_or groups place Fits) = subst (λ (at : ℕ). IsReasoned o (slice_index_or groups at Fits)) (omega arith) (each 0 o refl) in
      both_true _ _ (here (drawn_sight groups drawn (place, observation_row survey low (number, (o, (control, blame))))) refl)
      (all_reasoned (place + 1) (number + 1) os controls blames (λ j own is. subst (λ (at : ℕ). IsReasoned own (slice_index_or groups at Fits)) (omega arith) (each (suc j) own is)))

pub page_is_reasoned : Agreed → (survey : Survey) (title : List ℕ) (inputs : List NamedInput) (books : List BookReview) (spellings : Listed Spelling) (limit : ℤ) (text : List ℕ) (page : IsPaged survey title inputs books spellings limit text)
    → are_reasoned (shown_in survey title inputs books spellings limit text page) ≡ true
page_is_reasoned laws survey title inputs books spellings limit text page =
    all_reasoned survey low limit explaining page.meaning.groups.items page.meaning.drawn.items 0 1 survey.observations page.found.controls page.found.blames (λ j o is sight residual_is.
    let same : 0 + j ≡ j = omega arith in
    let group_is : slice_index_or page.meaning.groups.items (0 + j) Fits ≡ group_of own o =
    ap (λ (at : ℕ). slice_index_or page.meaning.groups.items at Fits) same ∙ ap (λ (groups : List Group). slice_index_or groups j Fits) page.means.groups ∙ group_at (group_of own) survey.observations j o is in
    ap (has_reason limit explaining sight) group_is
    ∙ reason_of limit explaining (is_in_question own o) (is_blunder limit (residual o own.heights)) (stays_marked own o) (is_unlike own o) sight
    (any_first page.explained.rows.items _ _)
    (λ marked. ap (is_blunder limit) (residual_is ∙ sym (same_residual laws survey own.heights low page.means.lowest page.answers.low j o is)) ∙ marked))
  where
    low : List ℕ → ℤ
    low = at_points_of survey page.answer.low

    explaining : ℕ
    explaining = count_by is_first page.explained.rows.items

    own : Judged
    own = judged_by survey page.means.heights limit books page.explained.rows.items page.means.corrected page.means.usual
