-- What is found of a survey is one, but for which of several sets a mistake moves.
use Rattle.std.proofs.Common.{◌≡◌, ◌+◌, ◌<◌, ℕ, suc, ℤ, pos, Bool, true, false, List, [], ◌∷◌, Option, Some, None, length, map, get_or, slice_get, refl, ap, ap₂, sym, ◌∙◌, arith, bytes_eq}
use Rattle.std.specs.Prelude.{All, option_map, slice_index_or}
use Rattle.std.specs.List.{AllZip, IsDistinct, enumerate_from, zip}
use Rattle.std.proofs.lemmas.Bool.{false≢true}
use Rattle.std.proofs.lemmas.Bool.Decides.{Decides-like, same_from_decides}
use Rattle.std.proofs.lemmas.List.{get_or_default, same_lists}
use Rattle.std.proofs.lemmas.List.Sums.{position_or_len_is}
use Rattle.std.proofs.lemmas.Map.Keys.{apart_from_distinct}
use Rattle.std.proofs.lemmas.Slice.Eq.{bytes_eq-Decides}
use Rattle.th_observations.specs.Observed.{Observed}
use Rattle.th_reliability.specs.declared.benchmarks.BenchmarkEffect.{BenchmarkEffect}
use Rattle.th_reliability.specs.declared.blames.Blame.{Blame}
use Rattle.th_entries.specs.declared.reviews.BookReview.{BookReview}
use Rattle.th_reliability.specs.declared.effects.Effect.{Effect}
use Rattle.th_entries.specs.declared.entries.Entry.{Entry}
use Rattle.th_entries.specs.declared.listed.Listed.{Listed}
use Rattle.th_explain_texts.specs.declared.rows.Row.{Row}
use Rattle.th_entries.specs.declared.spellings.Spelling.{Spelling}
use Rattle.th_reliability.specs.declared.mistakes.SharedMistake.{SharedMistake}
use Rattle.th_circulation.specs.Best.{Best, IsBest}
use Rattle.th_circulation.specs.Extremes.{High, Low}
use Rattle.th_inputs.specs.Inputs.{NamedInput}
use Rattle.th_network.specs.Heights.{heights_at}
use Rattle.th_network.specs.Networks.{AreAtPoints, Survey, at_points_of, points_of}
use Rattle.th_points.specs.Points.{points}
use Rattle.th_tables.specs.Rows.{BenchmarkRows, WeightRows}
use Rattle.th_reliability.specs.BenchmarkEffects.{HasBenchmarkEffect, IsBenchmarkEffect}
use Rattle.th_reliability.specs.Benchmarks.{has_end}
use Rattle.th_reliability.specs.Cuts.{differ}
use Rattle.th_reliability.specs.Effects.{IsEffect}
use Rattle.th_reliability.specs.Numbers.{AreControls, AreStrengths, HasControl, HasStrength}
use Rattle.th_reliability.specs.SharedMistakes.{IsSharedMistake}
use Rattle.th_reliability.specs.Sights.{in_sights}
use Rattle.th_review_rows.specs.Entries.{entries_of, sights_of}
use Rattle.th_review_rows.specs.Found.{FoundNumbers, found_rows}
use Rattle.th_review_rows.specs.Rows.{benchmark_row, entry_row, entry_rows, observation_row}
use Rattle.th_review_rows.specs.declared.rows.BenchmarkRow.{BenchmarkRow}
use Rattle.th_page.specs.Laws.{Given, PagesAreOfPieces, benchmark_named, entry_named, explanation_named, input_named, point_named, shown_named, sight_named}
use Rattle.th_page.specs.Contents.{ShownRows}
use Rattle.th_page.specs.Pages.{page_text}
use Rattle.th_page.specs.Shown.{ExplainedRows, shown_of}
use Rattle.th_runs.specs.Paged.{IsPaged, explained_with, shown_in}
use Rattle.th_runs.specs.Reviewed.{AreFound}

-- what laws of points, of best heights, of mistakes and of pages say
pub record Laws : Type 0 where
  pub once : (observations : List Observed) (benchmarks : BenchmarkRows) → IsDistinct bytes_eq (points observations benchmarks)
  pub low : (observations : List Observed) (benchmarks : BenchmarkRows) (weights : WeightRows) (first second : List ℕ → ℤ)
      → Low observations benchmarks weights first → Low observations benchmarks weights second → All (λ point. first point ≡ second point) (points observations benchmarks)
  pub high : (observations : List Observed) (benchmarks : BenchmarkRows) (weights : WeightRows) (first second : List ℕ → ℤ)
      → High observations benchmarks weights first → High observations benchmarks weights second → All (λ point. first point ≡ second point) (points observations benchmarks)
  pub word : (survey : Survey) (group : Observed → Bool) (first second : SharedMistake) → IsSharedMistake survey group first → IsSharedMistake survey group second → first ≡ second
  pub pages : PagesAreOfPieces

-- ---- heights
swapped : (one other : List ℕ) → bytes_eq one other ≡ false → bytes_eq other one ≡ false
swapped one other apart =
    same_from_decides (bytes_eq other one) (bytes_eq one other) (bytes_eq-Decides other one) (Decides-like (bytes_eq one other) sym sym (bytes_eq-Decides one other)) ∙ apart

height_at : (names : List (List ℕ)) (heights : List ℤ) (k : ℕ) (d : List ℕ) → IsDistinct bytes_eq names → k < length names → heights_at names heights (get_or names k d) ≡ get_or heights k (pos 0)
height_at names heights k d distinct within =
    ap (λ (place : ℕ). get_or heights place (pos 0))
    (position_or_len_is (bytes_eq (get_or names k d)) names k d (omega arith)
    (λ j before. swapped (get_or names j d) (get_or names k d) (apart_from_distinct bytes_eq names j k d distinct before within))
    (λ inside. (bytes_eq-Decides (get_or names k d) (get_or names k d)).1 refl))

same_heights : (survey : Survey) (first second : List ℤ) → IsDistinct bytes_eq (points_of survey) → AreAtPoints survey first → AreAtPoints survey second
    → All (λ point. at_points_of survey first point ≡ at_points_of survey second point) (points_of survey) → first ≡ second
same_heights survey first second distinct one other same =
    same_lists first second (one.each ∙ sym other.each) (λ k d within.
    let inside : k < length (points_of survey) = omega (arith, within, one.each) in
    let here : k < length second = omega (arith, inside, other.each) in
    get_or_default first k d (pos 0) within ∙ sym (height_at (points_of survey) first k [] distinct inside) ∙ same k [] inside
    ∙ height_at (points_of survey) second k [] distinct inside ∙ get_or_default second k (pos 0) d here)

one_low : Laws → (survey : Survey) (first second : Best) → IsBest survey first → IsBest survey second → first.low ≡ second.low
one_low laws survey first second one other =
    same_heights survey first.low second.low (laws.once survey.observations survey.benchmarks) one.low_at_points other.low_at_points
    (laws.low survey.observations survey.benchmarks survey.weights (at_points_of survey first.low) (at_points_of survey second.low) one.low other.low)

one_high : Laws → (survey : Survey) (first second : Best) → IsBest survey first → IsBest survey second → first.high ≡ second.high
one_high laws survey first second one other =
    same_heights survey first.high second.high (laws.once survey.observations survey.benchmarks) one.high_at_points other.high_at_points
    (laws.high survey.observations survey.benchmarks survey.weights (at_points_of survey first.high) (at_points_of survey second.high) one.high other.high)

-- ---- strengths and controls
both_ends : (a b : Bool) → a ≡ false → b ≡ false → differ a b ≡ true → ⊥
both_ends a b first second e = false≢true (sym (ap₂ differ first second) ∙ e)

one_strength : (survey : Survey) (name : List ℕ) (first second : Option ℕ) → HasStrength survey name first → HasStrength survey name second → first ≡ second
one_strength survey name None None one other = refl
one_strength survey name None (Some strength) one other = let (inside, free, holds, cut) = other.reached in absurd (false≢true (sym (free name one) ∙ holds))
one_strength survey name (Some strength) None one other = let (inside, free, holds, cut) = one.reached in absurd (false≢true (sym (free name other) ∙ holds))
one_strength survey name (Some first) (Some second) one other =
    let (a, free_a, holds_a, cut_a) = one.reached in
    let (b, free_b, holds_b, cut_b) = other.reached in
    let less = one.least b free_b holds_b in
    let more = other.least a free_a holds_a in
    ap Some (omega (arith, less, more, cut_a, cut_b))

one_control : (survey : Survey) (o : Observed) (first second : Option ℕ) → HasControl survey o first → HasControl survey o second → first ≡ second
one_control survey o None None one other = refl
one_control survey o None (Some control) one other = let (inside, free, holds, cut) = other.reached in absurd (both_ends (inside o.station) (inside o.target) (free o.station one.0) (free o.target one.1) holds)
one_control survey o (Some control) None one other = let (inside, free, holds, cut) = one.reached in absurd (both_ends (inside o.station) (inside o.target) (free o.station other.0) (free o.target other.1) holds)
one_control survey o (Some first) (Some second) one other =
    let (a, free_a, holds_a, cut_a) = one.reached in
    let (b, free_b, holds_b, cut_b) = other.reached in
    let less = one.least b free_b holds_b in
    let more = other.least a free_a holds_a in
    ap Some (omega (arith, less, more, cut_a, cut_b))

-- lists that have a value for each item are one, if each item has one value
one_list : {X : Type 0} (items : List X) (Has : X → Option ℕ → Type 0) (first second : List (Option ℕ)) → ((x : X) (one other : Option ℕ) → Has x one → Has x other → one ≡ other)
    → length first ≡ length items → length second ≡ length items
    → ((k : ℕ) (x : X) (d : Option ℕ) → slice_get items k ≡ Some x → Has x (slice_index_or first k d)) → ((k : ℕ) (x : X) (d : Option ℕ) → slice_get items k ≡ Some x → Has x (slice_index_or second k d))
    → first ≡ second
one_list [] Has [] [] alone each each' one other = refl
one_list [] Has (x ∷ xs) second alone each each' one other = absurd (omega (arith, each))
one_list [] Has [] (y ∷ ys) alone each each' one other = absurd (omega (arith, each'))
one_list (item ∷ items) Has [] second alone each each' one other = absurd (omega (arith, each))
one_list (item ∷ items) Has (x ∷ xs) [] alone each each' one other = absurd (omega (arith, each'))
one_list (item ∷ items) Has (x ∷ xs) (y ∷ ys) alone each each' one other =
    ap₂ (λ (head : Option ℕ) (rest : List (Option ℕ)). head ∷ rest) (alone item x y (one 0 item None refl) (other 0 item None refl))
    (one_list items Has xs ys alone (omega (arith, each)) (omega (arith, each')) (λ k. one (suc k)) (λ k. other (suc k)))

one_strengths : (survey : Survey) (first second : List (Option ℕ)) → AreStrengths survey first → AreStrengths survey second → first ≡ second
one_strengths survey first second one other = one_list (points_of survey) (HasStrength survey) first second (one_strength survey) one.each other.each one.are other.are

one_controls : (survey : Survey) (first second : List (Option ℕ)) → AreControls survey first → AreControls survey second → first ≡ second
one_controls survey first second one other = one_list survey.observations (HasControl survey) first second (one_control survey) one.each other.each one.are other.are

-- ---- what a page shows
-- what is given for a page as it is, and for one without what it does not show
abbrev as_is : Given
as_is = record { text = λ text. text; blame = λ blame. blame; strength = λ strength. strength }

abbrev bare : Given
bare = record { text = λ text. text; blame = λ blame. None; strength = λ strength. None }

kept : {X : Type 0} (f : X → X) → ((x : X) → f x ≡ x) → (xs : List X) → map f xs ≡ xs
kept {X = X} f one [] = refl
kept {X = X} f one (x ∷ xs) = ap₂ (λ (head : X) (rest : List X). head ∷ rest) (one x) (kept f one xs)

same_name : (name : Option (List ℕ)) → option_map as_is.text name ≡ name
same_name None = refl
same_name (Some name) = refl

same_shown : (shown : ShownRows) → shown_named as_is shown ≡ shown
same_shown shown = λ i. record {
  title = shown.title;
  inputs = kept (input_named as_is) (λ input. refl) shown.inputs i;
  points = kept (point_named as_is) (λ row. refl) shown.points i;
  sights = kept (sight_named as_is) (λ row. refl) shown.sights i;
  entries = kept (entry_named as_is) (λ row. refl) shown.entries i;
  benchmarks = kept (benchmark_named as_is) (λ row. refl) shown.benchmarks i;
  explanations = kept (explanation_named as_is) (λ row. ap₂ (λ (from to : Option (List ℕ)). record row { from = from; to = to }) (same_name row.from) (same_name row.to)) shown.explanations i;
  says = kept (λ text. text) (λ text. refl) shown.says i;
  notes = kept (λ text. text) (λ text. refl) shown.notes i;
  cost = shown.cost;
  limit = shown.limit;
  answer = shown.answer;
}

bare_text : PagesAreOfPieces → (shown : ShownRows) → page_text shown ≡ page_text (shown_named bare shown)
bare_text pages shown =
    let own = pages shown in
    ap page_text (sym (same_shown shown)) ∙ own.1 as_is (λ text. refl) ∙ sym (own.1 bare (λ text. refl))

-- what is blamed does not show
sights_shown : (survey : Survey) (low : List ℕ → ℤ) (number : ℕ) (os : List Observed) (controls : List (Option ℕ)) (first second : List (Option Blame)) → length first ≡ length second
    → map (sight_named bare) (map (observation_row survey low) (enumerate_from number (zip os (zip controls first)))) ≡ map (sight_named bare) (map (observation_row survey low) (enumerate_from number (zip os (zip controls second))))
sights_shown survey low number [] controls first second same = refl
sights_shown survey low number (o ∷ os) [] first second same = refl
sights_shown survey low number (o ∷ os) (c ∷ controls) [] [] same = refl
sights_shown survey low number (o ∷ os) (c ∷ controls) [] (b ∷ bs) same = absurd (omega (arith, same))
sights_shown survey low number (o ∷ os) (c ∷ controls) (a ∷ as') [] same = absurd (omega (arith, same))
sights_shown survey low number (o ∷ os) (c ∷ controls) (a ∷ as') (b ∷ bs) same =
    ap (λ rest. sight_named bare (observation_row survey low (number, (o, (c, a)))) ∷ rest) (sights_shown survey low (number + 1) os controls as' bs (omega (arith, same)))

entries_shown : Laws → (survey : Survey) (entries : List Entry) (first second : List Effect) → AllZip (λ entry effect. IsEffect survey (in_sights (sights_of entry)) effect) entries first
    → AllZip (λ entry effect. IsEffect survey (in_sights (sights_of entry)) effect) entries second → map (entry_named bare) (entry_rows survey entries first) ≡ map (entry_named bare) (entry_rows survey entries second)
entries_shown laws survey [] [] [] one other = refl
entries_shown laws survey [] [] (b ∷ bs) one other = absurd other
entries_shown laws survey [] (a ∷ as') second one other = absurd one
entries_shown laws survey (e ∷ es) [] second one other = absurd one
entries_shown laws survey (e ∷ es) (a ∷ as') [] one other = absurd other
entries_shown laws survey (e ∷ es) (a ∷ as') (b ∷ bs) one other =
    ap₂ (λ mistake rest. entry_named bare (entry_row survey (e, record { mistake = mistake; blame = None })) ∷ rest) (laws.word survey (in_sights (sights_of e)) a.mistake b.mistake one.0.word other.0.word)
    (entries_shown laws survey es as' bs one.1 other.1)

one_mistake : Laws → (survey : Survey) (point : List ℕ) (first second : Option Effect) → HasBenchmarkEffect survey point first → HasBenchmarkEffect survey point second
    → option_map (λ (effect : Effect). effect.mistake) first ≡ option_map (λ (effect : Effect). effect.mistake) second
one_mistake laws survey point None None one other = refl
one_mistake laws survey point None (Some b) one other = absurd (omega (arith, one, other.0))
one_mistake laws survey point (Some a) None one other = absurd (omega (arith, one.0, other))
one_mistake laws survey point (Some a) (Some b) one other = ap Some (laws.word survey (has_end point) a.mistake b.mistake one.1.word other.1.word)

abbrev shown_with : List ℕ × ℤ → ℕ × ℕ → Option SharedMistake → BenchmarkRow
shown_with row counts mistake = record { name = row.0; height = row.1; sights = counts.0; weight = counts.1; strength = None; mistake = mistake; blame = None }

benchmarks_shown : Laws → (survey : Survey) (rows : BenchmarkRows) (first second : List BenchmarkEffect) → AllZip (λ row effect. IsBenchmarkEffect survey row.0 effect) rows first
    → AllZip (λ row effect. IsBenchmarkEffect survey row.0 effect) rows second → map (benchmark_named bare) (map benchmark_row (zip rows first)) ≡ map (benchmark_named bare) (map benchmark_row (zip rows second))
benchmarks_shown laws survey [] [] [] one other = refl
benchmarks_shown laws survey [] [] (b ∷ bs) one other = absurd other
benchmarks_shown laws survey [] (a ∷ as') second one other = absurd one
benchmarks_shown laws survey (row ∷ rows) [] second one other = absurd one
benchmarks_shown laws survey (row ∷ rows) (a ∷ as') [] one other = absurd other
benchmarks_shown laws survey (row ∷ rows) (a ∷ as') (b ∷ bs) one other =
    ap₂ (λ head rest. head ∷ rest)
    (ap₂ (λ (counts : ℕ × ℕ) mistake. shown_with row counts mistake) (ap₂ (λ (sights weight : ℕ). (sights, weight)) (one.0.sights ∙ sym other.0.sights) (one.0.weight ∙ sym other.0.weight))
    (one_mistake laws survey row.0 a.effect b.effect one.0.effect other.0.effect))
    (benchmarks_shown laws survey rows as' bs one.1 other.1)

-- ---- a page
one_page : Laws → (survey : Survey) (title : List ℕ) (inputs : List NamedInput) (books : List BookReview) (spellings : Listed Spelling) (explained : ExplainedRows) (best answer : Best) (first second : FoundNumbers)
    → IsBest survey best → IsBest survey answer → AreFound survey books first → AreFound survey books second
    → shown_named bare (shown_of title (found_rows survey (at_points_of survey best.low) (at_points_of survey best.high) first books spellings) inputs explained)
    ≡ shown_named bare (shown_of title (found_rows survey (at_points_of survey answer.low) (at_points_of survey answer.high) second books spellings) inputs explained)
one_page laws survey title inputs books spellings explained best answer first second is other_is finds other_finds =
    ap₂ (λ low high. page low high first) (one_low laws survey best answer is other_is) (one_high laws survey best answer is other_is)
    ∙ ap₂ (λ strengths units. page answer.low answer.high (record first { strengths = strengths; unit_strengths = units }))
    (one_strengths survey first.strengths second.strengths finds.strengths other_finds.strengths) (one_strengths (record survey { weights = [] }) first.unit_strengths second.unit_strengths finds.unit_strengths other_finds.unit_strengths)
    ∙ ap (λ controls. page answer.low answer.high (record second { controls = controls; blames = first.blames; effects = first.effects; benchmarks = first.benchmarks }))
    (one_controls survey first.controls second.controls finds.controls other_finds.controls)
    ∙ ap (λ sights. record (page answer.low answer.high (record second { blames = first.blames; effects = first.effects; benchmarks = first.benchmarks })) { sights = sights })
    (sights_shown survey (at_points_of survey answer.low) 1 survey.observations second.controls first.blames second.blames (finds.blames.each ∙ sym other_finds.blames.each))
    ∙ ap (λ entries. record (page answer.low answer.high (record second { effects = first.effects; benchmarks = first.benchmarks })) { entries = entries })
    (entries_shown laws survey (entries_of books) first.effects second.effects finds.effects other_finds.effects)
    ∙ ap (λ benchmarks. record (page answer.low answer.high (record second { benchmarks = first.benchmarks })) { benchmarks = benchmarks })
    (benchmarks_shown laws survey survey.benchmarks first.benchmarks second.benchmarks finds.benchmarks other_finds.benchmarks)
  where
    page : List ℤ → List ℤ → FoundNumbers → ShownRows
    page low high found = shown_named bare (shown_of title (found_rows survey (at_points_of survey low) (at_points_of survey high) found books spellings) inputs explained)

pub shown_is_one : Laws → (survey : Survey) (title : List ℕ) (inputs : List NamedInput) (books : List BookReview) (spellings : Listed Spelling) (limit : ℤ) (text : List ℕ) (page : IsPaged survey title inputs books spellings limit text)
    (answer : Best) (found : FoundNumbers) → IsBest survey answer → AreFound survey books found
    → text ≡ page_text (shown_of title (found_rows survey (at_points_of survey answer.low) (at_points_of survey answer.high) found books spellings) inputs (explained_with page.explained page.meaning limit))
shown_is_one laws survey title inputs books spellings limit text page answer found is finds =
    page.printed ∙ bare_text laws.pages (shown_in survey title inputs books spellings limit text page)
    ∙ ap page_text (one_page laws survey title inputs books spellings (explained_with page.explained page.meaning limit) page.answer answer page.found found page.answers is page.finds finds)
    ∙ sym (bare_text laws.pages (shown_of title (found_rows survey (at_points_of survey answer.low) (at_points_of survey answer.high) found books spellings) inputs (explained_with page.explained page.meaning limit)))
