-- The survey with a row put right, in lists.
use Rattle.std.proofs.Common.{◌≡◌, ◌∙◌, ◌<◌, ◌≤◌, ◌*◌, ◌+◌, ℕ, ℤ, List, [], ◌∷◌, ◌++◌, All, Option, Some, None, ap, bytes_eq, get_or, length, map, option_to_list, refl, subst, sym, take, unsigned_abs, arith}
use Rattle.std.proofs.lemmas.Grind.{flat_map-append}
use Rattle.std.proofs.lemmas.List.{append-nil, take_more}
use Rattle.std.proofs.lemmas.List.Elements.{All-cons, All-head, All-nil, All-tail, All-weaker}
use Rattle.std.specs.List.{AllZip, IsDistinct}
use Rattle.th_observations.specs.Observed.{IsBetweenPoints, Observed, largest_difference}
use Rattle.th_entries.specs.declared.entries.Entry.{Entry}
use Rattle.th_changes.specs.Reach.{reach_of}
use Rattle.th_changes.specs.Tilted.{tilted}
use Rattle.th_changes.specs.declared.numbers.Number.{Number}
use Rattle.th_changes.proofs.Changes.{raised}
use Rattle.th_changes.proofs.TiltLemmas.{points_tilted}
use Rattle.th_explain.proofs.MendedLemmas.{lowest_moved}
use Rattle.th_explain_texts.specs.declared.rows.Row.{Row}
use Rattle.th_explain_texts.specs.declared.rows.Values.{Values}
use Rattle.th_network.proofs.EndLemmas.{same_points}
use Rattle.th_network.specs.Limits.{height_limit}
use Rattle.th_network.specs.Networks.{HaveSameEnds, Survey, at_points_of, points_between, points_of}
use Rattle.th_numbers.specs.Readings.{IsReadable, read_difference, read_observation, reread}
use Rattle.th_reliability.proofs.ZipLemmas.{zip_more}
use Rattle.th_answer.specs.Answers.{those_corrected}
use Rattle.th_answer.specs.Corrected.{IsCorrectedOrNone}
use Rattle.th_answer.specs.Inside.Raised.{AreRaised}
use Rattle.th_answer.specs.Inside.Readjusted.{AreReadjusted, IsAdjusted, IsGrowth, IsListed, IsReadjustedOrNone, IsWith}
use Rattle.th_answer.specs.Remedies.{mildest_growth}
use Rattle.th_answer.specs.declared.correcting.Readjusted.{Readjusted}
use Rattle.th_answer.specs.declared.remedies.Remedy.TheVariants.{Change, MarkToMark}
use Rattle.th_answer.proofs.ListedLemmas.{listed_heights, marks_changed, marks_read}

-- ---- a number grows
same_tilted_points : (survey : Survey) (number : Number) (x : ℤ) → points_of (tilted number x survey) ≡ points_of survey
same_tilted_points survey number x = points_tilted number x survey.observations survey.benchmarks

pub changed_with : (survey : Survey) (entries : List Entry) (limit : ℤ) (number : Number) (values : Values) (x : ℤ) → IsGrowth survey number values x → (own : Survey) → own ≡ tilted number x survey → (found : Readjusted) → IsAdjusted own limit found → (listed : Readjusted)
    → AreRaised number x (points_of own) (at_points_of own found.heights.items) listed.heights.items → listed.marks.items ≡ found.marks.items → IsWith survey entries limit (Change number values) listed
changed_with survey entries limit number values x growth own same found adjusted listed are_raised marks =
    let g : ℤ = mildest_growth values in
    let low : List ℤ = found.heights.items in
    let heights : List ℕ → ℤ = at_points_of (tilted number g survey) low in
    let there : own ≡ tilted number g survey = same ∙ ap (λ (x : ℤ). tilted number x survey) growth.mildest in
    let tilts : IsAdjusted (tilted number g survey) limit found = subst (λ (own : Survey). IsAdjusted own limit found) there adjusted in
    let lifts : AreRaised number g (points_of (tilted number g survey)) heights listed.heights.items =
    subst (λ (own : Survey). AreRaised number g (points_of own) (at_points_of own low) listed.heights.items) there
    (subst (λ (x : ℤ). AreRaised number x (points_of own) (at_points_of own low) listed.heights.items) growth.mildest are_raised) in
    record {
      possible = subst (λ (x : ℤ). unsigned_abs x ≤ reach_of number survey.observations) growth.mildest growth.within;
      heights = raised number g heights;
      lowest = lowest_moved survey number g heights tilts.lowest;
      listed = record {
        heights = lifts.raised ∙ ap (map (raised number g heights)) (same_tilted_points survey number g);
        marks = marks ∙ tilts.marks ∙ marks_changed number g limit heights survey.observations;
        in_range = lifts.in_range;
      };
    }

-- ---- a book is read from mark to mark
same_ends : (entries : List Entry) (book : ℕ) (observations : List Observed) → HaveSameEnds observations (map (read_observation entries book) observations)
same_ends entries book [] = refl
same_ends entries book (o ∷ observations) = ap (λ ends. points_between o ∷ ends) (same_ends entries book observations)

same_read_points : (survey : Survey) (entries : List Entry) (book : ℕ) → points_of (reread entries book survey) ≡ points_of survey
same_read_points survey entries book = same_points survey.observations (map (read_observation entries book) survey.observations) survey.benchmarks (same_ends entries book survey.observations)

-- heights below a limit are below twice as much
lower : (heights : List ℤ) → All (λ height. unsigned_abs height < height_limit) heights → All (λ height. unsigned_abs height < 2 * height_limit) heights
lower heights low = All-weaker (λ height. unsigned_abs height < height_limit) (λ height. unsigned_abs height < 2 * height_limit) (λ height less. omega (arith, less)) heights low

-- no difference of the observations is too large, and so the book can be read
pub readable_if : (entries : List Entry) (book : ℕ) (observations : List Observed) → All IsBetweenPoints (map (read_observation entries book) observations) → IsReadable entries book observations
readable_if entries book [] between = All-nil (λ o. unsigned_abs (read_difference entries book o) ≤ largest_difference)
readable_if entries book (o ∷ observations) between =
    All-cons (λ o. unsigned_abs (read_difference entries book o) ≤ largest_difference) o observations (All-head IsBetweenPoints (read_observation entries book o) (map (read_observation entries book) observations) between).in_range
    (readable_if entries book observations (All-tail IsBetweenPoints (read_observation entries book o) (map (read_observation entries book) observations) between))

pub read_with : (survey : Survey) (entries : List Entry) (limit : ℤ) (book : ℕ) → IsReadable entries book survey.observations → (own : Survey) → own ≡ reread entries book survey → (found : Readjusted) → IsAdjusted own limit found → IsDistinct bytes_eq (points_of own) → IsWith survey entries limit (MarkToMark book) found
read_with survey entries limit book readable own same found adjusted distinct =
    let low : List ℤ = found.heights.items in
    let heights : List ℕ → ℤ = at_points_of (reread entries book survey) low in
    let reads : IsAdjusted (reread entries book survey) limit found = subst (λ (own : Survey). IsAdjusted own limit found) same adjusted in
    let apart : IsDistinct bytes_eq (points_of (reread entries book survey)) = subst (λ (own : Survey). IsDistinct bytes_eq (points_of own)) same distinct in
    record {
      possible = readable;
      heights = heights;
      lowest = reads.lowest;
      listed = record {
        heights = listed_heights (points_of (reread entries book survey)) low apart reads.at_points.each ∙ ap (map heights) (same_read_points survey entries book);
        marks = reads.marks ∙ marks_read entries book limit heights survey.observations;
        in_range = lower low reads.at_points.in_range;
      };
    }

-- ---- rows

-- one more row
pub one_more : (survey : Survey) (entries : List Entry) (limit : ℤ) (rows : List Row) (listed : List Readjusted) (row : Row) (found : Option Readjusted) → AreReadjusted survey entries limit rows listed → IsReadjustedOrNone survey entries limit row found → AreReadjusted survey entries limit (rows ++ row ∷ []) (listed ++ option_to_list found)
one_more survey entries limit rows listed row None are none = record {
  corrected = are.corrected ++ None ∷ [];
  are_corrected = zip_more (IsCorrectedOrNone survey entries) rows are.corrected (are.corrected ++ None ∷ []) row None are.are_corrected none refl;
  are_listed = subst (λ after. AllZip (IsListed survey limit) after (listed ++ [])) (sym (flat_map-append option_to_list are.corrected (None ∷ [])))
      (joined are.are_listed);
}
  where
    joined : AllZip (IsListed survey limit) (those_corrected are.corrected) listed → AllZip (IsListed survey limit) (those_corrected are.corrected ++ []) (listed ++ [])
    joined all = subst (λ after. AllZip (IsListed survey limit) after (listed ++ [])) (sym (append-nil (those_corrected are.corrected))) (subst (AllZip (IsListed survey limit) (those_corrected are.corrected)) (sym (append-nil listed)) all)
one_more survey entries limit rows listed row (Some own) are one = record {
  corrected = are.corrected ++ Some one.after ∷ [];
  are_corrected = zip_more (IsCorrectedOrNone survey entries) rows are.corrected (are.corrected ++ Some one.after ∷ []) row (Some one.after) are.are_corrected one.corrected refl;
  are_listed = subst (λ after. AllZip (IsListed survey limit) after (listed ++ own ∷ [])) (sym (flat_map-append option_to_list are.corrected (Some one.after ∷ [])))
      (zip_more (IsListed survey limit) (those_corrected are.corrected) listed (listed ++ own ∷ []) one.after own are.are_listed one.listed refl);
}

-- the same of one more of the rows
pub next_row : (survey : Survey) (entries : List Entry) (limit : ℤ) (rows : List Row) (listed listed' : List Readjusted) (i : ℕ) (row : Row) (found : Option Readjusted) → i < length rows → row ≡ get_or rows i row → listed' ≡ listed ++ option_to_list found
    → AreReadjusted survey entries limit (take i rows) listed → IsReadjustedOrNone survey entries limit row found → AreReadjusted survey entries limit (take (i + 1) rows) listed'
next_row survey entries limit rows listed listed' i row found within here pushed are one =
    subst (λ (own : List Row). AreReadjusted survey entries limit own listed') (sym (take_more rows i row within ∙ ap (λ (v : Row). take i rows ++ v ∷ []) (sym here)))
    (subst (AreReadjusted survey entries limit (take i rows ++ row ∷ [])) (sym pushed) (one_more survey entries limit (take i rows) listed row found are one))
