-- Heights and marks in lists.
use Rattle.std.proofs.Common.{◌≡◌, ◌∙◌, ◌<◌, ◌+◌, ◌*◌, ℕ, ℤ, pos, ◌+ℤ◌, ◌*ℤ◌, Bool, List, [], ◌∷◌, ◌++◌, All, ap, bytes_eq, get_or, length, map, refl, subst, sym, take, unsigned_abs, arith}
use Rattle.std.proofs.lemmas.List.{get_or-map, get_or_default, length-map, same_lists}
use Rattle.std.proofs.lemmas.List.Elements.{All-push}
use Rattle.std.specs.List.{IsDistinct}
use Rattle.th_observations.specs.Observed.{Observed}
use Rattle.th_entries.specs.declared.entries.Entry.{Entry}
use Rattle.th_blunders.specs.Blunders.{is_blunder}
use Rattle.th_blunders.specs.Residuals.{residuals}
use Rattle.th_blunders.proofs.HeightLemmas.{heights_at-listed}
use Rattle.th_changes.specs.Numbers.{changed_observation, lift}
use Rattle.th_changes.specs.Tilted.{tilted_observation}
use Rattle.th_changes.specs.declared.numbers.Number.{Number}
use Rattle.th_changes.proofs.Changes.{raised}
use Rattle.th_changes.proofs.TiltLemmas.{residual_moved}
use Rattle.th_network.specs.Heights.{heights_at, residual}
use Rattle.th_network.specs.Limits.{height_limit}
use Rattle.th_numbers.specs.Readings.{read_observation}
use Rattle.th_answer.specs.Groups.{is_marked_then}
use Rattle.th_answer.specs.Inside.Raised.{AreRaised}
use Rattle.th_answer.proofs.ListLemmas.{map_next}

-- heights that are listed in the order of these names
pub listed_heights : (names : List (List ℕ)) (heights : List ℤ) → IsDistinct bytes_eq names → length heights ≡ length names → heights ≡ map (heights_at names heights) names
listed_heights names heights distinct each = same_lists heights (map (heights_at names heights) names) (each ∙ sym (length-map names (heights_at names heights))) there
  where
    there : (k : ℕ) (d : ℤ) → k < length heights → get_or heights k d ≡ get_or (map (heights_at names heights) names) k d
    there k d within =
        let inside : k < length names = omega (arith, each) in
        let name : List ℕ = get_or names k [] in
        get_or_default heights k d (pos 0) within
        ∙ sym (heights_at-listed names heights k name distinct inside (get_or_default names k [] name inside))
        ∙ sym (get_or-map (heights_at names heights) names k [] d inside)

-- the marks of a survey in which a number has grown
pub marks_changed : (number : Number) (x limit : ℤ) (heights : List ℕ → ℤ) (observations : List Observed) → map (is_blunder limit) (residuals (map (tilted_observation number x) observations) heights)
    ≡ map (λ o. is_marked_then limit o (record { observation = changed_observation number x; heights = raised number x heights })) observations
marks_changed number x limit heights [] = refl
marks_changed number x limit heights (o ∷ observations) =
    ap (λ (r : ℤ). is_blunder limit r ∷ map (is_blunder limit) (residuals (map (tilted_observation number x) observations) heights)) (residual_moved number x o heights)
    ∙ ap (λ (rest : List Bool). is_blunder limit (residual (changed_observation number x o) (raised number x heights)) ∷ rest) (marks_changed number x limit heights observations)

-- the marks of a survey in which a book is read from mark to mark
pub marks_read : (entries : List Entry) (book : ℕ) (limit : ℤ) (heights : List ℕ → ℤ) (observations : List Observed) → map (is_blunder limit) (residuals (map (read_observation entries book) observations) heights)
    ≡ map (λ o. is_marked_then limit o (record { observation = read_observation entries book; heights = heights })) observations
marks_read entries book limit heights [] = refl
marks_read entries book limit heights (o ∷ observations) =
    ap (λ (rest : List Bool). is_blunder limit (residual (read_observation entries book o) heights) ∷ rest) (marks_read entries book limit heights observations)

-- one more height, raised where it grows with a number
pub next_raised : (number : Number) (growth : ℤ) (names : List (List ℕ)) (heights : List ℤ) (k : ℕ) (name : List ℕ) (own own' : List ℤ) (value : ℤ) → IsDistinct bytes_eq names → k < length names → name ≡ get_or names k name → value ≡ get_or heights k (pos 0) +ℤ growth *ℤ lift number name
    → unsigned_abs value < 2 * height_limit → own' ≡ own ++ value ∷ [] → AreRaised number growth (take k names) (heights_at names heights) own → AreRaised number growth (take (k + 1) names) (heights_at names heights) own'
next_raised number growth names heights k name own own' value distinct within here is small pushed before = record {
  raised = map_next (raised number growth (heights_at names heights)) names own own' k name value within here
      (is ∙ ap (λ (height : ℤ). height +ℤ growth *ℤ lift number name) (sym (heights_at-listed names heights k name distinct within here))) pushed before.raised;
  in_range = subst (All (λ height. unsigned_abs height < 2 * height_limit)) (sym pushed) (All-push (λ height. unsigned_abs height < 2 * height_limit) own value before.in_range small);
}
