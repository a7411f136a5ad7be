-- What lists say at a place, and what definitions say of the point or the observation there.
use Rattle.std.proofs.Common.{◌≡◌, ◌∙◌, ◌<◌, ◌*◌, ◌&&◌, ℕ, ℤ, pos, false, Bool, List, [], ◌∷◌, All, ap, get_or, length, refl, sym, unsigned_abs}
use Rattle.std.proofs.lemmas.List.{get_or-map, length-map}
use Rattle.std.proofs.lemmas.List.Elements.{All-nil, All-cons}
use Rattle.std.specs.List.{AllZip, list_all}
use Rattle.th_observations.specs.Observed.{Observed}
use Rattle.th_network.specs.Limits.{height_limit}
use Rattle.th_network.specs.Networks.{Survey, points_of}
use Rattle.th_answer.specs.Corrected.{Corrected}
use Rattle.th_answer.specs.Groups.{is_marked_then}
use Rattle.th_answer.specs.Inside.Judging.{all_marked, mark_in}
use Rattle.th_answer.specs.Inside.Moving.{height_in, heights_in}
use Rattle.th_answer.specs.Inside.Readjusted.{IsListed}
use Rattle.th_answer.specs.Moved.{heights_then}
use Rattle.th_answer.specs.declared.correcting.Readjusted.{Readjusted}

module _ (survey : Survey) (limit : ℤ) where
  -- the heights of a point
  pub heights_there : (after : List Corrected) (listed : List Readjusted) (k : ℕ) (name : List ℕ) → AllZip (IsListed survey limit) after listed → k < length (points_of survey) → name ≡ get_or (points_of survey) k name → heights_in listed k ≡ heights_then after name
  heights_there [] [] k name are within here = refl
  heights_there [] (own ∷ listed) k name are within here = absurd are
  heights_there (one ∷ after) [] k name are within here = absurd are
  heights_there (one ∷ after) (own ∷ listed) k name are within here =
      let same : height_in k own ≡ one.heights name = ap (λ (heights : List ℤ). get_or heights k (pos 0)) are.0.heights ∙ get_or-map one.heights (points_of survey) k name (pos 0) within ∙ ap one.heights (sym here) in
      ap (λ (height : ℤ). height ∷ heights_in listed k) same ∙ ap (λ (rest : List ℤ). one.heights name ∷ rest) (heights_there after listed k name are.1 within here)

  -- whether an observation is marked whichever row is put right
  pub marks_there : (after : List Corrected) (listed : List Readjusted) (k : ℕ) (o : Observed) → AllZip (IsListed survey limit) after listed → k < length survey.observations → o ≡ get_or survey.observations k o → all_marked listed k ≡ list_all (is_marked_then limit o) after
  marks_there [] [] k o are within here = refl
  marks_there [] (own ∷ listed) k o are within here = absurd are
  marks_there (one ∷ after) [] k o are within here = absurd are
  marks_there (one ∷ after) (own ∷ listed) k o are within here =
      let same : mark_in k own ≡ is_marked_then limit o one =
      ap (λ (marks : List Bool). get_or marks k false) are.0.marks ∙ get_or-map (λ (o : Observed). is_marked_then limit o one) survey.observations k o false within ∙ ap (λ (o : Observed). is_marked_then limit o one) (sym here) in
      ap (λ (mark : Bool). mark && all_marked listed k) same ∙ ap (λ (rest : Bool). is_marked_then limit o one && rest) (marks_there after listed k o are.1 within here)

  -- the lists have a height for each point, a mark for each observation, and no height is large
  pub heights_are_long : (after : List Corrected) (listed : List Readjusted) → AllZip (IsListed survey limit) after listed → All (λ own. length own.heights.items ≡ length (points_of survey)) listed
  heights_are_long [] [] are = All-nil (λ own. length own.heights.items ≡ length (points_of survey))
  heights_are_long [] (own ∷ listed) are = absurd are
  heights_are_long (one ∷ after) [] are = absurd are
  heights_are_long (one ∷ after) (own ∷ listed) are =
      All-cons (λ own. length own.heights.items ≡ length (points_of survey)) own listed (ap (λ (heights : List ℤ). length heights) are.0.heights ∙ length-map (points_of survey) one.heights) (heights_are_long after listed are.1)

  pub marks_are_long : (after : List Corrected) (listed : List Readjusted) → AllZip (IsListed survey limit) after listed → All (λ own. length own.marks.items ≡ length survey.observations) listed
  marks_are_long [] [] are = All-nil (λ own. length own.marks.items ≡ length survey.observations)
  marks_are_long [] (own ∷ listed) are = absurd are
  marks_are_long (one ∷ after) [] are = absurd are
  marks_are_long (one ∷ after) (own ∷ listed) are =
      All-cons (λ own. length own.marks.items ≡ length survey.observations) own listed (ap (λ (marks : List Bool). length marks) are.0.marks ∙ length-map survey.observations (λ (o : Observed). is_marked_then limit o one)) (marks_are_long after listed are.1)

  pub heights_are_low : (after : List Corrected) (listed : List Readjusted) → AllZip (IsListed survey limit) after listed → All (λ own. All (λ height. unsigned_abs height < 2 * height_limit) own.heights.items) listed
  heights_are_low [] [] are = All-nil (λ own. All (λ height. unsigned_abs height < 2 * height_limit) own.heights.items)
  heights_are_low [] (own ∷ listed) are = absurd are
  heights_are_low (one ∷ after) [] are = absurd are
  heights_are_low (one ∷ after) (own ∷ listed) are =
      All-cons (λ own. All (λ height. unsigned_abs height < 2 * height_limit) own.heights.items) own listed are.0.in_range (heights_are_low after listed are.1)
