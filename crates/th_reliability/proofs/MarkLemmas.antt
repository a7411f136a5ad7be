-- Which of the observations are some sights, one after another.
use Rattle.std.proofs.Common.{◌≡◌, ℕ, suc, ◌<◌, ◌≤◌, inl, inr, pos, Bool, false, List, [], ◌∷◌, get_or, length, map, refl, sym, ap, ◌∙◌, arith}
use Rattle.std.proofs.lemmas.Bool.{cases_lt}
use Rattle.std.proofs.lemmas.List.{get_or-map, get_or_past, length-map}
use Rattle.th_observations.specs.Observed.{Observed}
use Rattle.th_reliability.specs.Inside.Targets.{HoldsMarks}
use Rattle.th_reliability.specs.Runs.{HoldsSights}
use Rattle.th_reliability.specs.Sights.{in_sights}
use Rattle.th_reliability.specs.declared.sights.Sights.{Sights}

-- what is marked before a place, where nothing is marked from there on
pub record AreMarked (observations : List Observed) (sights : Sights) (i : ℕ) (marks : List Bool) : Type 0 where
  pub each : length marks ≡ length observations
  pub before : (k : ℕ) (d : Observed) → k < i → k < length observations → get_or marks k false ≡ in_sights sights (get_or observations k d)
  pub behind : (k : ℕ) → i ≤ k → get_or marks k false ≡ false

module _ (observations : List Observed) (sights : Sights) where
  same_list : (f : Observed → Bool) (os : List Observed) (ms : List Bool) → length ms ≡ length os → ((k : ℕ) (d : Observed) → k < length os → get_or ms k false ≡ f (get_or os k d)) → ms ≡ map f os
  same_list f [] [] long at = refl
  same_list f [] (m ∷ ms) long at = absurd (omega arith)
  same_list f (o ∷ os) [] long at = absurd (omega arith)
  same_list f (o ∷ os) (m ∷ ms) long at =
      ap (λ (b : Bool). b ∷ ms) (at 0 o (omega arith))
      ∙ ap (λ (bs : List Bool). f o ∷ bs) (same_list f os ms (omega arith) (λ k d h. at (suc k) d (omega arith)))

  pub marks_all : (run : ℕ × ℕ) (i : ℕ) (marks : List Bool) → HoldsSights observations sights run → run.1 ≤ i → AreMarked observations sights i marks → marks ≡ map (in_sights sights) observations
  marks_all run i marks holds past are = same_list (in_sights sights) observations marks are.each (λ k d within. elim (cases_lt k i) [
    | inl less ↦ are.before k d less within
    | inr more ↦ are.behind k more ∙ sym (holds.above k d (omega arith) within)
  ])

  -- the run that holds the sights holds what is marked
  pub run_marked : (run : ℕ × ℕ) (marks : List Bool) → HoldsSights observations sights run → marks ≡ map (in_sights sights) observations → HoldsMarks marks run
  run_marked run marks holds same =
      let long = ap length same ∙ length-map observations (in_sights sights) in
      let at = λ (k : ℕ) (within : k < length observations). ap (λ (all : List Bool). get_or all k false) same ∙ get_or-map (in_sights sights) observations k nowhere false within in
      record {
        ordered = holds.ordered;
        within = let inner = holds.within in omega arith;
        below = λ k h. let order = holds.ordered in let inner = holds.within in at k (omega arith) ∙ holds.below k nowhere h;
        above = λ k h. elim (cases_lt k (length observations)) [
          | inl less ↦ at k less ∙ holds.above k nowhere h less
          | inr more ↦ get_or_past marks k false (omega arith)
        ];
      }
    where
      nowhere : Observed
      nowhere = record { station = []; target = []; difference = pos 0; book = 0; line = 0 }
