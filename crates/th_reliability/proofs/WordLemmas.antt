-- What a shared mistake does, from its word alone.
use Rattle.std.proofs.Common.{◌≡◌, ℕ, zero, suc, Bool, ◌≤◌, ℤ, pos, negsuc, List, All, ◌⊎◌, inl, inr, refl, ◌∙◌, subst, arith}
use Rattle.std.proofs.lemmas.Int.{ints}
use Rattle.th_observations.specs.Observed.{Observed}
use Rattle.th_network.specs.Heights.{Least, residual}
use Rattle.th_network.specs.Networks.{Survey, points_of}
use Rattle.th_reliability.specs.Blunders.{weight_in}
use Rattle.th_reliability.specs.Groups.{IsGroupControl}
use Rattle.th_reliability.specs.SharedMistakes.{IsFreeWithPoint, IsLeastSet, IsOutweighed, IsSharedMistake, own, rest, shared_mistake_of}
use Rattle.th_reliability.specs.declared.mistakes.SharedMistake.{SharedMistake}
use Rattle.th_reliability.specs.declared.mistakes.SharedMistake.TheVariants.{Shows, Ties, Drags, Unchecked}
use Rattle.th_reliability.specs.Fits.{AllElseFits, ErrAlike}
use Rattle.th_reliability.specs.Moves.{IsMovable}
use Rattle.th_reliability.proofs.ControlLemmas.{HasNone, control_or_none, has_control}
use Rattle.th_reliability.proofs.GroupLemmas.{not_shared, same_residuals, shown_by_sets}
use Rattle.th_reliability.proofs.GroupTieLemmas.{stays_least}
use Rattle.th_reliability.proofs.SharedLemmas.{decided_by_control, outweighs, shown_without_points}

-- the weight of a group
abbrev weight : Survey → (Observed → Bool) → ℕ
weight survey group = weight_in survey.observations survey.weights group

abbrev IsControl : Survey → (Observed → Bool) → ℕ → Type 0
IsControl survey group control = IsGroupControl survey.observations survey.benchmarks survey.weights group control

-- each group has a word
pub some_word : (survey : Survey) (group : Observed → Bool) → (mistake : SharedMistake) × IsSharedMistake survey group mistake
some_word survey group = by (control_or_none survey.observations survey.benchmarks survey.weights group)
  where
    by : ((control : ℕ) × IsControl survey group control) ⊎ HasNone survey.observations survey.benchmarks → (mistake : SharedMistake) × IsSharedMistake survey group mistake
    by (inl (control, is)) = (shared_mistake_of control (weight survey group), decided_by_control survey group control is)
    by (inr none) = (Shows, shown_without_points survey group (λ inside is. none inside is.point.0 is.free is.point.1 is.point.2))

pub shown : (survey : Survey) (truth heights : List ℕ → ℤ) (group : Observed → Bool) → IsSharedMistake survey group Shows → AllElseFits survey group truth → Least survey.observations survey.benchmarks survey.weights heights → All (λ point. heights point ≡ truth point) (points_of survey) × All (λ o. residual o heights ≡ residual o truth) survey.observations
shown survey truth heights group word all = shown_by_sets survey.observations survey.benchmarks survey.weights truth heights group (λ inside point free listed there. word inside (record { free = free; point = (point, listed, there) })) all.kept all.fit

-- where it shows or ties, the group never outweighs the others
light : (survey : Survey) (group : Observed → Bool) (mistake : SharedMistake) → IsSharedMistake survey group mistake → (mistake ≡ Shows) ⊎ (mistake ≡ Ties) → (inside : List ℕ → Bool) → IsFreeWithPoint survey inside → own survey group inside ≤ rest survey group inside
light survey group mistake word (inl shows) inside is = let less = subst (IsSharedMistake survey group) shows word inside is in omega arith
light survey group mistake word (inr ties) inside is = (subst (IsSharedMistake survey group) ties word).0 inside is

pub least : (survey : Survey) (truth : List ℕ → ℤ) (group : Observed → Bool) (mistake : SharedMistake) → IsSharedMistake survey group mistake → (mistake ≡ Shows) ⊎ (mistake ≡ Ties) → AllElseFits survey group truth → Least survey.observations survey.benchmarks survey.weights truth
least survey truth group mistake word either = stays_least survey truth group (light survey group mistake word either)

-- where it drags or nothing checks it, best heights leave no error that the sights share
not_alike : (survey : Survey) (heights : List ℕ → ℤ) (group : Observed → Bool) (station : List ℕ) (error : ℤ) → ((inside : List ℕ → Bool) × IsOutweighed survey group inside) → ErrAlike survey group station error heights → Least survey.observations survey.benchmarks survey.weights heights → (error ≡ pos 0 → ⊥) → ⊥
not_alike survey heights group station error (inside, heavy) alike = not_shared survey.observations survey.benchmarks survey.weights heights group inside station error heavy.is.free heavy.less alike.from alike.err

pub agrees : (survey : Survey) (heights : List ℕ → ℤ) (group : Observed → Bool) (mistake : SharedMistake) (station : List ℕ) (error : ℤ) → IsSharedMistake survey group mistake → (mistake ≡ Drags) ⊎ (mistake ≡ Unchecked) → ErrAlike survey group station error heights → Least survey.observations survey.benchmarks survey.weights heights → error ≡ pos 0
agrees survey heights group mistake station error word either alike best = by error refl
  where
    no : (error ≡ pos 0 → ⊥) → ⊥
    no = not_alike survey heights group station error (outweighs survey group mistake word either) alike best

    by : (z : ℤ) → error ≡ z → error ≡ pos 0
    by (pos zero) e = e
    by (pos (suc n)) e = absurd (no (λ zero. omega (arith, ints)))
    by (negsuc n) e = absurd (no (λ zero. omega (arith, ints)))

pub drags : (survey : Survey) (truth heights : List ℕ → ℤ) (group : Observed → Bool) (mistake : SharedMistake) (station : List ℕ) (error : ℤ) → IsSharedMistake survey group mistake → (mistake ≡ Drags) ⊎ (mistake ≡ Unchecked) → ErrAlike survey group station error truth → (error ≡ pos 0 → ⊥) → Least survey.observations survey.benchmarks survey.weights heights → All (λ point. heights point ≡ truth point) (points_of survey) → ⊥
drags survey truth heights group mistake station error word either alike some best same = some (agrees survey heights group mistake station error word either (record { from = alike.from; err = λ k d within own. same_residuals survey.observations survey.benchmarks truth heights same k d within ∙ alike.err k d within own }) best)

-- ---- a least set, and where the group cuts no less than the others
pub found : (survey : Survey) (group : Observed → Bool) (inside : List ℕ → Bool) → IsFreeWithPoint survey inside → (other : List ℕ → Bool) × IsLeastSet survey group other
found survey group inside is = of (has_control survey.observations survey.benchmarks survey.weights group inside is.point.0 is.free is.point.1 is.point.2)
  where
    of : (control : ℕ) × IsControl survey group control → (other : List ℕ → Bool) × IsLeastSet survey group other
    of (control, has) = (
      has.reached.0,
      record {
        is = record { free = has.reached.1; point = has.reached.2 };
        least = λ other free. let low = has.least other free.point.0 free.free free.point.1 free.point.2 in let at = has.reached.3 in omega arith;
      },
    )

unshown : (survey : Survey) (group : Observed → Bool) (mistake : SharedMistake) (inside : List ℕ → Bool) → IsLeastSet survey group inside → IsSharedMistake survey group mistake → (mistake ≡ Shows → ⊥) → rest survey group inside ≤ own survey group inside
unshown survey group Shows inside is word other = absurd (other refl)
unshown survey group Ties inside is word other = let low = is.least word.1.0 word.1.1 in let even = word.1.2 in omega arith
unshown survey group Drags inside is word other = let low = is.least word.0.0 word.0.1.is in let more = word.0.1.less in omega arith
unshown survey group Unchecked inside is word other = let low = is.least word.0 word.1.is.is in let more = word.1.is.less in omega arith

pub movable : (survey : Survey) (group : Observed → Bool) (mistake : SharedMistake) (inside : List ℕ → Bool) → IsLeastSet survey group inside → IsSharedMistake survey group mistake → (mistake ≡ Shows → ⊥) → IsMovable survey group inside
movable survey group mistake inside is word other = record { is = is; light = unshown survey group mistake inside is word other }
