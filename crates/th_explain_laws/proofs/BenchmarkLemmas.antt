-- A benchmark is freed where its row is left out.
use Rattle.std.proofs.Common.{◌≡◌, ℕ, Bool, true, false, ℤ, pos, ◌+ℤ◌, ◌-ℤ◌, ◌*ℤ◌, List, [], ◌∷◌, Some, None, bytes_eq, if◌then◌else◌, map, refl, ap, ◌∙◌, sym, subst, arith}
use Rattle.std.proofs.lemmas.Int.{ints}
use Rattle.std.proofs.lemmas.Slice.Eq.{bytes_eq-Decides}
use Rattle.std.proofs.Math.Path.{fun_ext}
use Rattle.th_observations.specs.Observed.{Observed}
use Rattle.th_tables.specs.Rows.{BenchmarkRows, height_of}
use Rattle.th_network.specs.Heights.{IsHeights, Least, cost}
use Rattle.th_network.specs.Networks.{Survey}
use Rattle.th_changes.specs.declared.numbers.Number.{Number}
use Rattle.th_changes.specs.declared.numbers.Number.TheVariants.{Benchmark}
use Rattle.th_changes.specs.Numbers.{changed_observation, changed}
use Rattle.th_changes.specs.Freed.{Costs, IsFreed, IsProposed, Keeps, cost_of}
use Rattle.th_explain_laws.specs.Parted.{IsWithoutRow}
use Rattle.th_changes.proofs.Changes.{lowered, raised, keeps_lowered, keeps_raised}

unshared : (name : List ℕ) (x : ℤ) (observations : List Observed) → map (changed_observation (Benchmark name) x) observations ≡ observations
unshared name x [] = refl
unshared name x (o ∷ observations) = ap (λ d. record o { difference = d } ∷ map (changed_observation (Benchmark name) x) observations) (none o.difference) ∙ ap (λ os. o ∷ os) (unshared name x observations)
  where
    none : (d : ℤ) → d +ℤ x *ℤ pos 0 ≡ d
    none d = omega (arith, ints)

raised_lowered : (number : Number) (x : ℤ) (heights : List ℕ → ℤ) → raised number x (lowered number x heights) ≡ heights
raised_lowered number x heights = fun_ext (λ name. omega (arith, ints))

none_some : (height : ℤ) → None ≡ Some height → ⊥
none_some height e = absurd (grind arith)

module _ (survey : Survey) (name : List ℕ) (fewer : BenchmarkRows) (without : IsWithoutRow survey.benchmarks name fewer) where
  same_cost : (y : ℤ) (others : List ℕ → ℤ) → cost_of (changed (Benchmark name) y survey) others ≡ cost survey.observations survey.weights others
  same_cost y others = ap (λ os. cost os survey.weights others) (unshared name y survey.observations)

  lowered_keeps : (heights : List ℕ → ℤ) → IsHeights fewer heights → Keeps survey (lowered (Benchmark name) (heights name -ℤ without.given) heights)
  lowered_keeps heights kept n height listed = by (bytes_eq name n) refl (bytes_eq-Decides name n).0
    where
      by : (b : Bool) → bytes_eq name n ≡ b → (b ≡ true → name ≡ n) → heights n -ℤ (heights name -ℤ without.given) *ℤ (if b then pos 1 else pos 0) ≡ height
      by true e same =
          let at : heights name ≡ heights n = ap heights (same refl) in
          let is : Some without.given ≡ Some height = sym without.listed ∙ ap (height_of survey.benchmarks) (same refl) ∙ listed in
          let value : without.given ≡ height = grind arith in
          omega (arith, ints)
      by false e same =
          let at = kept n height (without.others n e ∙ listed) in
          omega (arith, ints)

  keeps_fewer : (y : ℤ) (others : List ℕ → ℤ) → Keeps survey (lowered (Benchmark name) y others) → IsHeights fewer others
  keeps_fewer y others kept n height listed = by (bytes_eq name n) refl (bytes_eq-Decides name n).0 (kept n)
    where
      by : (b : Bool) → bytes_eq name n ≡ b → (b ≡ true → name ≡ n) → ((h : ℤ) → height_of survey.benchmarks n ≡ Some h → others n -ℤ y *ℤ (if b then pos 1 else pos 0) ≡ h) → others n ≡ height
      by true e same at = absurd (none_some height (sym without.gone ∙ ap (height_of fewer) (same refl) ∙ listed))
      by false e same at =
          let value = at height (sym (without.others n e) ∙ listed) in
          omega (arith, ints)

  -- heights without the row are heights with the change that gives the benchmark its height in them
  reached_at : (heights : List ℕ → ℤ) → IsHeights fewer heights → Costs survey (Benchmark name) (heights name -ℤ without.given) (cost survey.observations survey.weights heights)
  reached_at heights kept =
      let x = heights name -ℤ without.given in
      (heights, subst (Keeps (changed (Benchmark name) x survey)) (raised_lowered (Benchmark name) x heights) (keeps_raised survey (Benchmark name) x (lowered (Benchmark name) x heights) (lowered_keeps heights kept)), same_cost x heights)

  pub row_left_out : (heights : List ℕ → ℤ) → Least survey.observations fewer survey.weights heights → IsFreed survey (Benchmark name) (cost survey.observations survey.weights heights)
  row_left_out heights best = record {
    reached = (heights name -ℤ without.given, reached_at heights best.kept);
    least = λ y others kept.
        let less = best.least others (keeps_fewer y others (keeps_lowered survey (Benchmark name) y others kept)) in
        let same = same_cost y others in
        omega arith;
  }

  -- ---- what is proposed for it is what best heights without its row say
  pub proposed_at_best : (heights : List ℕ → ℤ) → Least survey.observations fewer survey.weights heights → IsProposed survey (Benchmark name) (heights name -ℤ without.given)
  proposed_at_best heights best = record {
    freed = cost survey.observations survey.weights heights;
    is_freed = row_left_out heights best;
    reached = reached_at heights best.kept;
  }

  own_height : (x : ℤ) (heights : List ℕ → ℤ) → Keeps survey (lowered (Benchmark name) x heights) → heights name ≡ without.given +ℤ x
  own_height x heights kept = by (bytes_eq name name) (bytes_eq-Decides name name).1 (kept name without.given without.listed)
    where
      by : (b : Bool) → (name ≡ name → b ≡ true) → heights name -ℤ x *ℤ (if b then pos 1 else pos 0) ≡ without.given → heights name ≡ without.given +ℤ x
      by true e at = omega (arith, ints)
      by false e at = absurd (clash (e refl))
        where
          clash : false ≡ true → ⊥
          clash same = absurd (grind arith)

  pub best_of_proposed : (x : ℤ) → IsProposed survey (Benchmark name) x → (heights : List ℕ → ℤ) × Least survey.observations fewer survey.weights heights × (heights name ≡ without.given +ℤ x)
  best_of_proposed x is = by is.reached
    where
      by : Costs survey (Benchmark name) x is.freed → (heights : List ℕ → ℤ) × Least survey.observations fewer survey.weights heights × (heights name ≡ without.given +ℤ x)
      by (heights, keeps, costs) =
          let before = keeps_lowered survey (Benchmark name) x heights keeps in
          let own = same_cost x heights in (
            heights,
            record {
              kept = keeps_fewer x heights before;
              least = λ others kept.
                  let (all, all_keep, all_cost) = reached_at others kept in
                  let less = is.is_freed.least (others name -ℤ without.given) all all_keep in
                  omega arith;
            },
            own_height x heights before,
          )
