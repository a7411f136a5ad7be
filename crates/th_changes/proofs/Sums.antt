-- Changes of a number add up.
use Rattle.std.proofs.Common.{◌≡◌, ℤ, pos, ◌+ℤ◌, ◌*ℤ◌, List, [], ◌∷◌, map, refl, ap, ◌∙◌, arith}
use Rattle.std.proofs.lemmas.Int.{ints}
use Rattle.std.proofs.Math.IntN.{*ℤ_comm}
use Rattle.th_observations.specs.Observed.{Observed}
use Rattle.th_tables.specs.Rows.{BenchmarkRows}
use Rattle.th_network.specs.Networks.{Survey, surveyed}
use Rattle.th_network.proofs.Products.{times-plus}
use Rattle.th_changes.specs.declared.numbers.Number.{Number}
use Rattle.th_changes.specs.Numbers.{share, lift, changed_observation, changed_row, changed}
use Rattle.th_changes.proofs.Changes.{share_same}

pub sum_times : (x y s : ℤ) → x *ℤ s +ℤ y *ℤ s ≡ (x +ℤ y) *ℤ s
sum_times x y s =
    let a = times-plus s x y in
    let b = *ℤ_comm s (x +ℤ y) in
    let c = *ℤ_comm s x in
    let d = *ℤ_comm s y in
    omega (arith, ints)

unchanged : (number : Number) (observations : List Observed) → map (changed_observation number (pos 0)) observations ≡ observations
unchanged number [] = refl
unchanged number (o ∷ observations) = ap (λ d. record o { difference = d } ∷ map (changed_observation number (pos 0)) observations) (none o.difference (share number o)) ∙ ap (λ os. o ∷ os) (unchanged number observations)
  where
    none : (d s : ℤ) → d +ℤ pos 0 *ℤ s ≡ d
    none d s = omega (arith, ints)

unchanged_rows : (number : Number) (rows : BenchmarkRows) → map (changed_row number (pos 0)) rows ≡ rows
unchanged_rows number [] = refl
unchanged_rows number (row ∷ rows) = ap (λ d. (row.0, d) ∷ map (changed_row number (pos 0)) rows) (none row.1 (lift number row.0)) ∙ ap (λ rs. row ∷ rs) (unchanged_rows number rows)
  where
    none : (d s : ℤ) → d +ℤ pos 0 *ℤ s ≡ d
    none d s = omega (arith, ints)

pub changed_by_none : (survey : Survey) (number : Number) → changed number (pos 0) survey ≡ survey
changed_by_none survey number =
    ap (λ os. surveyed os (map (changed_row number (pos 0)) survey.benchmarks) survey.weights) (unchanged number survey.observations)
    ∙ ap (λ rows. surveyed survey.observations rows survey.weights) (unchanged_rows number survey.benchmarks)

added : (number : Number) (x y : ℤ) (observations : List Observed) → map (changed_observation number y) (map (changed_observation number x) observations) ≡ map (changed_observation number (x +ℤ y)) observations
added number x y [] = refl
added number x y (o ∷ observations) = ap (λ d. record o { difference = d } ∷ map (changed_observation number y) (map (changed_observation number x) observations)) (total o.difference (share number o) (share number (changed_observation number x o)) (share_same number number x o)) ∙ ap (λ os. changed_observation number (x +ℤ y) o ∷ os) (added number x y observations)
  where
    total : (d s s' : ℤ) → s' ≡ s → d +ℤ x *ℤ s +ℤ y *ℤ s' ≡ d +ℤ (x +ℤ y) *ℤ s
    total d s s' same =
        let a = sum_times x y s in
        let b = ap (λ z. y *ℤ z) same in
        omega (arith, ints)

added_rows : (number : Number) (x y : ℤ) (rows : BenchmarkRows) → map (changed_row number y) (map (changed_row number x) rows) ≡ map (changed_row number (x +ℤ y)) rows
added_rows number x y [] = refl
added_rows number x y (row ∷ rows) = ap (λ d. (row.0, d) ∷ map (changed_row number y) (map (changed_row number x) rows)) (total row.1 (lift number row.0)) ∙ ap (λ rs. changed_row number (x +ℤ y) row ∷ rs) (added_rows number x y rows)
  where
    total : (d s : ℤ) → d +ℤ x *ℤ s +ℤ y *ℤ s ≡ d +ℤ (x +ℤ y) *ℤ s
    total d s =
        let a = sum_times x y s in
        omega (arith, ints)

pub changed_by_sum : (survey : Survey) (number : Number) (x y : ℤ) → changed number y (changed number x survey) ≡ changed number (x +ℤ y) survey
changed_by_sum survey number x y =
    ap (λ os. surveyed os (map (changed_row number y) (map (changed_row number x) survey.benchmarks)) survey.weights) (added number x y survey.observations)
    ∙ ap (λ rows. surveyed (map (changed_observation number (x +ℤ y)) survey.observations) rows survey.weights) (added_rows number x y survey.benchmarks)
