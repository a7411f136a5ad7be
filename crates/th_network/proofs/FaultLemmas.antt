-- Observations and benchmarks have one fault at most, and a network has none.
use Rattle.std.proofs.Common.{◌≡◌, ℕ, ◌<◌, List, Some, All, take, slice_get, length-take, unwrap_or, refl, sym, ap, ◌∙◌, subst, arith}
use Rattle.std.proofs.lemmas.Option.{slice_get_within, get_or_from_slice_get}
use Rattle.std.proofs.lemmas.List.{get_or-take}
use Rattle.th_observations.specs.Observed.{Observed}
use Rattle.th_tables.specs.Rows.{BenchmarkRows}
use Rattle.th_points.specs.Points.{points}
use Rattle.th_network.specs.Walks.{IsTied}
use Rattle.th_network.specs.declared.faults.NetFault.{NetFault}
use Rattle.th_network.specs.declared.faults.NetFault.TheVariants.{TooManyObservations, TooManyPoints, NoBenchmark, NoMemory}
use Rattle.th_network.specs.Faults.{IsFirstUntied, HasFault, IsNetwork}

-- what stands at k in a list of which the first n elements have a property, has it if k is below n
at_below : (P : List ℕ → Type 0) (names : List (List ℕ)) (k n : ℕ) (name : List ℕ) → slice_get names k ≡ Some name → k < n → All P (take n names) → P name
at_below P names k n name here below all =
    let within = slice_get_within names k name here in
    subst P (get_or-take n names k name below ∙ get_or_from_slice_get names k name name here) (all k name (omega (arith, length-take n names)))

-- two names without a property, with all before each having it, stand at one place
none_before : (P : List ℕ → Type 0) (names : List (List ℕ)) (j k : ℕ) (first second : List ℕ) → slice_get names j ≡ Some first → slice_get names k ≡ Some second → All P (take j names) → All P (take k names) → ¬ P first → ¬ P second → first ≡ second
none_before P names j k first second at_j at_k below_j below_k not_first not_second =
    let not_later : ¬ (j < k) = λ later. not_first (at_below P names j k first at_j later below_k) in
    let not_earlier : ¬ (k < j) = λ earlier. not_second (at_below P names k j second at_k earlier below_j) in
    let same : j ≡ k = omega arith in
    ap (λ found. unwrap_or found first) (sym at_j ∙ ap (slice_get names) same ∙ at_k)

first_untied_is_one : (observations : List Observed) (benchmarks : BenchmarkRows) (first second : List ℕ) → IsFirstUntied observations benchmarks first → IsFirstUntied observations benchmarks second → first ≡ second
first_untied_is_one observations benchmarks first second p q = none_before (IsTied observations benchmarks) (points observations benchmarks) p.0 q.0 first second p.1 q.1 p.2 q.2 p.3 q.3

pub one_fault : (observations : List Observed) (benchmarks : BenchmarkRows) (first second : NetFault) → HasFault observations benchmarks first → HasFault observations benchmarks second → first ≡ second
one_fault observations benchmarks NoMemory second p q = absurd p
one_fault observations benchmarks TooManyObservations NoMemory p q = absurd q
one_fault observations benchmarks TooManyPoints NoMemory p q = absurd q
one_fault observations benchmarks (NoBenchmark name) NoMemory p q = absurd q
one_fault observations benchmarks TooManyObservations TooManyObservations p q = refl
one_fault observations benchmarks TooManyObservations TooManyPoints p q = absurd (omega arith)
one_fault observations benchmarks TooManyObservations (NoBenchmark name) p q = absurd (omega (arith, q.0))
one_fault observations benchmarks TooManyPoints TooManyObservations p q = absurd (omega arith)
one_fault observations benchmarks TooManyPoints TooManyPoints p q = refl
one_fault observations benchmarks TooManyPoints (NoBenchmark name) p q = absurd (omega (arith, p.1, q.1))
one_fault observations benchmarks (NoBenchmark name) TooManyObservations p q = absurd (omega (arith, p.0))
one_fault observations benchmarks (NoBenchmark name) TooManyPoints p q = absurd (omega (arith, p.1, q.1))
one_fault observations benchmarks (NoBenchmark name) (NoBenchmark other) p q = ap NoBenchmark (first_untied_is_one observations benchmarks name other p.2 q.2)

pub no_fault : (observations : List Observed) (benchmarks : BenchmarkRows) → IsNetwork observations benchmarks → (fault : NetFault) → ¬ HasFault observations benchmarks fault
no_fault observations benchmarks h NoMemory p = p
no_fault observations benchmarks h TooManyObservations p = omega (arith, h.few_observations)
no_fault observations benchmarks h TooManyPoints p = omega (arith, h.few_points)
no_fault observations benchmarks h (NoBenchmark name) p =
    let q = p.2 in
    let within = slice_get_within (points observations benchmarks) q.0 name q.1 in
    q.3 (subst (IsTied observations benchmarks) (get_or_from_slice_get (points observations benchmarks) q.0 name name q.1) (h.anchored q.0 name within))
