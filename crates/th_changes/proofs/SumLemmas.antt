-- Sums of the flows before each place.
use Rattle.std.proofs.Common.{◌≡◌, inl, inr, ℕ, ◌+◌, ◌*◌, ◌<◌, ◌≤◌, ℤ, pos, ◌+ℤ◌, ◌-ℤ◌, List, ap, drop, get_or, length, subst, sym, unsigned_abs, ◌∙◌, arith}
use Rattle.std.proofs.lemmas.Bool.{cases_eq}
use Rattle.std.proofs.lemmas.Int.{ints}
use Rattle.std.proofs.lemmas.List.{get_or-drop, get_or-map, get_or-set_other, get_or-set_same, get_or_default, length-drop, length-map, length-set, same_lists}
use Rattle.std.proofs.lemmas.Slice.Zip.{get_or-zip, length-zip}
use Rattle.std.specs.List.{zip}
use Rattle.std.proofs.lemmas.List.Sums.{fold_more}
use Rattle.std.proofs.Math.ListN.{set}
use Rattle.th_network.specs.Limits.{max_observations}
use Rattle.th_tables.specs.Limits.{max_weight}
use Rattle.th_changes.specs.Inside.Sums.{AreSums, flows_of, sum_before, sum_between}

-- sums of the flows before the first places, up to the last of these
pub record AreSumsTo (flows : List ℤ) (last : ℕ) (sums : List ℤ) : Type 0 where
  pub each : length sums ≡ length flows + 1
  pub before : (k : ℕ) → k ≤ last → get_or sums k (pos 0) ≡ sum_before flows k
  pub small : (k : ℕ) → k ≤ last → unsigned_abs (get_or sums k (pos 0)) ≤ max_weight * max_observations

-- a sum of flows, with one more
pub before_more : (flows : List ℤ) (n : ℕ) → n < length flows → sum_before flows (n + 1) ≡ sum_before flows n +ℤ get_or flows n (pos 0)
before_more flows n within = fold_more (λ total flow. total +ℤ flow) (pos 0) flows n (pos 0) within

-- a sum between two places is the difference of the two sums before them
pub between_of : (flows sums : List ℤ) (start end : ℕ) → AreSums flows sums → start ≤ end → end ≤ length flows → get_or sums end (pos 0) -ℤ get_or sums start (pos 0) ≡ sum_between flows start end
between_of flows sums start end are ordered within =
    let first = are.before start (omega arith) in
    let last = are.before end within in
    omega (arith, ints, first, last)

-- one more sum at its place
pub one_more : (flows sums : List ℤ) (n : ℕ) (sum : ℤ) → n < length flows → sum ≡ sum_before flows (n + 1) → unsigned_abs sum ≤ max_weight * max_observations → AreSumsTo flows n sums → AreSumsTo flows (n + 1) (set sums (n + 1) sum)
one_more flows sums n sum within is fits are = record { each = length-set sums (n + 1) sum ∙ are.each; before = before; small = small }
  where
    at : get_or (set sums (n + 1) sum) (n + 1) (pos 0) ≡ sum
    at = get_or-set_same sums (n + 1) sum (pos 0) (let each = are.each in omega (arith, each, within))

    before : (k : ℕ) → k ≤ n + 1 → get_or (set sums (n + 1) sum) k (pos 0) ≡ sum_before flows k
    before k low = elim (cases_eq k (n + 1)) [
      | inl last ↦ ap (λ k. get_or (set sums (n + 1) sum) k (pos 0)) last ∙ at ∙ is ∙ ap (sum_before flows) (sym last)
      | inr other ↦ get_or-set_other sums (n + 1) k sum (pos 0) other ∙ are.before k (omega (arith, other))
    ]

    small : (k : ℕ) → k ≤ n + 1 → unsigned_abs (get_or (set sums (n + 1) sum) k (pos 0)) ≤ max_weight * max_observations
    small k low = elim (cases_eq k (n + 1)) [
      | inl last ↦ subst (λ sum. unsigned_abs sum ≤ max_weight * max_observations) (sym (ap (λ k. get_or (set sums (n + 1) sum) k (pos 0)) last ∙ at)) fits
      | inr other ↦ subst (λ sum. unsigned_abs sum ≤ max_weight * max_observations) (sym (get_or-set_other sums (n + 1) k sum (pos 0) other)) (are.small k (omega (arith, other)))
    ]

-- ---- flows from their sums
-- the flows at the first places are the differences of sums
pub record AreFlowsTo (sums : List ℤ) (last : ℕ) (flows : List ℤ) : Type 0 where
  pub each : length sums ≡ length flows + 1
  pub differ : (k : ℕ) → k < last → get_or flows k (pos 0) ≡ get_or sums (k + 1) (pos 0) -ℤ get_or sums k (pos 0)

-- a flow is the difference of two sums
pub difference_of : (flows sums : List ℤ) (k : ℕ) → AreSums flows sums → k < length flows → get_or sums (k + 1) (pos 0) -ℤ get_or sums k (pos 0) ≡ get_or flows k (pos 0)
difference_of flows sums k are within =
    let before = are.before k (omega arith) in
    let behind = are.before (k + 1) (omega (arith, within)) in
    let more = before_more flows k within in
    omega (arith, ints, before, behind, more)

pub length-flows : (sums : List ℤ) (n : ℕ) → length sums ≡ n + 1 → length (flows_of sums) ≡ n
length-flows sums n all =
    length-map (zip sums (drop 1 sums)) (λ (pair : ℤ × ℤ). pair.1 -ℤ pair.0) ∙ omega (arith, all, length-zip sums (drop 1 sums), length-drop 1 sums)

get_or-flows : (sums : List ℤ) (k : ℕ) → k + 1 < length sums → get_or (flows_of sums) k (pos 0) ≡ get_or sums (k + 1) (pos 0) -ℤ get_or sums k (pos 0)
get_or-flows sums k within =
    let none : ℤ × ℤ = (pos 0, pos 0) in
    let rest = drop 1 sums in
    let there : k < length rest = omega (arith, within, length-drop 1 sums) in
    let next : get_or rest k (pos 0) ≡ get_or sums (k + 1) (pos 0) = get_or-drop 1 sums k (pos 0) ∙ ap (λ k. get_or sums k (pos 0)) (omega arith) in
    get_or-map (λ (pair : ℤ × ℤ). pair.1 -ℤ pair.0) (zip sums rest) k none (pos 0) (omega (arith, within, there, length-zip sums rest))
    ∙ ap (λ (pair : ℤ × ℤ). pair.1 -ℤ pair.0) (get_or-zip sums rest k none (omega (arith, within)) there)
    ∙ ap (λ z. z -ℤ get_or sums k (pos 0)) next

-- what has the differences of sums is the flows that have them
pub written_flows : (sums written : List ℤ) → AreFlowsTo sums (length written) written → written ≡ flows_of sums
written_flows sums written are =
    let long = length-flows sums (length written) are.each in
    same_lists written (flows_of sums) (sym long) (λ k d within.
    get_or_default written k d (pos 0) within ∙ are.differ k within ∙ sym (get_or-flows sums k (omega (arith, within, are.each))) ∙ get_or_default (flows_of sums) k (pos 0) d (omega (arith, within, long)))

-- the flows that have the sums of flows are these
pub flows_of_sums : (flows sums : List ℤ) → AreSums flows sums → flows ≡ flows_of sums
flows_of_sums flows sums are = written_flows sums flows (record { each = are.each; differ = λ k within. sym (difference_of flows sums k are within) })
