-- What flows through the observations of a run.
use Rattle.std.proofs.Common.{◌≡◌, ℕ, zero, suc, ◌+◌, ◌-◌, ◌<◌, ◌≤◌, ℤ, pos, ◌+ℤ◌, ◌*ℤ◌, true, List, [], get_or, length, take, refl, ap, ◌∙◌, sym, arith}
use Rattle.std.proofs.lemmas.Int.{ints}
use Rattle.std.proofs.lemmas.List.{get_or_default}
use Rattle.std.proofs.Math.IntN.{*ℤ-zero, *ℤ_comm}
use Rattle.std.specs.List.{zip}
use Rattle.th_observations.specs.Observed.{Observed}
use Rattle.th_network.specs.Circulation.{total_by}
use Rattle.th_network.specs.Networks.{Survey}
use Rattle.th_network.proofs.Products.{times-plus}
use Rattle.th_changes.specs.declared.numbers.Number.{Number}
use Rattle.th_changes.specs.declared.runs.Run.{Run}
use Rattle.th_changes.specs.Flows.{net}
use Rattle.th_changes.specs.Rerouted.{HoldsNumber}
use Rattle.th_changes.specs.Inside.Sums.{sum_between}
use Rattle.th_changes.specs.Numbers.{sign, touch}
use Rattle.th_changes.proofs.SlopeLemmas.{net_all, net_more, nets}
use Rattle.th_changes.proofs.SumLemmas.{before_more}

nowhere : Observed
nowhere = record { station = []; target = []; difference = pos 0; book = 0; line = 0 }

-- what flows through the first observations
abbrev pub net_to : Number → List Observed → List ℤ → ℕ → ℤ
net_to number observations flows n = total_by (nets number) (take n (zip observations flows))

none_from : (number : Number) (observations : List Observed) (flows : List ℤ) → length flows ≡ length observations → (n m : ℕ) → n + m ≤ length observations → ((k : ℕ) (d : Observed) → n ≤ k → k < n + m → touch number (get_or observations k d) ≡ pos 0) → net_to number observations flows (n + m) ≡ net_to number observations flows n
none_from number observations flows each n zero within none = let here : n + zero ≡ n = omega arith in ap (net_to number observations flows) here
none_from number observations flows each n (suc m) within none =
    let next : n + suc m ≡ n + m + 1 = omega arith in
    let o : Observed = get_or observations (n + m) nowhere in
    let flow : ℤ = get_or flows (n + m) (pos 0) in
    let more = net_more number observations flows (n + m) o flow (omega arith) (omega arith) (sym (get_or_default observations (n + m) o nowhere (omega arith))) refl in
    let nothing = ap (λ z. flow *ℤ z) (none (n + m) nowhere (omega arith) (omega arith)) ∙ *ℤ-zero flow in
    let before = none_from number observations flows each n m (omega arith) (λ k d from to. none k d from (omega arith)) in
    ap (net_to number observations flows) next ∙ omega (arith, ints, more, nothing, before)

pub net_before : (number : Number) (survey : Survey) (flows : List ℤ) (run : Run) → length flows ≡ length survey.observations → HoldsNumber survey.observations number run → pos 0 ≡ net_to number survey.observations flows run.start
net_before number survey flows run each holds =
    sym (none_from number survey.observations flows each 0 run.start (omega (arith, holds.ordered, holds.within)) (λ k d from to. holds.below k d (omega arith)))
    ∙ ap (net_to number survey.observations flows) (omega arith)

pub net_behind : (number : Number) (survey : Survey) (flows : List ℤ) (run : Run) → length flows ≡ length survey.observations → HoldsNumber survey.observations number run → net_to number survey.observations flows run.end ≡ net number survey flows
net_behind number survey flows run each holds =
    let all = length survey.observations in
    sym (none_from number survey.observations flows each run.end (all - run.end) (omega (arith, holds.within)) (λ k d from to. holds.above k d from (omega (arith, holds.within))))
    ∙ net_all number survey flows (run.end + (all - run.end)) each (omega (arith, holds.within))

-- ---- where a run is whole
-- a sum of flows, with one more
pub between_more : (flows : List ℤ) (start n : ℕ) → n < length flows → sum_between flows start (n + 1) ≡ sum_between flows start n +ℤ get_or flows n (pos 0)
between_more flows start n within =
    let more = before_more flows n within in
    omega (arith, ints, more)

-- a factor on the right of a sum
plus_times : (a b c : ℤ) → a *ℤ c +ℤ b *ℤ c ≡ (a +ℤ b) *ℤ c
plus_times a b c = let p = *ℤ_comm a c in let q = *ℤ_comm b c in let r = *ℤ_comm (a +ℤ b) c in let t = times-plus c a b in omega (arith, ints, p, q, r, t)

alike_from : (number : Number) (observations : List Observed) (flows : List ℤ) → length flows ≡ length observations → (n m : ℕ) → n + m ≤ length observations → ((k : ℕ) (d : Observed) → n ≤ k → k < n + m → touch number (get_or observations k d) ≡ sign number) → net_to number observations flows (n + m) ≡ net_to number observations flows n +ℤ sum_between flows n (n + m) *ℤ sign number
alike_from number observations flows each n zero within alike =
    let here : n + zero ≡ n = omega arith in
    let none : sum_between flows n (n + zero) ≡ pos 0 = ap (sum_between flows n) here ∙ omega (arith, ints) in
    let nothing : sum_between flows n (n + zero) *ℤ sign number ≡ pos 0 = ap (λ z. z *ℤ sign number) none ∙ *ℤ_comm (pos 0) (sign number) ∙ *ℤ-zero (sign number) in
    ap (net_to number observations flows) here ∙ omega (arith, ints, nothing)
alike_from number observations flows each n (suc m) within alike =
    let next : n + suc m ≡ n + m + 1 = omega arith in
    let o : Observed = get_or observations (n + m) nowhere in
    let flow : ℤ = get_or flows (n + m) (pos 0) in
    let more = net_more number observations flows (n + m) o flow (omega arith) (omega arith) (sym (get_or_default observations (n + m) o nowhere (omega arith))) refl in
    let own = ap (λ z. flow *ℤ z) (alike (n + m) nowhere (omega arith) (omega arith)) in
    let before = alike_from number observations flows each n m (omega arith) (λ k d from to. alike k d from (omega arith)) in
    let sums = between_more flows n (n + m) (omega arith) in
    let whole : sum_between flows n (n + suc m) *ℤ sign number ≡ sum_between flows n (n + m) *ℤ sign number +ℤ flow *ℤ sign number = ap (λ k. sum_between flows n k *ℤ sign number) next ∙ ap (λ z. z *ℤ sign number) sums ∙ sym (plus_times (sum_between flows n (n + m)) flow (sign number)) in
    ap (net_to number observations flows) next ∙ omega (arith, ints, more, own, before, whole)

pub net_of_whole : (number : Number) (survey : Survey) (flows : List ℤ) (run : Run) → length flows ≡ length survey.observations → HoldsNumber survey.observations number run → run.is_whole ≡ true → net number survey flows ≡ sum_between flows run.start run.end *ℤ sign number
net_of_whole number survey flows run each holds whole =
    let size : run.start + (run.end - run.start) ≡ run.end = omega (arith, holds.ordered) in
    let inside = alike_from number survey.observations flows each run.start (run.end - run.start) (omega (arith, holds.ordered, holds.within)) (λ k d from to. holds.alike whole k d from (omega (arith, holds.ordered))) in
    let before = net_before number survey flows run each holds in
    let to_end = ap (λ k. net_to number survey.observations flows k) size in
    let sums = ap (λ k. sum_between flows run.start k *ℤ sign number) size in
    sym (net_behind number survey flows run each holds) ∙ omega (arith, ints, inside, before, to_end, sums)
