-- What a cost and its slope at one change say of all other changes.
use Rattle.std.proofs.Common.{◌≡◌, ℕ, zero, suc, ◌+◌, ◌<◌, ◌≤◌, ℤ, pos, negsuc, ◌+ℤ◌, ◌-ℤ◌, ◌*ℤ◌, ◌≤ℤ◌, ◌<ℤ◌, List, get_or, length, take, unsigned_abs, refl, ap, ◌∙◌, sym, subst, arith}
use Rattle.std.proofs.lemmas.Int.{ints}
use Rattle.std.proofs.lemmas.List.{length-map, take_all}
use Rattle.std.proofs.lemmas.List.Sums.{fold_more}
use Rattle.std.proofs.lemmas.Slice.Zip.{get_or-zip, length-zip}
use Rattle.std.specs.List.{zip}
use Rattle.std.proofs.Math.IntN.{*ℤ_comm}
use Rattle.th_observations.specs.Observed.{Observed}
use Rattle.th_network.specs.Circulation.{Shows, total_by}
use Rattle.th_network.specs.Networks.{AreOfObservations, Survey, at_points_of}
use Rattle.th_network.proofs.Products.{times-minus}
use Rattle.th_changes.specs.declared.numbers.Number.{Number}
use Rattle.th_changes.specs.Flows.{Circulates, net, value}
use Rattle.th_changes.specs.Freed.{Costs, IsFreed, IsProposed, Keeps, cost_of}
use Rattle.th_changes.specs.Numbers.{changed, touch}
use Rattle.th_changes.specs.Slopes.{IsSlopedAt}
use Rattle.th_circulation.specs.Best.{Best, IsBest}
use Rattle.th_changes.specs.Tilted.{tilted, tilted_observation}
use Rattle.th_changes.proofs.Changes.{keeps_raised, raised}
use Rattle.th_changes.proofs.TiltLemmas.{circulation_tilted, cost_moved, shows_moved}
use Rattle.th_changes.proofs.Bounds.{bounds, high_product, low_product, same_freed, shown_value}

-- ---- a circulation that shows heights is a slope
sloped_sum : (v x y n : ℤ) (total most : ℕ) → v +ℤ x *ℤ n ≡ pos total → unsigned_abs (v +ℤ y *ℤ n) ≤ most → (pos total +ℤ (y -ℤ x) *ℤ n) ≤ℤ pos most
sloped_sum v x y n total most equal bound =
    let a = *ℤ_comm (y -ℤ x) n in
    let b = times-minus n y x in
    let c = *ℤ_comm n y in
    let d = *ℤ_comm n x in
    omega (arith, ints)

pub sloped_by : (survey : Survey) (number : Number) (x : ℤ) (heights : List ℕ → ℤ) (flows : List ℤ) → Circulates survey flows → Keeps (changed number x survey) heights → Shows (changed number x survey).observations survey.weights flows heights → IsSlopedAt survey number x (cost_of (changed number x survey) heights) (net number survey flows)
sloped_by survey number x heights flows circulation kept shown = record {
  reached = (heights, kept, refl);
  bounds = λ y others others_kept. sloped_sum (value survey flows) x y (net number survey flows) (cost_of (changed number x survey) heights) (cost_of (changed number y survey) others)
      (shown_value survey number flows x heights circulation kept shown) (bounds survey number flows y others circulation others_kept);
}

-- ---- on either side of a change
bound_of : (survey : Survey) (number : Number) (x y : ℤ) (total cost : ℕ) (slope : ℤ) → IsSlopedAt survey number x total slope → Costs survey number y cost → (pos total +ℤ (y -ℤ x) *ℤ slope) ≤ℤ pos cost
bound_of survey number x y total cost slope sloped (heights, kept, same) =
    let most = sloped.bounds y heights kept in
    omega (arith, ints)

-- products of two numbers on one side of zero
pub both_below : (a n : ℤ) → a ≤ℤ pos 0 → n ≤ℤ pos 0 → pos 0 ≤ℤ (a *ℤ n)
both_below (pos zero) n less under = omega (arith, ints)
both_below (pos (suc a)) n less under = absurd (omega (arith, ints))
both_below (negsuc a) (pos zero) less under = omega (arith, ints)
both_below (negsuc a) (pos (suc n)) less under = absurd (omega (arith, ints))
both_below (negsuc a) (negsuc n) less under =
    let product = low_product (negsuc a) (negsuc n) (omega (arith, ints)) (omega (arith, ints)) in
    omega (arith, ints)

pub both_above : (a n : ℤ) → pos 0 ≤ℤ a → pos 0 ≤ℤ n → pos 0 ≤ℤ (a *ℤ n)
both_above (negsuc a) n more over = absurd (omega (arith, ints))
both_above (pos zero) n more over = omega (arith, ints)
both_above (pos (suc a)) (negsuc n) more over = absurd (omega (arith, ints))
both_above (pos (suc a)) (pos zero) more over = omega (arith, ints)
both_above (pos (suc a)) (pos (suc n)) more over =
    let product = high_product (pos (suc a)) (pos (suc n)) (omega (arith, ints)) (omega (arith, ints)) in
    omega (arith, ints)

pub left_of : (survey : Survey) (number : Number) (x y : ℤ) (total cost : ℕ) (slope : ℤ) → IsSlopedAt survey number x total slope → slope ≤ℤ pos 0 → y ≤ℤ x → Costs survey number y cost → total ≤ cost
left_of survey number x y total cost slope sloped under before costs =
    let most = bound_of survey number x y total cost slope sloped costs in
    let product = both_below (y -ℤ x) slope (omega (arith, ints)) under in
    omega (arith, ints)

pub left_of_more : (survey : Survey) (number : Number) (x y : ℤ) (total cost : ℕ) (slope : ℤ) → IsSlopedAt survey number x total slope → slope <ℤ pos 0 → y <ℤ x → Costs survey number y cost → total < cost
left_of_more survey number x y total cost slope sloped under before costs =
    let most = bound_of survey number x y total cost slope sloped costs in
    let product = low_product (y -ℤ x) slope (omega (arith, ints)) under in
    omega (arith, ints)

pub right_of : (survey : Survey) (number : Number) (x y : ℤ) (total cost : ℕ) (slope : ℤ) → IsSlopedAt survey number x total slope → pos 0 ≤ℤ slope → x ≤ℤ y → Costs survey number y cost → total ≤ cost
right_of survey number x y total cost slope sloped over behind costs =
    let most = bound_of survey number x y total cost slope sloped costs in
    let product = both_above (y -ℤ x) slope (omega (arith, ints)) over in
    omega (arith, ints)

pub right_of_more : (survey : Survey) (number : Number) (x y : ℤ) (total cost : ℕ) (slope : ℤ) → IsSlopedAt survey number x total slope → pos 0 <ℤ slope → x <ℤ y → Costs survey number y cost → total < cost
right_of_more survey number x y total cost slope sloped over behind costs =
    let most = bound_of survey number x y total cost slope sloped costs in
    let product = high_product (y -ℤ x) slope (omega (arith, ints)) over in
    omega (arith, ints)

pub flat_least : (survey : Survey) (number : Number) (x y : ℤ) (total cost : ℕ) (slope : ℤ) → IsSlopedAt survey number x total slope → slope ≡ pos 0 → Costs survey number y cost → total ≤ cost
flat_least survey number x y total cost slope sloped none costs = by (y -ℤ x) refl
  where
    by : (gap : ℤ) → y -ℤ x ≡ gap → total ≤ cost
    by (pos n) e = right_of survey number x y total cost slope sloped (omega (arith, ints)) (omega (arith, ints)) costs
    by (negsuc n) e = left_of survey number x y total cost slope sloped (omega (arith, ints)) (omega (arith, ints)) costs

-- a change that costs more than one to the right of it has a slope below zero
pub falls_to : (survey : Survey) (number : Number) (x y : ℤ) (total cost : ℕ) (slope : ℤ) → IsSlopedAt survey number x total slope → x ≤ℤ y → Costs survey number y cost → cost < total → slope <ℤ pos 0
falls_to survey number x y total cost (negsuc n) sloped behind costs less = omega (arith, ints)
falls_to survey number x y total cost (pos n) sloped behind costs less =
    let most = right_of survey number x y total cost (pos n) sloped (omega (arith, ints)) behind costs in
    absurd (omega arith)

pub rises_from : (survey : Survey) (number : Number) (x y : ℤ) (total cost : ℕ) (slope : ℤ) → IsSlopedAt survey number x total slope → y ≤ℤ x → Costs survey number y cost → cost < total → pos 0 <ℤ slope
rises_from survey number x y total cost (pos (suc n)) sloped before costs less = omega (arith, ints)
rises_from survey number x y total cost (pos zero) sloped before costs less =
    let most = left_of survey number x y total cost (pos zero) sloped (omega (arith, ints)) before costs in
    absurd (omega arith)
rises_from survey number x y total cost (negsuc n) sloped before costs less =
    let most = left_of survey number x y total cost (negsuc n) sloped (omega (arith, ints)) before costs in
    absurd (omega arith)

-- ---- the least cost
pub freed_of : (survey : Survey) (number : Number) (x : ℤ) (total : ℕ) → Costs survey number x total → ((y : ℤ) (cost : ℕ) → Costs survey number y cost → total ≤ cost) → IsFreed survey number total
freed_of survey number x total reached least = record {
  reached = (x, reached);
  least = λ y heights kept. least y (cost_of (changed number y survey) heights) (heights, kept, refl);
}

pub freed_costs : (survey : Survey) (number : Number) (x : ℤ) (total cost : ℕ) → IsFreed survey number total → Costs survey number x cost → total ≤ cost
freed_costs survey number x total cost freed (heights, kept, same) =
    let least = freed.least x heights kept in
    omega arith

pub proposed_of : (survey : Survey) (number : Number) (x : ℤ) (total : ℕ) → IsFreed survey number total → Costs survey number x total → IsProposed survey number x
proposed_of survey number x total freed reached = record { freed = total; is_freed = freed; reached = reached }

pub costs_of : (survey : Survey) (number : Number) (x : ℤ) (total : ℕ) → IsFreed survey number total → IsProposed survey number x → Costs survey number x total
costs_of survey number x total freed proposed = subst (Costs survey number x) (same_freed survey number proposed.freed total proposed.is_freed freed) proposed.reached

-- ---- slopes of best heights
pub slope_of_best : (survey : Survey) (number : Number) (x : ℤ) (best : Best) → IsBest (tilted number x survey) best → IsSlopedAt survey number x (cost_of (tilted number x survey) (at_points_of (tilted number x survey) best.low)) (net number survey best.flows)
slope_of_best survey number x best own =
    let heights = at_points_of (tilted number x survey) best.low in
    let circulation = circulation_tilted number x survey.observations survey.benchmarks survey.weights best.flows own.circulation in
    let kept = keeps_raised survey number x heights own.low.best.kept in
    let shown = shows_moved number x survey.weights heights survey.observations best.flows own.shows_low in
    subst (λ total. IsSlopedAt survey number x total (net number survey best.flows)) (sym (cost_moved number x survey.weights heights survey.observations))
    (sloped_by survey number x (raised number x heights) best.flows circulation kept shown)

pub as_many_flows : (survey : Survey) (number : Number) (x : ℤ) (flows : List ℤ) → AreOfObservations (tilted number x survey) flows → AreOfObservations survey flows
as_many_flows survey number x flows own = record {
  each = own.each ∙ length-map survey.observations (tilted_observation number x);
  in_range = own.in_range;
}

-- the net of one more observation
abbrev pub nets : Number → Observed × ℤ → ℤ
nets number pair = pair.1 *ℤ touch number pair.0

pub net_more : (number : Number) (observations : List Observed) (flows : List ℤ) (i : ℕ) (o : Observed) (flow : ℤ) → i < length observations → i < length flows → o ≡ get_or observations i o → flow ≡ get_or flows i (pos 0) → total_by (nets number) (take (i + 1) (zip observations flows)) ≡ total_by (nets number) (take i (zip observations flows)) +ℤ flow *ℤ touch number o
net_more number observations flows i o flow within there same equal =
    let pairs = zip observations flows in
    let at : get_or pairs i (o, pos 0) ≡ (o, flow) = get_or-zip observations flows i (o, pos 0) within there ∙ ap (λ (a : Observed). (a, get_or flows i (pos 0))) (sym same) ∙ ap (λ (b : ℤ). (o, b)) (sym equal) in
    fold_more (λ total pair. total +ℤ nets number pair) (pos 0) pairs i (o, pos 0) (omega (arith, length-zip observations flows))
    ∙ ap (λ (pair : Observed × ℤ). total_by (nets number) (take i pairs) +ℤ nets number pair) at

pub net_all : (number : Number) (survey : Survey) (flows : List ℤ) (i : ℕ) → length flows ≡ length survey.observations → length survey.observations ≤ i → total_by (nets number) (take i (zip survey.observations flows)) ≡ net number survey flows
net_all number survey flows i each over = ap (total_by (nets number)) (take_all i (zip survey.observations flows) (omega (arith, length-zip survey.observations flows)))
