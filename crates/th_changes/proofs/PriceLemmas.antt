-- What a survey costs at heights of the vertices, if a number grows by so much.
use Rattle.std.proofs.Common.{◌≡◌, ℕ, ◌+◌, ◌*◌, ◌<◌, ℤ, pos, ◌+ℤ◌, ◌-ℤ◌, ◌*ℤ◌, List, [], ◌∷◌, ◌++◌, get_or, length, map, sum_by, take, unsigned_abs, refl, ap, ◌∙◌, sym, arith}
use Rattle.std.proofs.lemmas.Int.{ints}
use Rattle.std.proofs.lemmas.List.{take_more}
use Rattle.std.proofs.lemmas.List.Sums.{sum_by-append, sum_by-cons}
use Rattle.th_observations.specs.Observed.{Observed}
use Rattle.th_tables.specs.Rows.{WeightRows, weight_of}
use Rattle.th_network.specs.Heights.{cost, residual}
use Rattle.th_network.specs.Links.{link_of}
use Rattle.th_network.specs.Networks.{Survey}
use Rattle.th_network.specs.declared.links.Link.{Link}
use Rattle.th_changes.specs.declared.numbers.Number.{Number}
use Rattle.th_changes.specs.Freed.{Costs}
use Rattle.th_changes.specs.Lines.{IsLine}
use Rattle.th_changes.specs.Rerouted.{heights_over, priced}
use Rattle.th_changes.specs.declared.lines.Line.{Line}
use Rattle.th_changes.specs.Tilted.{tilted_observation}
use Rattle.th_changes.specs.Numbers.{touch}
use Rattle.th_changes.specs.Slopes.{IsSlopedAt}
use Rattle.th_changes.proofs.Changes.{keeps_raised, raised}
use Rattle.th_changes.proofs.ReroutedLemmas.{lifted_kept, minus_times}
use Rattle.th_changes.proofs.TiltLemmas.{cost_moved}

pub nowhere : Observed
nowhere = record { station = []; target = []; difference = pos 0; book = 0; line = 0 }

-- one observation
pub residual_over : (survey : Survey) (number : Number) (x : ℤ) (levels : List ℤ) (o : Observed) (link : Link) → link ≡ link_of survey.observations survey.benchmarks o
    → residual (tilted_observation number x o) (heights_over survey levels) ≡ link.diff +ℤ x *ℤ touch number o -ℤ (get_or levels link.head (pos 0) -ℤ get_or levels link.tail (pos 0))
residual_over survey number x levels o link is =
    let diff = ap (λ (l : Link). l.diff) is in
    let low = ap (λ (l : Link). get_or levels l.tail (pos 0)) is in
    let high = ap (λ (l : Link). get_or levels l.head (pos 0)) is in
    omega (arith, ints)

pub price_of : (survey : Survey) (number : Number) (x : ℤ) (levels : List ℤ) (o : Observed) (link : Link) (price weight : ℕ) (r : ℤ) → link ≡ link_of survey.observations survey.benchmarks o
    → r ≡ link.diff +ℤ x *ℤ touch number o -ℤ (get_or levels link.head (pos 0) -ℤ get_or levels link.tail (pos 0)) → weight ≡ weight_of survey.weights o.station o.target → price ≡ weight * unsigned_abs r → price ≡ priced survey number x levels o
price_of survey number x levels o link price weight r is difference weighs product =
    product ∙ ap (λ (w : ℕ). w * unsigned_abs r) weighs
    ∙ ap (λ (z : ℤ). weight_of survey.weights o.station o.target * unsigned_abs z) (difference ∙ sym (residual_over survey number x levels o link is))

-- and one more
pub price_more : (f : Observed → ℕ) (observations : List Observed) (i : ℕ) (o : Observed) → i < length observations → o ≡ get_or observations i o → sum_by f (take (i + 1) observations) ≡ sum_by f (take i observations) + f o
price_more f observations i o within here =
    let more = ap (sum_by f) (take_more observations i o within ∙ ap (λ (v : Observed). take i observations ++ v ∷ []) (sym here)) in
    let parts = sum_by-append f (take i observations) (o ∷ []) in
    let last = sum_by-cons f o [] in
    let none : sum_by f [] ≡ 0 = refl in
    omega (arith, more, parts, last, none)

-- all of them
tilted_sum : (number : Number) (x : ℤ) (weights : WeightRows) (heights : List ℕ → ℤ) (observations : List Observed) → cost (map (tilted_observation number x) observations) weights heights ≡ sum_by (λ o. weight_of weights o.station o.target * unsigned_abs (residual (tilted_observation number x o) heights)) observations
tilted_sum number x weights heights [] = refl
tilted_sum number x weights heights (o ∷ observations) =
    let w = weight_of weights o.station o.target in
    sum_by-cons (λ o. weight_of weights o.station o.target * unsigned_abs (residual o heights)) (tilted_observation number x o) (map (tilted_observation number x) observations)
    ∙ ap (λ rest. w * unsigned_abs (residual (tilted_observation number x o) heights) + rest) (tilted_sum number x weights heights observations)
    ∙ sym (sum_by-cons (λ o. weight_of weights o.station o.target * unsigned_abs (residual (tilted_observation number x o) heights)) o observations)

pub costs_over : (survey : Survey) (number : Number) (x : ℤ) (levels : List ℤ) (total : ℕ) → total ≡ sum_by (priced survey number x levels) survey.observations → Costs survey number x total
costs_over survey number x levels total sum =
    let heights = heights_over survey levels in (
      raised number x heights,
      keeps_raised survey number x heights (lifted_kept survey (λ v. get_or levels v (pos 0))),
      sym (cost_moved number x survey.weights heights survey.observations) ∙ tilted_sum number x survey.weights heights survey.observations ∙ sym sum,
    )

-- a line that reaches such a cost is a slope
pub sloped_line : (survey : Survey) (number : Number) (cost : ℕ) (line : Line) (x : ℤ) (total : ℕ) → IsLine survey number cost line → Costs survey number x total → pos total ≡ pos cost -ℤ line.lost +ℤ x *ℤ line.net → IsSlopedAt survey number x total line.net
sloped_line survey number cost line x total is_line reached shown = record {
  reached = reached;
  bounds = λ y heights kept.
      let most = is_line y heights kept in
      let apart = minus_times y x line.net in
      omega (arith, ints);
}
