-- What flows that were sent other ways show.
use Rattle.std.proofs.Common.{◌≡◌, ℕ, zero, suc, ◌+◌, ◌*◌, ◌<◌, ◌≤◌, ◌⊎◌, inl, inr, ℤ, pos, negsuc, ◌+ℤ◌, ◌-ℤ◌, ◌*ℤ◌, ◌≤ℤ◌, ◌<ℤ◌, List, [], ◌∷◌, Option, get_or, length, map, unsigned_abs, unwrap_or, refl, ap, ◌∙◌, sym, subst, arith, mul-le-mul_right}
use Rattle.std.proofs.lemmas.Bool.{cases_eq}
use Rattle.std.proofs.lemmas.Grind.{get_or-set_at}
use Rattle.std.proofs.lemmas.Int.{ints, unsigned_abs-mul}
use Rattle.std.proofs.lemmas.List.{get_or-map, get_or-set_other, get_or_default, length-set}
use Rattle.std.proofs.lemmas.List.Elements.{All-set}
use Rattle.std.proofs.Math.IntN.{*ℤ_comm, *ℤ-zero, zero-*ℤ}
use Rattle.std.proofs.Math.ListN.{set}
use Rattle.std.specs.List.{AllZip, AllByRecursion}
use Rattle.th_observations.specs.Observed.{Observed}
use Rattle.th_tables.specs.Limits.{max_weight}
use Rattle.th_tables.specs.Rows.{WeightRows, weight_of}
use Rattle.th_points.specs.Points.{points}
use Rattle.th_points.proofs.PointLemmas.{EndsAmong, ends_are_points}
use Rattle.th_network.specs.Heights.{IsHeights}
use Rattle.th_network.specs.Circulation.{Circulation, Shows}
use Rattle.th_network.specs.Links.{base, link_difference, link_of}
use Rattle.th_network.specs.Networks.{AreOfObservations, Survey, arcs_of, at_points_of, weights_of}
use Rattle.th_network.specs.declared.links.Link.{Link}
use Rattle.th_network.specs.Vertices.{vertex_of}
use Rattle.th_network.proofs.Balance.{carried}
use Rattle.th_network.proofs.FreePoints.{fixed_vertex}
use Rattle.th_network.proofs.Products.{times-plus, times-minus}
use Rattle.th_circulation.specs.Best.{Best, IsBest}
use Rattle.th_circulation.proofs.ResidualLemmas.{AreMatched}
use Rattle.th_circulation.proofs.VertexNumbers.{matched_numbers, numbers_of}
use Rattle.th_changes.specs.declared.numbers.Number.{Number}
use Rattle.th_changes.specs.declared.numbers.Number.TheVariants.{Benchmark}
use Rattle.th_changes.specs.Flows.{net, value}
use Rattle.th_changes.specs.Freed.{Costs, Keeps, cost_of}
use Rattle.th_changes.specs.Kept.{IsKept}
use Rattle.th_changes.specs.Lines.{IsLine}
use Rattle.th_changes.specs.Rerouted.{IsNext, IsRerouted, rise, summed}
use Rattle.th_changes.specs.Slopes.{IsSlopedAt}
use Rattle.th_changes.specs.declared.lines.Line.{Line}
use Rattle.th_changes.specs.Numbers.{changed, touch}
use Rattle.th_changes.proofs.Changes.{cost_changed, keeps_lowered, lowered}
use Rattle.th_changes.proofs.Sums.{changed_by_none}
use Rattle.th_changes.proofs.Bounds.{shown_value}
use Rattle.th_changes.proofs.Tilts.{above, bounds_balanced, none_carried, summed-cons, summed-times}

-- ---- one flow changes
pub minus_times : (a b c : ℤ) → (a -ℤ b) *ℤ c ≡ a *ℤ c -ℤ b *ℤ c
minus_times a b c =
    let p = *ℤ_comm (a -ℤ b) c in
    let q = times-minus c a b in
    let r = *ℤ_comm c a in
    let s = *ℤ_comm c b in
    omega (arith, ints)

pub summed-set : (f : Observed → ℤ) (observations : List Observed) (flows : List ℤ) (i : ℕ) (o : Observed) (flow : ℤ) → i < length observations → length flows ≡ length observations → get_or observations i o ≡ o → summed f observations (set flows i flow) ≡ summed f observations flows +ℤ (flow -ℤ get_or flows i (pos 0)) *ℤ f o
summed-set f [] flows i o flow within each at = absurd (omega arith)
summed-set f (first ∷ observations) [] i o flow within each at = absurd (omega arith)
summed-set f (first ∷ observations) (was ∷ flows) zero o flow within each at =
    let a = summed-cons f first observations flow flows in
    let b = summed-cons f first observations was flows in
    let c = minus_times flow was (f o) in
    let d : f first ≡ f o = ap f at in
    let e = ap (λ z. flow *ℤ z) d in
    let g = ap (λ z. was *ℤ z) d in
    omega (arith, ints)
summed-set f (first ∷ observations) (was ∷ flows) (suc i) o flow within each at =
    let a = summed-cons f first observations was (set flows i flow) in
    let b = summed-cons f first observations was flows in
    let rest = summed-set f observations flows i o flow (omega arith) (omega arith) at in
    omega (arith, ints)

-- ---- a step
nowhere : Observed
nowhere = record { station = []; target = []; difference = pos 0; book = 0; line = 0 }

pub stepped : (survey : Survey) (cost : ℕ) (flows : List ℤ) (lost : ℤ) (start at amount place : ℕ) (flow lost_then : ℤ) (at_then : ℕ) → IsRerouted survey cost flows lost start at amount → IsNext survey flows lost at amount place flow lost_then at_then → IsRerouted survey cost (set flows place flow) lost_then start at_then amount
stepped survey cost flows lost start at amount place flow lost_then at_then was next = record {
  each_flow = record {
    each = omega (arith, length-set flows place flow, was.each_flow.each);
    in_range = All-set (λ flow. unsigned_abs flow ≤ max_weight) flows place flow next.light was.each_flow.in_range;
  };
  bounded = bounded;
  valued = valued;
  carried = carried_then;
}
  where
    o : Observed
    o = get_or survey.observations place nowhere

    is : get_or survey.observations place o ≡ o
    is = get_or_default survey.observations place o nowhere next.within

    bounded : (k : ℕ) → k < length (set flows place flow) → unsigned_abs (get_or (set flows place flow) k (pos 0)) ≤ get_or (weights_of survey) k 0
    bounded k within = by (cases_eq k place)
      where
        long : length (set flows place flow) ≡ length flows
        long = length-set flows place flow

        by : ((k ≡ place) ⊎ (k ≡ place → ⊥)) → unsigned_abs (get_or (set flows place flow) k (pos 0)) ≤ get_or (weights_of survey) k 0
        by (inl same) =
            let there : place < length flows = omega (arith, long) in
            let own = ap unsigned_abs (get_or-set_at flows place k flow (pos 0) same there) in
            let weight = ap (λ (n : ℕ). get_or (weights_of survey) n 0) same in
            omega (arith, next.bounded)
        by (inr differs) =
            let other = ap unsigned_abs (get_or-set_other flows place k flow (pos 0) differs) in
            let before = was.bounded k (omega (arith, long)) in
            omega arith

    valued : value survey (set flows place flow) +ℤ lost_then ≡ pos cost
    valued =
        let more = summed-set (link_difference survey.benchmarks) survey.observations flows place o flow next.within was.each_flow.each is in
        let less = next.lost_less o is in
        let before = was.valued in
        omega (arith, ints)

    carried_then : (potential : ℕ → ℤ) → summed (rise survey potential) survey.observations (set flows place flow) ≡ pos amount *ℤ (potential at_then -ℤ potential start)
    carried_then potential =
        let more = summed-set (rise survey potential) survey.observations flows place o flow next.within was.each_flow.each is in
        let one = next.carried o is potential in
        let before = was.carried potential in
        let a = times-minus (pos amount) (potential at_then) (potential start) in
        let b = times-minus (pos amount) (potential at_then) (potential at) in
        let c = times-minus (pos amount) (potential at) (potential start) in
        omega (arith, ints)

-- along the observation at a place, and against it
pub next_along : (survey : Survey) (flows : List ℤ) (lost : ℤ) (at amount place : ℕ) (flow lost_then change gain : ℤ) (link : Link) → place < length survey.observations → unsigned_abs flow ≤ get_or (weights_of survey) place 0 → unsigned_abs flow ≤ max_weight → flow ≡ get_or flows place (pos 0) +ℤ change → lost_then ≡ lost -ℤ change *ℤ gain → change ≡ pos amount → gain ≡ link.diff → ((o : Observed) → get_or survey.observations place o ≡ o → link ≡ link_of survey.observations survey.benchmarks o) → link.tail ≡ at → IsNext survey flows lost at amount place flow lost_then link.head
next_along survey flows lost at amount place flow lost_then change gain link within bounded light changed less amount_is gain_is is tail = record {
  within = within;
  bounded = bounded;
  light = light;
  lost_less = λ o here.
      let diff : gain ≡ link_difference survey.benchmarks o = gain_is ∙ ap (λ (l : Link). l.diff) (is o here) in
      let by : flow -ℤ get_or flows place (pos 0) ≡ change = omega (arith, ints) in
      let gained = ap (λ z. z *ℤ link_difference survey.benchmarks o) by in
      let same = ap (λ z. change *ℤ z) diff in
      omega (arith, ints);
  carried = λ o here potential.
      let own = is o here in
      let by : flow -ℤ get_or flows place (pos 0) ≡ pos amount = omega (arith, ints) in
      let high : potential link.head ≡ potential (vertex_of survey.observations survey.benchmarks o.target) = ap (λ (l : Link). potential l.head) own in
      let low : potential at ≡ potential (vertex_of survey.observations survey.benchmarks o.station) = ap potential (sym tail) ∙ ap (λ (l : Link). potential l.tail) own in
      let same : rise survey potential o ≡ potential link.head -ℤ potential at = omega (arith, ints) in
      ap (λ z. z *ℤ rise survey potential o) by ∙ ap (λ z. pos amount *ℤ z) same;
}

pub next_against : (survey : Survey) (flows : List ℤ) (lost : ℤ) (at amount place : ℕ) (flow lost_then change gain : ℤ) (link : Link) → place < length survey.observations → unsigned_abs flow ≤ get_or (weights_of survey) place 0 → unsigned_abs flow ≤ max_weight → flow ≡ get_or flows place (pos 0) +ℤ change → lost_then ≡ lost -ℤ change *ℤ gain → change ≡ pos 0 -ℤ pos amount → gain ≡ link.diff → ((o : Observed) → get_or survey.observations place o ≡ o → link ≡ link_of survey.observations survey.benchmarks o) → link.head ≡ at → IsNext survey flows lost at amount place flow lost_then link.tail
next_against survey flows lost at amount place flow lost_then change gain link within bounded light changed less amount_is gain_is is head = record {
  within = within;
  bounded = bounded;
  light = light;
  lost_less = λ o here.
      let diff : gain ≡ link_difference survey.benchmarks o = gain_is ∙ ap (λ (l : Link). l.diff) (is o here) in
      let by : flow -ℤ get_or flows place (pos 0) ≡ change = omega (arith, ints) in
      let gained = ap (λ z. z *ℤ link_difference survey.benchmarks o) by in
      let same = ap (λ z. change *ℤ z) diff in
      omega (arith, ints);
  carried = λ o here potential.
      let own = is o here in
      let by : flow -ℤ get_or flows place (pos 0) ≡ pos 0 -ℤ pos amount = omega (arith, ints) in
      let low : potential link.tail ≡ potential (vertex_of survey.observations survey.benchmarks o.station) = ap (λ (l : Link). potential l.tail) own in
      let high : potential at ≡ potential (vertex_of survey.observations survey.benchmarks o.target) = ap potential (sym head) ∙ ap (λ (l : Link). potential l.head) own in
      let same : rise survey potential o ≡ potential at -ℤ potential link.tail = omega (arith, ints) in
      let times = ap (λ z. z *ℤ rise survey potential o) by in
      let turned = minus_times (pos 0) (pos amount) (rise survey potential o) in
      let none = zero-*ℤ (rise survey potential o) in
      let up = ap (λ z. pos amount *ℤ z) same in
      let a = times-minus (pos amount) (potential at) (potential link.tail) in
      let b = times-minus (pos amount) (potential link.tail) (potential at) in
      omega (arith, ints);
}

-- the link at a place
pub link_at : (survey : Survey) (arcs : List Link) (place : ℕ) (other : Link) → arcs ≡ arcs_of survey → place < length survey.observations → (o : Observed) → get_or survey.observations place o ≡ o → get_or arcs place other ≡ link_of survey.observations survey.benchmarks o
link_at survey arcs place other all within o here =
    ap (λ (links : List Link). get_or links place other) all
    ∙ get_or-map (link_of survey.observations survey.benchmarks) survey.observations place o other within
    ∙ ap (link_of survey.observations survey.benchmarks) here

-- ---- between observations and their flows
abbrev IsLight : WeightRows → Observed → ℤ → Type 0
IsLight weights o flow = unsigned_abs flow ≤ weight_of weights o.station o.target

at_each : (weights : WeightRows) (observations : List Observed) (flows : List ℤ) → AllZip (IsLight weights) observations flows → (k : ℕ) → k < length flows → unsigned_abs (get_or flows k (pos 0)) ≤ get_or (map (λ (o : Observed). weight_of weights o.station o.target) observations) k 0
at_each weights [] [] all k within = absurd (omega arith)
at_each weights [] (flow ∷ flows) all k within = absurd all
at_each weights (o ∷ observations) [] all k within = absurd (omega arith)
at_each weights (o ∷ observations) (flow ∷ flows) all zero within = all.0
at_each weights (o ∷ observations) (flow ∷ flows) all (suc k) within = at_each weights observations flows all.1 k (omega arith)

all_light : (weights : WeightRows) (observations : List Observed) (flows : List ℤ) → length flows ≡ length observations → ((k : ℕ) → k < length flows → unsigned_abs (get_or flows k (pos 0)) ≤ get_or (map (λ (o : Observed). weight_of weights o.station o.target) observations) k 0) → AllZip (IsLight weights) observations flows
all_light weights [] [] each at = tt
all_light weights [] (flow ∷ flows) each at = absurd (omega arith)
all_light weights (o ∷ observations) [] each at = absurd (omega arith)
all_light weights (o ∷ observations) (flow ∷ flows) each at = (at 0 (omega arith), all_light weights observations flows (omega arith) (λ k within. at (suc k) (omega arith)))

-- along the numbers of the vertices, what is carried up is what is carried down along the heights
down : (survey : Survey) (heights : List ℕ → ℤ) (potential : ℕ → ℤ) → AreMatched survey.observations survey.benchmarks heights potential → (observations : List Observed) (flows : List ℤ) → AllByRecursion (EndsAmong (points survey.observations survey.benchmarks)) observations → summed (rise survey potential) observations flows +ℤ carried (above survey.benchmarks heights) observations flows ≡ pos 0
down survey heights potential matched [] flows ends = refl
down survey heights potential matched (o ∷ observations) [] ends = refl
down survey heights potential matched (o ∷ observations) (flow ∷ flows) ends =
    let one = summed-cons (rise survey potential) o observations flow flows in
    let rest = down survey heights potential matched observations flows ends.1 in
    let station = matched o.station ends.0.0 in
    let target = matched o.target ends.0.1 in
    let b = survey.benchmarks in
    let s = times-plus flow (rise survey potential o) ((heights o.target -ℤ base b o.target) -ℤ (heights o.station -ℤ base b o.station)) in
    let none : rise survey potential o +ℤ ((heights o.target -ℤ base b o.target) -ℤ (heights o.station -ℤ base b o.station)) ≡ pos 0 = omega (arith, ints) in
    let nothing = ap (λ z. flow *ℤ z) none ∙ *ℤ-zero flow in
    omega (arith, ints)

pub bounds_kept : (survey : Survey) (number : Number) (cost : ℕ) (flows : List ℤ) (lost x : ℤ) (heights : List ℕ → ℤ) → IsKept survey cost flows lost → Keeps (changed number x survey) heights → unsigned_abs (value survey flows +ℤ x *ℤ net number survey flows) ≤ cost_of (changed number x survey) heights
bounds_kept survey number cost flows lost x heights is kept =
    let own = lowered number x heights in
    let own_kept = keeps_lowered survey number x heights kept in
    let potential = numbers_of survey.observations survey.benchmarks own in
    let sum = down survey own potential (matched_numbers survey.observations survey.benchmarks own own_kept) survey.observations flows (ends_are_points survey.observations survey.benchmarks) in
    let all = is.closed potential in
    let none : carried (above survey.benchmarks own) survey.observations flows ≡ pos 0 = omega (arith, ints) in
    let most = bounds_balanced (λ o. x *ℤ touch number o) survey.observations survey.benchmarks survey.weights flows own (all_light survey.weights survey.observations flows is.each_flow.each is.bounded) none in
    let times = ap (λ z. unsigned_abs (value survey flows +ℤ z)) (summed-times x (touch number) survey.observations flows) in
    let same = cost_changed survey number x heights in
    omega arith

-- a circulation is a line
pub line_of : (survey : Survey) (number : Number) (cost : ℕ) (flows : List ℤ) (line : Line) → IsKept survey cost flows line.lost → line.net ≡ net number survey flows → IsLine survey number cost line
line_of survey number cost flows line is flowing x heights kept =
    let most = bounds_kept survey number cost flows line.lost x heights is kept in
    let valued = is.valued in
    let times = ap (λ z. x *ℤ z) flowing in
    omega (arith, ints)

-- a closed walk is kept
pub closed_walk : (survey : Survey) (cost : ℕ) (flows : List ℤ) (lost : ℤ) (start at amount : ℕ) → IsRerouted survey cost flows lost start at amount → start ≡ at → IsKept survey cost flows lost
closed_walk survey cost flows lost start at amount is closed = record {
  each_flow = is.each_flow;
  bounded = is.bounded;
  valued = is.valued;
  closed = λ potential.
      let all = is.carried potential in
      let back : potential at -ℤ potential start ≡ pos 0 = let same = ap potential closed in omega (arith, ints) in
      let nothing = ap (λ z. pos amount *ℤ z) back ∙ *ℤ-zero (pos amount) in
      all ∙ nothing;
}

-- ---- the best flows
-- heights that are above the benchmarks by a potential of the vertices
abbrev pub lifted : Survey → (ℕ → ℤ) → List ℕ → ℤ
lifted survey potential name = base survey.benchmarks name +ℤ (potential (vertex_of survey.observations survey.benchmarks name) -ℤ potential 0)

pub lifted_kept : (survey : Survey) (potential : ℕ → ℤ) → IsHeights survey.benchmarks (lifted survey potential)
lifted_kept survey potential name height listed =
    let bottom = ap potential (fixed_vertex survey.observations survey.benchmarks name height listed) in
    let given : base survey.benchmarks name ≡ height = ap (λ (found : Option ℤ). unwrap_or found (pos 0)) listed in
    omega (arith, ints)

up : (survey : Survey) (potential : ℕ → ℤ) (observations : List Observed) (flows : List ℤ) → summed (rise survey potential) observations flows ≡ carried (above survey.benchmarks (lifted survey potential)) observations flows
up survey potential [] flows = refl
up survey potential (o ∷ observations) [] = refl
up survey potential (o ∷ observations) (flow ∷ flows) =
    let b = survey.benchmarks in
    let h = lifted survey potential in
    let one = summed-cons (rise survey potential) o observations flow flows in
    let rest = up survey potential observations flows in
    let same : rise survey potential o ≡ (h o.target -ℤ base b o.target) -ℤ (h o.station -ℤ base b o.station) = omega (arith, ints) in
    let times = ap (λ z. flow *ℤ z) same in
    omega (arith, ints)

best_value : (survey : Survey) (best : Best) → IsBest survey best → value survey best.flows ≡ pos (cost_of survey (at_points_of survey best.low))
best_value survey best own =
    let number = Benchmark [] in
    let heights = at_points_of survey best.low in
    let none = changed_by_none survey number in
    let kept = subst (λ (s : Survey). Keeps s heights) (sym none) own.low.best.kept in
    let shown = subst (λ (s : Survey). Shows s.observations survey.weights best.flows heights) (sym none) own.shows_low in
    let all = shown_value survey number best.flows (pos 0) heights own.circulation kept shown in
    let same = ap (λ (s : Survey). cost_of s heights) none in
    omega (arith, ints)

-- a circulation is kept with what its value is less than the cost
pub circulation_is_kept : (survey : Survey) (cost : ℕ) (flows : List ℤ) (lost : ℤ) → AreOfObservations survey flows → Circulation survey.observations survey.benchmarks survey.weights flows → value survey flows +ℤ lost ≡ pos cost → IsKept survey cost flows lost
circulation_is_kept survey cost flows lost each_flow circulation valued = record {
  each_flow = each_flow;
  bounded = at_each survey.weights survey.observations flows circulation.bounded;
  valued = valued;
  closed = λ potential.
      up survey potential survey.observations flows
      ∙ none_carried survey.observations survey.benchmarks survey.weights flows (lifted survey potential) circulation (lifted_kept survey potential);
}

-- the best flows lose nothing
pub best_is_kept : (survey : Survey) (best : Best) (cost : ℕ) → IsBest survey best → cost ≡ cost_of survey (at_points_of survey best.low) → IsKept survey cost best.flows (pos 0)
best_is_kept survey best cost own costs =
    let all = best_value survey best own in
    circulation_is_kept survey cost best.flows (pos 0) own.each_flow own.circulation (omega (arith, ints))

-- a circulation before the first walk
pub walk_at_first : (survey : Survey) (cost : ℕ) (flows : List ℤ) (lost : ℤ) → IsKept survey cost flows lost → IsRerouted survey cost flows lost 0 0 0
walk_at_first survey cost flows lost is = record {
  each_flow = is.each_flow;
  bounded = is.bounded;
  valued = is.valued;
  carried = λ potential.
      let none = is.closed potential in
      let nothing = zero-*ℤ (potential 0 -ℤ potential 0) in
      omega (arith, ints);
}

-- what the survey costs as it is, with the number as given
pub costs_as_given : (survey : Survey) (number : Number) (cost : ℕ) (heights : List ℕ → ℤ) → Keeps survey heights → cost ≡ cost_of survey heights → Costs survey number (pos 0) cost
costs_as_given survey number cost heights kept costs =
    let none = changed_by_none survey number in
    (heights, subst (λ (s : Survey). Keeps s heights) (sym none) kept, ap (λ (s : Survey). cost_of s heights) none ∙ sym costs)

pub sloped_as_given : (survey : Survey) (number : Number) (cost : ℕ) (flows : List ℤ) (heights : List ℕ → ℤ) → IsKept survey cost flows (pos 0) → Keeps survey heights → cost ≡ cost_of survey heights → IsSlopedAt survey number (pos 0) cost (net number survey flows)
sloped_as_given survey number cost flows heights is kept costs = record {
  reached = costs_as_given survey number cost heights kept costs;
  bounds = λ y others others_kept.
      let most = bounds_kept survey number cost flows (pos 0) y others is others_kept in
      let valued = is.valued in
      let same : y -ℤ pos 0 ≡ y = omega (arith, ints) in
      let times = ap (λ z. z *ℤ net number survey flows) same in
      omega (arith, ints);
}
