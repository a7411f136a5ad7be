-- What brackets of a number show, and what is exact.
use Rattle.std.proofs.Common.{◌≡◌, ℕ, zero, suc, ◌-◌, ◌<◌, ◌≤◌, ◌⊎◌, inl, inr, ℤ, pos, negsuc, ◌+ℤ◌, ◌-ℤ◌, ◌≤ℤ◌, ◌<ℤ◌, unsigned_abs, refl, sym, subst, arith}
use Rattle.std.proofs.lemmas.Int.{ints}
use Rattle.th_network.specs.Networks.{Survey}
use Rattle.th_explain.specs.declared.freed.Freed.{Freed}
use Rattle.th_changes.specs.declared.numbers.Number.{Number}
use Rattle.th_changes.specs.declared.slopes.Sloped.{Sloped}
use Rattle.th_explain.specs.Explained.{IsExact}
use Rattle.th_changes.specs.Freed.{Costs, IsFreed}
use Rattle.th_explain.specs.Inside.Brackets.{AreRound, IsAbove, IsBelow, IsHighest, IsInReach, IsLowest, IsNearest, IsStepDown, IsStepUp}
use Rattle.th_changes.specs.Reach.{reach_of}
use Rattle.th_changes.specs.Slopes.{IsSloped}
use Rattle.th_changes.proofs.SlopeLemmas.{costs_of, falls_to, flat_least, freed_costs, freed_of, left_of, left_of_more, proposed_of, right_of, right_of_more, rises_from}

-- two changes that are neighbours
tri : (a b : ℕ) → (a < b) ⊎ ((b < a) ⊎ (a ≡ b))
tri a b = by (b - a) (a - b) refl refl
  where
    by : (m n : ℕ) → b - a ≡ m → a - b ≡ n → (a < b) ⊎ ((b < a) ⊎ (a ≡ b))
    by (suc m) n e f = inl (omega arith)
    by zero (suc n) e f = inr (inl (omega arith))
    by zero zero e f = inr (inr (omega arith))

neighbours : (x y : ℤ) → x <ℤ y → ¬ (pos 1 <ℤ (y -ℤ x)) → y ≡ x +ℤ pos 1
neighbours x y order near = by (y -ℤ x) refl
  where
    by : (gap : ℤ) → y -ℤ x ≡ gap → y ≡ x +ℤ pos 1
    by (pos zero) e = absurd (omega (arith, ints))
    by (pos (suc zero)) e = omega (arith, ints)
    by (pos (suc (suc n))) e = absurd (near (omega (arith, ints)))
    by (negsuc n) e = absurd (omega (arith, ints))

-- all changes are on one side of two neighbours
sides : {P : Type 0} (x z y : ℤ) → z ≡ x +ℤ pos 1 → (y ≤ℤ x → P) → (z ≤ℤ y → P) → P
sides {P} x z y next before behind = by (y -ℤ x) refl
  where
    by : (gap : ℤ) → y -ℤ x ≡ gap → P
    by (pos zero) e = before (omega (arith, ints))
    by (pos (suc n)) e = behind (omega (arith, ints))
    by (negsuc n) e = before (omega (arith, ints))

record IsExactly (survey : Survey) (number : Number) (total : ℕ) (low high : ℤ) : Type 0 where
  freed : IsFreed survey number total
  at_low : Costs survey number low total
  at_high : Costs survey number high total
  least : (x : ℤ) → Costs survey number x total → low ≤ℤ x
  greatest : (x : ℤ) → Costs survey number x total → x ≤ℤ high

exactly : (survey : Survey) (number : Number) (freed : Freed) → IsExactly survey number freed.left freed.low freed.high → IsExact survey number freed
exactly survey number freed own = record {
  left = own.freed;
  low = proposed_of survey number freed.low freed.left own.freed own.at_low;
  high = proposed_of survey number freed.high freed.left own.freed own.at_high;
  least = λ x proposed. own.least x (costs_of survey number x freed.left own.freed proposed);
  greatest = λ x proposed. own.greatest x (costs_of survey number x freed.left own.freed proposed);
}

-- not less is at most
not_more : (x y : ℤ) → (y <ℤ x → ⊥) → x ≤ℤ y
not_more x y none = by (y -ℤ x) refl
  where
    by : (gap : ℤ) → y -ℤ x ≡ gap → x ≤ℤ y
    by (pos n) e = omega (arith, ints)
    by (negsuc n) e = absurd (none (omega (arith, ints)))

pub nearest_is_exact : (survey : Survey) (number : Number) (left right : Sloped) (freed : Freed) → AreRound survey number left right → ¬ (pos 1 <ℤ (right.change -ℤ left.change)) → IsNearest left right freed → IsExact survey number freed
nearest_is_exact survey number left right freed round near nearest = by (tri left.cost right.cost)
  where
    next : right.change ≡ left.change +ℤ pos 1
    next = neighbours left.change right.change round.order near

    before : (y : ℤ) (cost : ℕ) → Costs survey number y cost → y ≤ℤ left.change → left.cost ≤ cost
    before y cost costs less = left_of survey number left.change y left.cost cost left.slope round.at_left.sloped (omega (arith, ints, round.falls)) less costs

    behind : (y : ℤ) (cost : ℕ) → Costs survey number y cost → right.change ≤ℤ y → right.cost ≤ cost
    behind y cost costs more = right_of survey number right.change y right.cost cost right.slope round.at_right.sloped (omega (arith, ints, round.rises)) more costs

    is_least : (total : ℕ) → total ≤ left.cost → total ≤ right.cost → (y : ℤ) (cost : ℕ) → Costs survey number y cost → total ≤ cost
    is_least total a b y cost costs = sides left.change right.change y next (λ less. let c = before y cost costs less in omega arith) (λ more. let c = behind y cost costs more in omega arith)

    not_before : (total : ℕ) → total ≤ left.cost → (x : ℤ) → Costs survey number x total → left.change ≤ℤ x
    not_before total a x costs = not_more left.change x (λ less. let c = left_of_more survey number left.change x left.cost total left.slope round.at_left.sloped round.falls less costs in omega arith)

    not_behind : (total : ℕ) → total ≤ right.cost → (x : ℤ) → Costs survey number x total → x ≤ℤ right.change
    not_behind total a x costs = not_more x right.change (λ more. let c = right_of_more survey number right.change x right.cost total right.slope round.at_right.sloped round.rises more costs in omega arith)

    by : ((left.cost < right.cost) ⊎ ((right.cost < left.cost) ⊎ (left.cost ≡ right.cost))) → IsExact survey number freed
    by (inl less) = subst (IsExact survey number) (sym (nearest.left_less less)) (exactly survey number (record { left = left.cost; low = left.change; high = left.change }) (record {
      freed = freed_of survey number left.change left.cost round.at_left.sloped.reached (is_least left.cost (omega arith) (omega arith));
      at_low = round.at_left.sloped.reached;
      at_high = round.at_left.sloped.reached;
      least = not_before left.cost (omega arith);
      greatest = λ x costs. sides left.change right.change x next (λ early. early) (λ late. let c = behind x left.cost costs late in absurd (omega arith));
    }))
    by (inr (inl less)) = subst (IsExact survey number) (sym (nearest.right_less less)) (exactly survey number (record { left = right.cost; low = right.change; high = right.change }) (record {
      freed = freed_of survey number right.change right.cost round.at_right.sloped.reached (is_least right.cost (omega arith) (omega arith));
      at_low = round.at_right.sloped.reached;
      at_high = round.at_right.sloped.reached;
      least = λ x costs. sides left.change right.change x next (λ early. let c = before x right.cost costs early in absurd (omega arith)) (λ late. late);
      greatest = not_behind right.cost (omega arith);
    }))
    by (inr (inr same)) = subst (IsExact survey number) (sym (nearest.same same)) (exactly survey number (record { left = left.cost; low = left.change; high = right.change }) (record {
      freed = freed_of survey number left.change left.cost round.at_left.sloped.reached (is_least left.cost (omega arith) (omega arith));
      at_low = round.at_left.sloped.reached;
      at_high = subst (Costs survey number right.change) (sym same) round.at_right.sloped.reached;
      least = not_before left.cost (omega arith);
      greatest = not_behind left.cost (omega arith);
    }))

-- ---- the ends of a flat part
pub flat_is_freed : (survey : Survey) (number : Number) (flat : Sloped) → IsSloped survey number flat → flat.slope ≡ pos 0 → IsFreed survey number flat.cost
flat_is_freed survey number flat sloped none = freed_of survey number flat.change flat.cost sloped.reached (λ y cost costs. flat_least survey number flat.change y flat.cost cost flat.slope sloped none costs)

-- a change between two others is within reach
pub near_between : (reach : ℕ) (x y z : ℤ) → unsigned_abs x ≤ reach → unsigned_abs z ≤ reach → x <ℤ y → y <ℤ z → unsigned_abs y ≤ reach
near_between reach x y z a b above below = omega (arith, ints)

pub step_down_begins : (survey : Survey) (number : Number) (left flat : Sloped) → IsBelow survey number left flat → IsStepDown survey number flat.cost left flat
step_down_begins survey number left flat below = record { at_left = below.at_left; at_low = below.at_flat; falls = below.falls; level = refl; order = below.order }

pub step_down_low : (survey : Survey) (number : Number) (total : ℕ) (left low own : Sloped) → IsStepDown survey number total left low → IsSloped survey number own → left.change <ℤ own.change → own.change <ℤ low.change → own.cost ≡ total → IsStepDown survey number total left own
step_down_low survey number total left low own step sloped above below level = record {
  at_left = step.at_left;
  at_low = record { sloped = sloped; near = near_between (reach_of number survey.observations) left.change own.change low.change step.at_left.near step.at_low.near above below };
  falls = step.falls;
  level = level;
  order = above;
}

pub step_down_left : (survey : Survey) (number : Number) (total : ℕ) (left low own : Sloped) → IsFreed survey number total → IsStepDown survey number total left low → IsSloped survey number own → left.change <ℤ own.change → own.change <ℤ low.change → ¬ (own.cost ≡ total) → IsStepDown survey number total own low
step_down_left survey number total left low own freed step sloped above below other =
    let least = freed_costs survey number own.change total own.cost freed sloped.reached in
    let costs = subst (Costs survey number low.change) step.level step.at_low.sloped.reached in
    record {
      at_left = record { sloped = sloped; near = near_between (reach_of number survey.observations) left.change own.change low.change step.at_left.near step.at_low.near above below };
      at_low = step.at_low;
      falls = falls_to survey number own.change low.change own.cost total own.slope sloped (omega (arith, ints)) costs (omega arith);
      level = step.level;
      order = below;
    }

pub lowest_left : (survey : Survey) (number : Number) (total : ℕ) (left low : Sloped) → IsFreed survey number total → IsStepDown survey number total left low → left.cost ≡ total → IsLowest survey number left
lowest_left survey number total left low freed step same = record {
  freed = subst (IsFreed survey number) (sym same) freed;
  proposed = proposed_of survey number left.change total freed (subst (Costs survey number left.change) same step.at_left.sloped.reached);
  least = λ x proposed. not_more left.change x (λ less. let c = left_of_more survey number left.change x left.cost total left.slope step.at_left.sloped step.falls less (costs_of survey number x total freed proposed) in omega arith);
}

pub lowest_low : (survey : Survey) (number : Number) (total : ℕ) (left low : Sloped) → IsFreed survey number total → IsStepDown survey number total left low → ¬ (pos 1 <ℤ (low.change -ℤ left.change)) → ¬ (left.cost ≡ total) → IsLowest survey number low
lowest_low survey number total left low freed step near other =
    let more = freed_costs survey number left.change total left.cost freed step.at_left.sloped.reached in
    let falls = step.falls in
    record {
      freed = subst (IsFreed survey number) (sym step.level) freed;
      proposed = proposed_of survey number low.change total freed (subst (Costs survey number low.change) step.level step.at_low.sloped.reached);
      least = λ x proposed. sides left.change low.change x (neighbours left.change low.change step.order near)
          (λ less. let c = left_of survey number left.change x left.cost total left.slope step.at_left.sloped (omega (arith, ints)) less (costs_of survey number x total freed proposed) in absurd (omega arith))
          (λ behind. behind);
    }

pub step_up_begins : (survey : Survey) (number : Number) (flat right : Sloped) → IsAbove survey number flat right → IsStepUp survey number flat.cost flat right
step_up_begins survey number flat right above = record { at_high = above.at_flat; at_right = above.at_right; rises = above.rises; level = refl; order = above.order }

pub step_up_high : (survey : Survey) (number : Number) (total : ℕ) (high right own : Sloped) → IsStepUp survey number total high right → IsSloped survey number own → high.change <ℤ own.change → own.change <ℤ right.change → own.cost ≡ total → IsStepUp survey number total own right
step_up_high survey number total high right own step sloped above below level = record {
  at_high = record { sloped = sloped; near = near_between (reach_of number survey.observations) high.change own.change right.change step.at_high.near step.at_right.near above below };
  at_right = step.at_right;
  rises = step.rises;
  level = level;
  order = below;
}

pub step_up_right : (survey : Survey) (number : Number) (total : ℕ) (high right own : Sloped) → IsFreed survey number total → IsStepUp survey number total high right → IsSloped survey number own → high.change <ℤ own.change → own.change <ℤ right.change → ¬ (own.cost ≡ total) → IsStepUp survey number total high own
step_up_right survey number total high right own freed step sloped above below other =
    let least = freed_costs survey number own.change total own.cost freed sloped.reached in
    let costs = subst (Costs survey number high.change) step.level step.at_high.sloped.reached in
    record {
      at_high = step.at_high;
      at_right = record { sloped = sloped; near = near_between (reach_of number survey.observations) high.change own.change right.change step.at_high.near step.at_right.near above below };
      rises = rises_from survey number own.change high.change own.cost total own.slope sloped (omega (arith, ints)) costs (omega arith);
      level = step.level;
      order = above;
    }

pub highest_right : (survey : Survey) (number : Number) (total : ℕ) (high right : Sloped) → IsFreed survey number total → IsStepUp survey number total high right → right.cost ≡ total → IsHighest survey number right
highest_right survey number total high right freed step same = record {
  proposed = proposed_of survey number right.change total freed (subst (Costs survey number right.change) same step.at_right.sloped.reached);
  greatest = λ x proposed. not_more x right.change (λ more. let c = right_of_more survey number right.change x right.cost total right.slope step.at_right.sloped step.rises more (costs_of survey number x total freed proposed) in omega arith);
}

pub highest_high : (survey : Survey) (number : Number) (total : ℕ) (high right : Sloped) → IsFreed survey number total → IsStepUp survey number total high right → ¬ (pos 1 <ℤ (right.change -ℤ high.change)) → ¬ (right.cost ≡ total) → IsHighest survey number high
highest_high survey number total high right freed step near other =
    let more = freed_costs survey number right.change total right.cost freed step.at_right.sloped.reached in
    let rises = step.rises in
    record {
      proposed = proposed_of survey number high.change total freed (subst (Costs survey number high.change) step.level step.at_high.sloped.reached);
      greatest = λ x proposed. sides high.change right.change x (neighbours high.change right.change step.order near)
          (λ before. before)
          (λ behind. let c = right_of survey number right.change x right.cost total right.slope step.at_right.sloped (omega (arith, ints)) behind (costs_of survey number x total freed proposed) in absurd (omega arith));
    }

-- ---- a change between two others takes the place of one of them
in_reach_between : (survey : Survey) (number : Number) (left own right : Sloped) → AreRound survey number left right → IsSloped survey number own → left.change <ℤ own.change → own.change <ℤ right.change → IsInReach survey number own
in_reach_between survey number left own right round sloped above below = record {
  sloped = sloped;
  near = near_between (reach_of number survey.observations) left.change own.change right.change round.at_left.near round.at_right.near above below;
}

pub round_left : (survey : Survey) (number : Number) (left own right : Sloped) → AreRound survey number left right → IsSloped survey number own → left.change <ℤ own.change → own.change <ℤ right.change → own.slope <ℤ pos 0 → AreRound survey number own right
round_left survey number left own right round sloped above below falls = record {
  at_left = in_reach_between survey number left own right round sloped above below;
  at_right = round.at_right;
  falls = falls;
  rises = round.rises;
  order = below;
}

pub round_right : (survey : Survey) (number : Number) (left own right : Sloped) → AreRound survey number left right → IsSloped survey number own → left.change <ℤ own.change → own.change <ℤ right.change → ¬ (own.slope ≡ pos 0) → ¬ (own.slope <ℤ pos 0) → AreRound survey number left own
round_right survey number left own right round sloped above below some over = record {
  at_left = round.at_left;
  at_right = in_reach_between survey number left own right round sloped above below;
  falls = round.falls;
  rises = positive own.slope some over;
  order = above;
}
  where
    positive : (slope : ℤ) → ¬ (slope ≡ pos 0) → ¬ (slope <ℤ pos 0) → pos 0 <ℤ slope
    positive (pos zero) some over = absurd (some refl)
    positive (pos (suc n)) some over = omega (arith, ints)
    positive (negsuc n) some over = absurd (over (omega (arith, ints)))

pub flat_below : (survey : Survey) (number : Number) (left own right : Sloped) → AreRound survey number left right → IsSloped survey number own → left.change <ℤ own.change → own.change <ℤ right.change → own.slope ≡ pos 0 → IsBelow survey number left own
flat_below survey number left own right round sloped above below none = record {
  at_left = round.at_left;
  at_flat = in_reach_between survey number left own right round sloped above below;
  falls = round.falls;
  least = none;
  order = above;
}

pub flat_above : (survey : Survey) (number : Number) (left own right : Sloped) → AreRound survey number left right → IsSloped survey number own → left.change <ℤ own.change → own.change <ℤ right.change → own.slope ≡ pos 0 → IsAbove survey number own right
flat_above survey number left own right round sloped above below none = record {
  at_flat = in_reach_between survey number left own right round sloped above below;
  at_right = round.at_right;
  least = none;
  rises = round.rises;
  order = below;
}

pub ends_are_exact : (survey : Survey) (number : Number) (low high : Sloped) → IsLowest survey number low → IsHighest survey number high → IsExact survey number (record { left = low.cost; low = low.change; high = high.change })
ends_are_exact survey number low high lowest highest = record {
  left = lowest.freed;
  low = lowest.proposed;
  high = highest.proposed;
  least = lowest.least;
  greatest = highest.greatest;
}

-- two changes that cost as little as a flat one, where it falls at the first and rises at the second
pub shown_is_exact : (survey : Survey) (number : Number) (low flat high : Sloped) → IsSloped survey number low → IsSloped survey number flat → IsSloped survey number high → low.slope <ℤ pos 0 → flat.slope ≡ pos 0 → pos 0 <ℤ high.slope → low.cost ≡ flat.cost → high.cost ≡ flat.cost → IsExact survey number (record { left = low.cost; low = low.change; high = high.change })
shown_is_exact survey number low flat high at_low at_flat at_high falls none rises low_least high_least = ends_are_exact survey number low high lowest highest
  where
    freed : IsFreed survey number flat.cost
    freed = flat_is_freed survey number flat at_flat none

    freed_low : IsFreed survey number low.cost
    freed_low = subst (IsFreed survey number) (sym low_least) freed

    freed_high : IsFreed survey number high.cost
    freed_high = subst (IsFreed survey number) (sym high_least) freed

    lowest : IsLowest survey number low
    lowest = record {
      freed = freed_low;
      proposed = proposed_of survey number low.change low.cost freed_low at_low.reached;
      least = λ x proposed. not_more low.change x (λ less. let more = left_of_more survey number low.change x low.cost low.cost low.slope at_low falls less (costs_of survey number x low.cost freed_low proposed) in omega arith);
    }

    highest : IsHighest survey number high
    highest = record {
      proposed = proposed_of survey number high.change high.cost freed_high at_high.reached;
      greatest = λ x proposed. not_more x high.change (λ more. let above = right_of_more survey number high.change x high.cost high.cost high.slope at_high rises more (costs_of survey number x high.cost freed_high proposed) in omega arith);
    }
