-- The definitions at a small survey, so that they are seen to mean what their words say.
--
-- V is a benchmark at 0. An entry has the sights of lines 1 and 2, from V to A and to B; lines 3 to 5 are A to V, B to V and A to B.
-- At heights 0 the survey costs 4 and these are best. From there the entry's imbalance of 2 can be sent back along two paths of length 1
-- each. Still no change of less than 2 units is proposed: the lengths of paths do not bound the mildest change.
use Rattle.std.proofs.Common.{◌≡◌, ℕ, Bool, true, false, ℤ, pos, negsuc, ◌≤ℤ◌, List, [], ◌∷◌, Some, None, bytes_eq, cond, if◌then◌else◌, refl, arith}
use Rattle.std.proofs.lemmas.Int.{ints}
use Rattle.std.proofs.lemmas.List.Elements.{All-from_recursion}
use Rattle.th_observations.specs.Observed.{Observed}
use Rattle.th_tables.specs.Rows.{height_of}
use Rattle.th_points.specs.Points.{points}
use Rattle.th_network.specs.Circulation.{arriving, leaving}
use Rattle.th_network.specs.Networks.{Survey, surveyed}
use Rattle.th_changes.specs.declared.numbers.Number.{Number}
use Rattle.th_changes.specs.declared.numbers.Number.TheVariants.{Added, Benchmark}
use Rattle.th_changes.specs.Numbers.{changed}
use Rattle.th_changes.specs.Freed.{IsFreed, IsProposed, Keeps, cost_of}
use Rattle.th_changes.specs.Flows.{Circulates, ShowsFreed, net}
use Rattle.th_changes.proofs.Bounds.{shown_each, high_bound}

abbrev v : List ℕ
v = 86 ∷ []

abbrev a : List ℕ
a = 65 ∷ []

abbrev b : List ℕ
b = 66 ∷ []

abbrev seen : List ℕ → List ℕ → ℤ → ℕ → Observed
seen from to rise at = record { station = from; target = to; difference = rise; book = 1; line = at }

abbrev square : Survey
square =
    surveyed
    (seen v a (pos 0) 1 ∷ seen v b (pos 1) 2 ∷ seen a v (pos 1) 3 ∷ seen b v (pos 0) 4 ∷ seen a b (pos 0) 5 ∷ [])
    ((v, pos 0) ∷ [])
    (((v, b), 2) ∷ ((a, v), 2) ∷ ((a, b), 3) ∷ [])

abbrev entry : Number
entry = Added (record { book = 1; first = 1; last = 2 })

abbrev level : List ℕ → ℤ
level name = pos 0

abbrev lower : List ℕ → ℤ
lower name = if bytes_eq name v then pos 0 else negsuc 0

-- what it costs, and what it costs if the entry is 2 units less
cost_as_it_is : cost_of square level ≡ 4
cost_as_it_is = refl

cost_if_changed : cost_of (changed entry (negsuc 1) square) lower ≡ 2
cost_if_changed = refl

-- a changed benchmark is another height in its row
changed_benchmark : (changed (Benchmark v) (pos 7) square).benchmarks ≡ (v, pos 7) ∷ []
changed_benchmark = refl

-- the best flows, then those that sent the imbalance back
abbrev best : List ℤ
best = pos 0 ∷ pos 2 ∷ pos 2 ∷ pos 0 ∷ negsuc 1 ∷ []

abbrev sent_back : List ℤ
sent_back = negsuc 0 ∷ pos 1 ∷ pos 1 ∷ negsuc 0 ∷ negsuc 1 ∷ []

-- and those of the first path of length 0
abbrev half_sent : List ℤ
half_sent = negsuc 0 ∷ pos 2 ∷ pos 2 ∷ negsuc 0 ∷ negsuc 2 ∷ []

best_net : net entry square best ≡ pos 2
best_net = refl

sent_back_net : net entry square sent_back ≡ pos 0
sent_back_net = refl

half_sent_net : net entry square half_sent ≡ pos 1
half_sent_net = refl

sent_back_circulates : Circulates square sent_back
unfolding points
sent_back_circulates = record {
  bounded = (omega arith, (omega arith, (omega arith, (omega arith, (omega arith, tt)))));
  balanced = All-from_recursion (λ point. height_of square.benchmarks point ≡ None → arriving square.observations sent_back point ≡ leaving square.observations sent_back point) (v ∷ a ∷ b ∷ []) ((λ absent. absurd (grind arith)), ((λ absent. refl), ((λ absent. refl), tt)));
}

half_sent_circulates : Circulates square half_sent
unfolding points
half_sent_circulates = record {
  bounded = (omega arith, (omega arith, (omega arith, (omega arith, (omega arith, tt)))));
  balanced = All-from_recursion (λ point. height_of square.benchmarks point ≡ None → arriving square.observations half_sent point ≡ leaving square.observations half_sent point) (v ∷ a ∷ b ∷ []) ((λ absent. absurd (grind arith)), ((λ absent. refl), ((λ absent. refl), tt)));
}

lower_keeps : Keeps (changed entry (negsuc 1) square) lower
lower_keeps name height = by (bytes_eq name v)
  where
    by : (same : Bool) → cond same (Some (pos 0)) None ≡ Some height → (if same then pos 0 else negsuc 0) ≡ height
    by true e = grind arith
    by false e = absurd (grind arith)

shown : ShowsFreed square entry (negsuc 1) lower sent_back
shown = record {
  kept = lower_keeps;
  circulation = sent_back_circulates;
  no_net = refl;
  shown = (refl, (refl, (refl, (refl, (refl, tt)))));
}

-- 2 are left if the entry is freed
entry_freed : IsFreed square entry 2
entry_freed = (shown_each square entry sent_back (negsuc 1) lower shown).0

-- and each proposed change is 2 units or more
no_milder_change : (x : ℤ) → IsProposed square entry x → x ≤ℤ negsuc 1
no_milder_change x proposed = high_bound square entry half_sent (negsuc 1) x 2 half_sent_circulates entry_freed refl (omega (arith, ints)) proposed
