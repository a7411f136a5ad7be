-- The definitions at a small survey, so that they are seen to mean what their words say.
--
-- V is a benchmark at 0, W one at 8. V to A is 5, A to W is 3, V to B is 1, A to B is -4. In the book the target of A to W is B by mistake.
use Rattle.std.proofs.Common.{◌≡◌, ℕ, Bool, true, false, ℤ, pos, negsuc, List, [], ◌∷◌, Some, None, bytes_eq, cond, if◌then◌else◌, map, refl, ap, ◌∙◌, arith}
use Rattle.std.proofs.lemmas.Slice.Eq.{bytes_eq-Decides}
use Rattle.th_observations.specs.Observed.{Observed}
use Rattle.th_network.specs.Networks.{Survey, surveyed}
use Rattle.th_reliability.specs.declared.sights.Sights.{Sights}
use Rattle.th_changes.specs.Freed.{cost_of}
use Rattle.th_names.specs.Readings.{IsLeft, KeepsRead, aimed, renamed_row, of_observations, read_cost, set_up, with_other_sign}
use Rattle.th_names.specs.Fits.{weight_in}
use Rattle.th_names.proofs.PointLemmas.{none_some, same_height}

abbrev v : List ℕ
v = 86 ∷ []

abbrev w : List ℕ
w = 87 ∷ []

abbrev a : List ℕ
a = 65 ∷ []

abbrev b : List ℕ
b = 66 ∷ []

abbrev seen : List ℕ → List ℕ → ℤ → ℕ → ℕ → Observed
seen from to rise held at = record { station = from; target = to; difference = rise; book = held; line = at }

abbrev line : ℕ → Sights
line at = record { book = 1; first = at; last = at }

abbrev true_heights : List ℕ → ℤ
true_heights name = if bytes_eq name w then pos 8 else (if bytes_eq name a then pos 5 else (if bytes_eq name b then pos 1 else pos 0))

-- a wrong target
abbrev site : Survey
site = surveyed (seen v a (pos 5) 1 1 ∷ seen a b (pos 3) 1 2 ∷ seen v b (pos 1) 1 3 ∷ seen a b (negsuc 3) 1 4 ∷ []) ((v, pos 0) ∷ (w, pos 8) ∷ []) (((a, b), 2) ∷ [])

-- as it is, 7 units at a weight of 2; to W in place of B, nothing
cost_as_it_is : cost_of site true_heights ≡ 14
cost_as_it_is = refl

cost_as_read : read_cost site (of_observations (aimed (line 2) w)) true_heights ≡ 0
cost_as_read = refl

weight_of_line_2 : weight_in site (line 2) ≡ 2
weight_of_line_2 = refl

-- from another station: V to A becomes W to A, 5 - (5 - 8)
from_another : read_cost site (of_observations (set_up (line 1) w)) true_heights ≡ 22
from_another = refl

-- the other sign of a word 33: V to A, 5, of which 4 are that word, becomes -3
other_sign : map (with_other_sign (line 1) (pos 4)) (seen v a (pos 5) 1 1 ∷ []) ≡ seen v a (negsuc 2) 1 1 ∷ []
other_sign = refl

-- the row of W as that of B
row_of_b : map (renamed_row w b) site.benchmarks ≡ (v, pos 0) ∷ (b, pos 8) ∷ []
row_of_b = refl

-- nothing is left of the true name
true_keeps : KeepsRead site (of_observations (aimed (line 2) w)) true_heights
true_keeps name height = by (bytes_eq name v) (bytes_eq-Decides name v).0 (bytes_eq name w) (bytes_eq-Decides name w).0
  where
    by : (b : Bool) → (b ≡ true → name ≡ v) → (c : Bool) → (c ≡ true → name ≡ w) → cond b (Some (pos 0)) (cond c (Some (pos 8)) None) ≡ Some height → true_heights name ≡ height
    by true is c isnt e = ap true_heights (is refl) ∙ same_height (pos 0) height e
    by false is true isnt e = ap true_heights (isnt refl) ∙ same_height (pos 8) height e
    by false is false isnt e = absurd (none_some height e)

true_name_left : IsLeft site (of_observations (aimed (line 2) w)) 0
true_name_left = record {
  reached = (true_heights, true_keeps, refl);
  least = λ heights kept. omega arith;
}
