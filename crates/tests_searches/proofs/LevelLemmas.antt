-- Levels of the table, and what stands on one another.
use Rattle.std.proofs.Common.{◌≡◌, ◌≢◌, ℕ, ◌+◌, ◌<◌, ◌≤◌, inl, inr, ℤ, pos, ◌+ℤ◌, ◌≤ℤ◌, ◌<ℤ◌, FitsSigned, to_z, of_z, w64, List, [], Option, None, Some, true, false, All, length, get_or, unsigned_abs, refl, sym, ap, ◌∙◌, subst, arith, below_more}
use lib.Signed.{lt_z}
use Rattle.std.proofs.Math.ListN.{set}
use Rattle.std.proofs.lemmas.Bool.{cases_eq}
use Rattle.std.proofs.lemmas.Int.{ints, to_z-of_z, fits_signed_from_abs}
use Rattle.std.proofs.lemmas.List.{length-set, get_or_default, get_or-set_other, get_or-set_same}
use Rattle.std.proofs.lemmas.Option.{none-some, same_Some}
use Rattle.th_search.specs.Limits.{farthest, max_cost}
use Rattle.th_search.specs.Inside.Bounds.{most_between}
use Rattle.th_search.specs.Walks.{IsArc, arc_at}
use Rattle.th_search.specs.Potentials.{value_at}
use Rattle.tests_searches.specs.Levels.{Falls, IsAbove, Row, last_at}
use Rattle.th_search.specs.declared.arcs.Arc.{Arc}
use Rattle.th_search.proofs.DepthLemmas.{arc_is}
use Rattle.th_search.proofs.PassLemmas.{less_than, not_less}

-- a row of costs and last arcs
abbrev pub row : List ℤ → List (Option ℕ) → Row
row costs last = record { costs = costs; last = last }

-- the row above, as far as the arcs went
pub record IsRising (arcs : List Arc) (below costs : List ℤ) (last : List (Option ℕ)) (number : ℕ) : Type 0 where
  pub size : length costs ≡ length below
  pub last_size : length last ≡ length below
  pub most : (v : ℕ) → value_at costs v ≤ℤ value_at below v
  pub within : (v : ℕ) → unsigned_abs (value_at costs v) ≤ most_between
  pub least : (k : ℕ) → k < number → value_at costs (arc_at arcs k).head ≤ℤ (value_at below (arc_at arcs k).tail +ℤ (arc_at arcs k).cost)
  pub kept : (v : ℕ) → last_at (row costs last) v ≡ None → value_at costs v ≡ value_at below v
  pub fell : (v a : ℕ) → last_at (row costs last) v ≡ Some a → Falls arcs (row below []) (row costs last) v a

pub rising_first : (arcs : List Arc) (below costs : List ℤ) (last : List (Option ℕ)) → costs ≡ below → length last ≡ length below → ((v : ℕ) → get_or last v None ≡ None) → ((v : ℕ) → unsigned_abs (value_at below v) ≤ farthest) → IsRising arcs below costs last 0
rising_first arcs below costs last same size none sized = record {
  size = ap length same;
  last_size = size;
  most = λ v. subst (λ costs. value_at costs v ≤ℤ value_at below v) (sym same) (omega (arith, ints));
  within = λ v. let few = sized v in subst (λ costs. unsigned_abs (value_at costs v) ≤ most_between) (sym same) (omega arith);
  least = λ k less. absurd (omega arith);
  kept = λ v is. ap (λ costs. value_at costs v) same;
  fell = λ v a at. absurd (none-some a (sym (none v) ∙ at));
}

pub rising_by : (arcs : List Arc) (below costs : List ℤ) (last : List (Option ℕ)) (number : ℕ) → value_at costs (arc_at arcs number).head ≤ℤ (value_at below (arc_at arcs number).tail +ℤ (arc_at arcs number).cost) → IsRising arcs below costs last number → IsRising arcs below costs last (number + 1)
rising_by arcs below costs last number fits rising = record {
  size = rising.size;
  last_size = rising.last_size;
  most = rising.most;
  within = rising.within;
  least = below_more (λ k. value_at costs (arc_at arcs k).head ≤ℤ (value_at below (arc_at arcs k).tail +ℤ (arc_at arcs k).cost)) number rising.least fits;
  kept = rising.kept;
  fell = rising.fell;
}

-- a walk over the arc costs less
pub rising_lower : (arcs : List Arc) (below costs : List ℤ) (last : List (Option ℕ)) (number : ℕ) (cost : ℤ) → All (IsArc (length below)) arcs → ((v : ℕ) → unsigned_abs (value_at below v) ≤ farthest) → number < length arcs → cost ≡ value_at below (arc_at arcs number).tail +ℤ (arc_at arcs number).cost → cost <ℤ value_at costs (arc_at arcs number).head → IsRising arcs below costs last number → IsRising arcs below (set costs (arc_at arcs number).head cost) (set last (arc_at arcs number).head (Some number)) (number + 1)
rising_lower arcs below costs last number cost all sized within is less rising =
    let head : ℕ = (arc_at arcs number).head in
    let inside = (arc_is (length below) arcs number all within).head in
    let size = rising.size in
    let last_size = rising.last_size in
    let here : head < length costs = omega arith in
    let there : head < length last = omega arith in
    let cost_size : unsigned_abs (arc_at arcs number).cost ≤ max_cost = (arc_is (length below) arcs number all within).cost in
    let tail_size = sized (arc_at arcs number).tail in
    let new_size : unsigned_abs cost ≤ most_between = subst (λ z. unsigned_abs z ≤ most_between) (sym is) (omega (arith, ints)) in
    let cost_here : (v : ℕ) → v ≡ head → value_at (set costs head cost) v ≡ cost = λ v same. ap (value_at (set costs head cost)) same ∙ get_or-set_same costs head cost (pos 0) here in
    let cost_else : (v : ℕ) → v ≢ head → value_at (set costs head cost) v ≡ value_at costs v = λ v other. get_or-set_other costs head v cost (pos 0) other in
    let last_here : (v : ℕ) → v ≡ head → get_or (set last head (Some number)) v None ≡ Some number = λ v same. ap (λ v. get_or (set last head (Some number)) v None) same ∙ get_or-set_same last head (Some number) None there in
    let last_else : (v : ℕ) → v ≢ head → get_or (set last head (Some number)) v None ≡ get_or last v None = λ v other. get_or-set_other last head v (Some number) None other in
    let lower : (v : ℕ) → value_at (set costs head cost) v ≤ℤ value_at costs v = λ v. elim (cases_eq v head) [
      | inl same ↦ (let now = cost_here v same in let was = ap (value_at costs) same in omega (arith, ints))
      | inr other ↦ (let now = cost_else v other in omega (arith, ints))
    ] in
    record {
      size = length-set costs head cost ∙ rising.size;
      last_size = length-set last head (Some number) ∙ rising.last_size;
      most = λ v. let fall = lower v in let most = rising.most v in omega (arith, ints);
      within = λ v. elim (cases_eq v head) [
        | inl same ↦ subst (λ z. unsigned_abs z ≤ most_between) (sym (cost_here v same)) new_size
        | inr other ↦ subst (λ z. unsigned_abs z ≤ most_between) (sym (cost_else v other)) (rising.within v)
      ];
      least = below_more (λ k. value_at (set costs head cost) (arc_at arcs k).head ≤ℤ (value_at below (arc_at arcs k).tail +ℤ (arc_at arcs k).cost)) number
          (λ k before. let fall = lower (arc_at arcs k).head in let least = rising.least k before in omega (arith, ints))
          (let now = cost_here head refl in omega (arith, ints));
      kept = λ v none. elim (cases_eq v head) [
        | inl same ↦ absurd (none-some number (sym none ∙ last_here v same))
        | inr other ↦ cost_else v other ∙ rising.kept v (sym (last_else v other) ∙ none)
      ];
      fell = λ v a at. elim (cases_eq v head) [
        | inl same ↦
            let one : number ≡ a = same_Some number a (sym (last_here v same) ∙ at) in
            let now = cost_here v same in
            let most = rising.most head in
            let was = ap (value_at below) same in
            subst (λ a. Falls arcs (row below []) (row (set costs head cost) (set last head (Some number))) v a) one (record {
              within = within;
              head = sym same;
              is = now ∙ is;
              less = omega (arith, ints);
            })
        | inr other ↦
            let old = rising.fell v a (sym (last_else v other) ∙ at) in
            let kept = cost_else v other in
            let less = old.less in
            record { within = old.within; head = old.head; is = kept ∙ old.is; less = omega (arith, ints) }
      ];
    }

-- once all arcs are gone over
pub rising_done : (arcs : List Arc) (below : Row) (costs : List ℤ) (last : List (Option ℕ)) (number : ℕ) → length arcs ≤ number → IsRising arcs below.costs costs last number → IsAbove arcs below (row costs last)
rising_done arcs below costs last number past rising = record {
  costs = rising.size;
  last = rising.last_size;
  least = λ k within. rising.least k (omega arith);
  kept = rising.kept;
  fell = λ v a at. let old = rising.fell v a at in record { within = old.within; head = old.head; is = old.is; less = old.less };
}

-- what is read at the ends of an arc, and its sum
pub record IsReading (arcs : List Arc) (below costs : List ℤ) (number : ℕ) (r s : ℤ) : Type 0 where
  pub fits : FitsSigned w64 (to_z w64 (of_z w64 r) +ℤ to_z w64 (of_z w64 (arc_at arcs number).cost))
  pub sum : to_z w64 (of_z w64 (to_z w64 (of_z w64 r) +ℤ to_z w64 (of_z w64 (arc_at arcs number).cost))) ≡ value_at below (arc_at arcs number).tail +ℤ (arc_at arcs number).cost
  pub head : to_z w64 (of_z w64 s) ≡ value_at costs (arc_at arcs number).head

kept_z : (z : ℤ) → unsigned_abs z ≤ most_between → to_z w64 (of_z w64 z) ≡ z
kept_z z small = to_z-of_z w64 z (fits_signed_from_abs w64 z (omega arith))

pub reading : (arcs : List Arc) (below costs : List ℤ) (last : List (Option ℕ)) (number : ℕ) (r s : ℤ) → All (IsArc (length below)) arcs → ((v : ℕ) → unsigned_abs (value_at below v) ≤ farthest) → number < length arcs → r ≡ get_or below (arc_at arcs number).tail r → s ≡ get_or costs (arc_at arcs number).head s → IsRising arcs below costs last number → IsReading arcs below costs number r s
reading arcs below costs last number r s all sized within low high rising =
    let arc = arc_is (length below) arcs number all within in
    let inside = arc.head in
    let size = rising.size in
    let r_is : r ≡ value_at below (arc_at arcs number).tail = low ∙ get_or_default below (arc_at arcs number).tail r (pos 0) arc.tail in
    let s_is : s ≡ value_at costs (arc_at arcs number).head = high ∙ get_or_default costs (arc_at arcs number).head s (pos 0) (omega arith) in
    let c_size : unsigned_abs (arc_at arcs number).cost ≤ max_cost = arc.cost in
    let r_size : unsigned_abs r ≤ farthest = subst (λ z. unsigned_abs z ≤ farthest) (sym r_is) (sized (arc_at arcs number).tail) in
    let s_size : unsigned_abs s ≤ most_between = subst (λ z. unsigned_abs z ≤ most_between) (sym s_is) (rising.within (arc_at arcs number).head) in
    let all_size : unsigned_abs (r +ℤ (arc_at arcs number).cost) ≤ most_between = omega (arith, ints) in
    let both : to_z w64 (of_z w64 r) +ℤ to_z w64 (of_z w64 (arc_at arcs number).cost) ≡ r +ℤ (arc_at arcs number).cost = ap (λ z. z +ℤ to_z w64 (of_z w64 (arc_at arcs number).cost)) (kept_z r (omega arith)) ∙ ap (λ z. r +ℤ z) (kept_z (arc_at arcs number).cost (omega arith)) in
    record {
      fits = subst (FitsSigned w64) (sym both) (fits_signed_from_abs w64 (r +ℤ (arc_at arcs number).cost) (omega arith));
      sum = ap (λ z. to_z w64 (of_z w64 z)) both ∙ kept_z (r +ℤ (arc_at arcs number).cost) all_size ∙ ap (λ z. z +ℤ (arc_at arcs number).cost) r_is;
      head = kept_z s s_size ∙ s_is;
    }

pub sum_fits : (arcs : List Arc) (below costs : List ℤ) (last : List (Option ℕ)) (number : ℕ) (r : ℤ) → All (IsArc (length below)) arcs → ((v : ℕ) → unsigned_abs (value_at below v) ≤ farthest) → number < length arcs → r ≡ get_or below (arc_at arcs number).tail r → IsRising arcs below costs last number → FitsSigned w64 (to_z w64 (of_z w64 r) +ℤ to_z w64 (of_z w64 (arc_at arcs number).cost))
sum_fits arcs below costs last number r all sized within low rising =
    let inside = (arc_is (length below) arcs number all within).head in
    let size = rising.size in
    let s = value_at costs (arc_at arcs number).head in
    (reading arcs below costs last number r s all sized within low (get_or_default costs (arc_at arcs number).head (pos 0) s (omega arith)) rising).fits

pub reading_less : (arcs : List Arc) (below costs : List ℤ) (number : ℕ) (r s : ℤ) → IsReading arcs below costs number r s → lt_z (to_z w64 (of_z w64 (to_z w64 (of_z w64 r) +ℤ to_z w64 (of_z w64 (arc_at arcs number).cost)))) (to_z w64 (of_z w64 s)) ≡ true → to_z w64 (of_z w64 (to_z w64 (of_z w64 r) +ℤ to_z w64 (of_z w64 (arc_at arcs number).cost))) <ℤ value_at costs (arc_at arcs number).head
reading_less arcs below costs number r s read less =
    subst (λ z. to_z w64 (of_z w64 (to_z w64 (of_z w64 r) +ℤ to_z w64 (of_z w64 (arc_at arcs number).cost))) <ℤ z) read.head (less_than (to_z w64 (of_z w64 (to_z w64 (of_z w64 r) +ℤ to_z w64 (of_z w64 (arc_at arcs number).cost)))) (to_z w64 (of_z w64 s)) less)

pub reading_not : (arcs : List Arc) (below costs : List ℤ) (number : ℕ) (r s : ℤ) → IsReading arcs below costs number r s → lt_z (to_z w64 (of_z w64 (to_z w64 (of_z w64 r) +ℤ to_z w64 (of_z w64 (arc_at arcs number).cost)))) (to_z w64 (of_z w64 s)) ≡ false → value_at costs (arc_at arcs number).head ≤ℤ (value_at below (arc_at arcs number).tail +ℤ (arc_at arcs number).cost)
reading_not arcs below costs number r s read not =
    let least = not_less (to_z w64 (of_z w64 (to_z w64 (of_z w64 r) +ℤ to_z w64 (of_z w64 (arc_at arcs number).cost)))) (to_z w64 (of_z w64 s)) not in
    subst (λ z. value_at costs (arc_at arcs number).head ≤ℤ z) read.sum (subst (λ z. z ≤ℤ to_z w64 (of_z w64 (to_z w64 (of_z w64 r) +ℤ to_z w64 (of_z w64 (arc_at arcs number).cost)))) read.head least)
