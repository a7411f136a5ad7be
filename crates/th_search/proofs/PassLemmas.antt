-- A pass over the arcs, arc by arc.
use Rattle.std.proofs.Common.{◌≡◌, ℕ, ◌+◌, ◌*◌, ◌<◌, ◌≤◌, Bool, true, false, ℤ, pos, ◌+ℤ◌, ◌≤ℤ◌, ◌<ℤ◌, FitsSigned, to_z, of_z, w64, List, Option, All, length, get_or, unsigned_abs, refl, sym, ap, ◌∙◌, subst, arith, below_more}
use lib.Signed.{lt_z}
use Rattle.std.proofs.lemmas.Bool.{false≢true}
use Rattle.std.proofs.lemmas.List.Elements.{All-from_get_or}
use Rattle.std.proofs.lemmas.Int.{ints, to_z-of_z, fits_signed_from_abs}
use Rattle.std.proofs.Math.ListN.{set}
use Rattle.std.proofs.lemmas.List.{get_or_default, length-set}
use Rattle.th_search.specs.Limits.{max_arcs, max_cost, max_vertices}
use Rattle.th_search.specs.Walks.{IsArc, arc_at}
use Rattle.th_search.specs.Potentials.{IsFeasible, value_at}
use Rattle.th_search.specs.Inside.Bounds.{most_between, most_within}
use Rattle.th_search.specs.Inside.Labels.{AreLabels, Improves, IsForest, room}
use Rattle.th_search.specs.Sweeps.{index_at}
use Rattle.th_search.specs.declared.sweeps.Sweep.{Sweep}
use Rattle.th_search.specs.declared.sweeps.Sweep.TheVariants.{Forwards, Backwards}
use Rattle.th_search.proofs.DepthLemmas.{arc_is}
use Rattle.th_search.proofs.LowerLemmas.{AreWithin, label_within, room_falls, values_within, within_after}
use Rattle.th_search.specs.declared.arcs.Arc.{Arc}

-- the arc of this number improves nothing
abbrev pub IsFitting : List Arc → List ℤ → ℕ → Type 0
IsFitting arcs values number = value_at values (arc_at arcs number).head ≤ℤ (value_at values (arc_at arcs number).tail +ℤ (arc_at arcs number).cost)

-- how large values are at a step of a pass
abbrev pub most_at : ℕ → ℕ
most_at step = most_between + step * max_cost

-- the pass has come to this step
pub record IsPassing (arcs : List Arc) (old new : List ℤ) (was entries : List (Option ℕ)) (lowered : Bool) (sweep : Sweep) (step : ℕ) : Type 0 where
  pub size : length new ≡ length old
  pub labels : AreLabels arcs new entries
  pub within : AreWithin new (most_at step)
  pub most : room new ≤ room old
  pub fell : lowered ≡ true → room new < room old
  pub kept : lowered ≡ false → entries ≡ was
  pub feasible : lowered ≡ false → (k : ℕ) → k < step → IsFitting arcs new (index_at sweep (length arcs) k)

pub passing_first : (arcs : List Arc) (values : List ℤ) (entries : List (Option ℕ)) (sweep : Sweep) → All (IsArc (length values)) arcs → length values ≤ max_vertices → AreLabels arcs values entries → IsForest arcs entries → IsPassing arcs values values entries entries false sweep 0
passing_first arcs values entries sweep all few labels forest = record {
  size = refl;
  labels = labels;
  within = values_within arcs values entries all few labels forest;
  most = omega arith;
  fell = λ is. absurd (false≢true is);
  kept = λ is. refl;
  feasible = λ is k within. absurd (omega arith);
}

-- an arc that improves nothing
pub passing_by : (arcs : List Arc) (old new : List ℤ) (was entries : List (Option ℕ)) (lowered : Bool) (sweep : Sweep) (step number : ℕ) → number ≡ index_at sweep (length arcs) step → IsFitting arcs new number → IsPassing arcs old new was entries lowered sweep step → IsPassing arcs old new was entries lowered sweep (step + 1)
passing_by arcs old new was entries lowered sweep step number index fits passing = record {
  size = passing.size;
  labels = passing.labels;
  within = λ v. let less = passing.within v in omega arith;
  most = passing.most;
  fell = passing.fell;
  kept = passing.kept;
  feasible = λ is. below_more (λ k. IsFitting arcs new (index_at sweep (length arcs) k)) step (passing.feasible is) (subst (IsFitting arcs new) index fits);
}

-- an arc by which a label was lowered
pub passing_lower : (arcs : List Arc) (old new : List ℤ) (was entries entries' : List (Option ℕ)) (lowered : Bool) (sweep : Sweep) (step number : ℕ) (label : ℤ) → All (IsArc (length new)) arcs → step < max_arcs → number < length arcs → Improves arcs new number label → AreLabels arcs (set new (arc_at arcs number).head label) entries' → IsPassing arcs old new was entries lowered sweep step → IsPassing arcs old (set new (arc_at arcs number).head label) was entries' true sweep (step + 1)
passing_lower arcs old new was entries entries' lowered sweep step number label all few within improves labels passing =
    let most = passing.most in
    let less = room_falls arcs new entries number (most_at step) label all (omega arith) passing.within passing.labels within improves in
    record {
      size = length-set new (arc_at arcs number).head label ∙ passing.size;
      labels = labels;
      within = λ v. let size = within_after arcs new number (most_at step) label all passing.within within improves v in omega arith;
      most = omega arith;
      fell = λ is. omega arith;
      kept = λ is. absurd (false≢true (sym is));
      feasible = λ is. absurd (false≢true (sym is));
    }

pub less_than : (a b : ℤ) → lt_z a b ≡ true → a <ℤ b
less_than a b h = grind (arith, ints)

pub not_less : (a b : ℤ) → lt_z a b ≡ false → b ≤ℤ a
not_less a b h = grind (arith, ints)

-- the code's sum
abbrev pub sum_of : ℤ → ℤ → ℤ
sum_of r cost = to_z w64 (of_z w64 r) +ℤ to_z w64 (of_z w64 cost)

sums : (r cost : ℤ) → to_z w64 (of_z w64 r) ≡ r → to_z w64 (of_z w64 cost) ≡ cost → sum_of r cost ≡ r +ℤ cost
sums r cost p q = ap (λ z. z +ℤ to_z w64 (of_z w64 cost)) p ∙ ap (λ z. r +ℤ z) q

-- what was read of a tree at the ends of an arc
pub record IsRead (arcs : List Arc) (values : List ℤ) (number : ℕ) (r s : ℤ) : Type 0 where
  pub low : r ≡ value_at values (arc_at arcs number).tail
  pub high : s ≡ value_at values (arc_at arcs number).head
  pub sum : sum_of r (arc_at arcs number).cost ≡ r +ℤ (arc_at arcs number).cost
  pub sum_fits : FitsSigned w64 (r +ℤ (arc_at arcs number).cost)
  pub high_fits : FitsSigned w64 s

value_read : (values : List ℤ) (v : ℕ) (r : ℤ) → v < length values → r ≡ get_or values v r → r ≡ value_at values v
value_read values v r within read = read ∙ get_or_default values v r (pos 0) within

pub reads : (arcs : List Arc) (values : List ℤ) (number most : ℕ) (r s : ℤ) → All (IsArc (length values)) arcs → most + max_cost ≤ most_within → AreWithin values most → number < length arcs → r ≡ get_or values (arc_at arcs number).tail r → s ≡ get_or values (arc_at arcs number).head s → IsRead arcs values number r s
reads arcs values number most r s all few sized within low high =
    let arc = arc_is (length values) arcs number all within in
    let r_is = value_read values (arc_at arcs number).tail r arc.tail low in
    let s_is = value_read values (arc_at arcs number).head s arc.head high in
    let low_size = sized (arc_at arcs number).tail in
    let high_size = sized (arc_at arcs number).head in
    let sum_size = label_within arcs values number most all sized within in
    let cost_size : unsigned_abs (arc_at arcs number).cost ≤ max_cost = arc.cost in
    let r_size : unsigned_abs r ≤ most = subst (λ z. unsigned_abs z ≤ most) (sym r_is) low_size in
    let s_size : unsigned_abs s ≤ most = subst (λ z. unsigned_abs z ≤ most) (sym s_is) high_size in
    let all_size : unsigned_abs (r +ℤ (arc_at arcs number).cost) ≤ most + max_cost = subst (λ z. unsigned_abs (z +ℤ (arc_at arcs number).cost) ≤ most + max_cost) (sym r_is) sum_size in
    record {
      low = r_is;
      high = s_is;
      sum = sums r (arc_at arcs number).cost (to_z-of_z w64 r (fits_signed_from_abs w64 r (omega arith))) (to_z-of_z w64 (arc_at arcs number).cost (fits_signed_from_abs w64 (arc_at arcs number).cost (omega arith)));
      sum_fits = fits_signed_from_abs w64 (r +ℤ (arc_at arcs number).cost) (omega arith);
      high_fits = fits_signed_from_abs w64 s (omega arith);
    }

pub sum_fits : (arcs : List Arc) (values : List ℤ) (number : ℕ) (r s : ℤ) → IsRead arcs values number r s → FitsSigned w64 (sum_of r (arc_at arcs number).cost)
sum_fits arcs values number r s read = subst (FitsSigned w64) (sym read.sum) read.sum_fits

-- the code's label is what the arc leads to
label_is : (arcs : List Arc) (values : List ℤ) (number : ℕ) (r s : ℤ) → IsRead arcs values number r s → to_z w64 (of_z w64 (sum_of r (arc_at arcs number).cost)) ≡ value_at values (arc_at arcs number).tail +ℤ (arc_at arcs number).cost
label_is arcs values number r s read =
    ap (λ z. to_z w64 (of_z w64 z)) read.sum ∙ to_z-of_z w64 (r +ℤ (arc_at arcs number).cost) read.sum_fits ∙ ap (λ z. z +ℤ (arc_at arcs number).cost) read.low

pub improves : (arcs : List Arc) (values : List ℤ) (number : ℕ) (r s : ℤ) → IsRead arcs values number r s → lt_z (to_z w64 (of_z w64 (sum_of r (arc_at arcs number).cost))) (to_z w64 (of_z w64 s)) ≡ true → Improves arcs values number (to_z w64 (of_z w64 (sum_of r (arc_at arcs number).cost)))
improves arcs values number r s read less = record {
  is = label_is arcs values number r s read;
  below = subst (λ z. to_z w64 (of_z w64 (sum_of r (arc_at arcs number).cost)) <ℤ z) (to_z-of_z w64 s read.high_fits ∙ read.high) (less_than (to_z w64 (of_z w64 (sum_of r (arc_at arcs number).cost))) (to_z w64 (of_z w64 s)) less);
}

pub fits_as_is : (arcs : List Arc) (values : List ℤ) (number : ℕ) (r s : ℤ) → IsRead arcs values number r s → lt_z (to_z w64 (of_z w64 (sum_of r (arc_at arcs number).cost))) (to_z w64 (of_z w64 s)) ≡ false → value_at values (arc_at arcs number).head ≤ℤ (value_at values (arc_at arcs number).tail +ℤ (arc_at arcs number).cost)
fits_as_is arcs values number r s read not =
    let label = label_is arcs values number r s read in
    let high = to_z-of_z w64 s read.high_fits ∙ read.high in
    let least = not_less (to_z w64 (of_z w64 (sum_of r (arc_at arcs number).cost))) (to_z w64 (of_z w64 s)) not in
    subst (λ z. value_at values (arc_at arcs number).head ≤ℤ z) label (subst (λ z. z ≤ℤ to_z w64 (of_z w64 (sum_of r (arc_at arcs number).cost))) high least)

pub read_low : (arcs : List Arc) (values : List ℤ) (number most : ℕ) (r : ℤ) → All (IsArc (length values)) arcs → most + max_cost ≤ most_within → AreWithin values most → number < length arcs → r ≡ get_or values (arc_at arcs number).tail r → FitsSigned w64 (sum_of r (arc_at arcs number).cost)
read_low arcs values number most r all few sized within low =
    let s = value_at values (arc_at arcs number).head in
    sum_fits arcs values number r s (reads arcs values number most r s all few sized within low (get_or_default values (arc_at arcs number).head (pos 0) s (arc_is (length values) arcs number all within).head))

-- a step leads to each index
index_again : (sweep : Sweep) (size k : ℕ) → k < size → (index_at sweep size k < size) × (index_at sweep size (index_at sweep size k) ≡ k)
index_again Forwards size k within = (within, refl)
index_again Backwards size k within = (omega arith, omega arith)

-- a pass that lowered nothing
pub passing_done : (arcs : List Arc) (old new : List ℤ) (was entries : List (Option ℕ)) (lowered : Bool) (sweep : Sweep) (step : ℕ) → length arcs ≤ step → lowered ≡ false → IsPassing arcs old new was entries lowered sweep step → IsFeasible arcs new
passing_done arcs old new was entries lowered sweep step past is passing =
    All-from_get_or (λ arc. value_at new arc.head ≤ℤ (value_at new arc.tail +ℤ arc.cost)) arcs (record { tail = 0; head = 0; cost = pos 0 }) (λ k within.
    let index = index_again sweep (length arcs) k within in
    let few = index.0 in
    subst (IsFitting arcs new) index.1 (passing.feasible is (index_at sweep (length arcs) k) (omega arith)))
