-- Balances, one flow after the other.
use Rattle.std.proofs.Common.{◌≡◌, ◌≢◌, ◌<◌, ◌≤◌, ◌+◌, ◌*◌, ◌==◌, ℕ, ℤ, pos, neg_ℤ, ◌+ℤ◌, ◌-ℤ◌, Bool, true, false, if◌then◌else◌, List, [], ◌∷◌, ◌++◌, length, get_or, take, unsigned_abs, refl, sym, ap, ◌∙◌, arith}
use Rattle.std.proofs.Math.ListN.{set}
use Rattle.std.proofs.lemmas.Bool.{eqb-true}
use Rattle.std.proofs.lemmas.Bool.Decides.{nat_tests}
use Rattle.std.proofs.lemmas.Int.{ints}
use Rattle.std.proofs.lemmas.List.{get_or-set_other, get_or-set_same, length-set, take_more}
use Rattle.std.proofs.lemmas.List.Sums.{fold-append}
use Rattle.th_network.specs.Circulation.{total_by}
use Rattle.th_certificate.specs.Certified.{flow_limit}
use Rattle.th_checker.specs.Inside.Tests.{AreBalances, added_at}

-- what stands at a place after a write
get_or-set : (xs : List ℤ) (i : ℕ) (v : ℤ) (k : ℕ) → i < length xs → get_or (set xs i v) k (pos 0) ≡ (if i == k then v else get_or xs k (pos 0))
get_or-set xs i v k within = by (i == k) refl
  where
    by : (same : Bool) → (i == k) ≡ same → get_or (set xs i v) k (pos 0) ≡ (if same then v else get_or xs k (pos 0))
    by true is = ap (λ j. get_or (set xs i v) j (pos 0)) (sym (eqb-true i k is)) ∙ get_or-set_same xs i v (pos 0) within
    by false is = (let other : k ≢ i = differs is in get_or-set_other xs i k v (pos 0) other)
      where
        differs : (i == k) ≡ false → k ≢ i
        differs apart same = grind (arith, nat_tests)

-- a flow taken at one place and given at another
pub two_sets : (old : List ℤ) (s t : ℕ) (flow : ℤ) (place : ℕ) → s < length old → t < length old
    → get_or (set (set old s (get_or old s (pos 0) +ℤ neg_ℤ flow)) t (get_or (set old s (get_or old s (pos 0) +ℤ neg_ℤ flow)) t (pos 0) +ℤ flow)) place (pos 0) ≡ get_or old place (pos 0) +ℤ added_at place ((s, t), flow)
two_sets old s t flow place a b =
    let once = set old s (get_or old s (pos 0) +ℤ neg_ℤ flow) in
    let second = get_or-set once t (get_or once t (pos 0) +ℤ flow) place (omega (arith, length-set old s (get_or old s (pos 0) +ℤ neg_ℤ flow), b)) in
    let at_t = get_or-set old s (get_or old s (pos 0) +ℤ neg_ℤ flow) t a in
    let at_place = get_or-set old s (get_or old s (pos 0) +ℤ neg_ℤ flow) place a in
    by (t == place) refl (s == place) refl second at_t at_place
  where
    by : (first : Bool) → (t == place) ≡ first → (other : Bool) → (s == place) ≡ other
        → get_or (set (set old s (get_or old s (pos 0) +ℤ neg_ℤ flow)) t (get_or (set old s (get_or old s (pos 0) +ℤ neg_ℤ flow)) t (pos 0) +ℤ flow)) place (pos 0)
        ≡ (if first then get_or (set old s (get_or old s (pos 0) +ℤ neg_ℤ flow)) t (pos 0) +ℤ flow else get_or (set old s (get_or old s (pos 0) +ℤ neg_ℤ flow)) place (pos 0))
        → get_or (set old s (get_or old s (pos 0) +ℤ neg_ℤ flow)) t (pos 0) ≡ (if s == t then get_or old s (pos 0) +ℤ neg_ℤ flow else get_or old t (pos 0))
        → get_or (set old s (get_or old s (pos 0) +ℤ neg_ℤ flow)) place (pos 0) ≡ (if other then get_or old s (pos 0) +ℤ neg_ℤ flow else get_or old place (pos 0))
        → get_or (set (set old s (get_or old s (pos 0) +ℤ neg_ℤ flow)) t (get_or (set old s (get_or old s (pos 0) +ℤ neg_ℤ flow)) t (pos 0) +ℤ flow)) place (pos 0)
        ≡ get_or old place (pos 0) +ℤ ((if first then flow else pos 0) -ℤ (if other then flow else pos 0))
    by false is false is' x y z = omega (arith, ints, x, z)
    by false is true is' x y z =
        let here = ap (λ k. get_or old k (pos 0)) (eqb-true s place is') in
        omega (arith, ints, x, z, here)
    by true is other is' x y z =
        let here : get_or (set old s (get_or old s (pos 0) +ℤ neg_ℤ flow)) t (pos 0) ≡ get_or (set old s (get_or old s (pos 0) +ℤ neg_ℤ flow)) place (pos 0) =
        ap (λ k. get_or (set old s (get_or old s (pos 0) +ℤ neg_ℤ flow)) k (pos 0)) (eqb-true t place is) in
        at_target other is' (x ∙ ap (λ v. v +ℤ flow) (here ∙ z))
      where
        at_target : (other : Bool) → (s == place) ≡ other
            → get_or (set (set old s (get_or old s (pos 0) +ℤ neg_ℤ flow)) t (get_or (set old s (get_or old s (pos 0) +ℤ neg_ℤ flow)) t (pos 0) +ℤ flow)) place (pos 0)
            ≡ (if other then get_or old s (pos 0) +ℤ neg_ℤ flow else get_or old place (pos 0)) +ℤ flow
            → get_or (set (set old s (get_or old s (pos 0) +ℤ neg_ℤ flow)) t (get_or (set old s (get_or old s (pos 0) +ℤ neg_ℤ flow)) t (pos 0) +ℤ flow)) place (pos 0)
            ≡ get_or old place (pos 0) +ℤ (flow -ℤ (if other then flow else pos 0))
        at_target false is' x = omega (arith, ints, x)
        at_target true is' x =
            let here = ap (λ k. get_or old k (pos 0)) (eqb-true s place is') in
            omega (arith, ints, x, here)

-- one term more
total_by-push : {X : Type 0} (f : X → ℤ) (xs : List X) (x : X) → total_by f (xs ++ x ∷ []) ≡ total_by f xs +ℤ f x
total_by-push f xs x = fold-append (λ total x. total +ℤ f x) (pos 0) xs (x ∷ [])

-- one flow more
pub balances_more : (points : ℕ) (pairs : List ((ℕ × ℕ) × ℤ)) (i s t : ℕ) (flow : ℤ) (old once new : List ℤ) → AreBalances points (take i pairs) old → i < length pairs → get_or pairs i ((0, 0), pos 0) ≡ ((s, t), flow)
    → s < points → t < points → once ≡ set old s (get_or old s (pos 0) +ℤ neg_ℤ flow) → new ≡ set once t (get_or once t (pos 0) +ℤ flow) → AreBalances points (take (i + 1) pairs) new
balances_more points pairs i s t flow old once new so_far within pair a b first second =
    let both : new ≡ set (set old s (get_or old s (pos 0) +ℤ neg_ℤ flow)) t (get_or (set old s (get_or old s (pos 0) +ℤ neg_ℤ flow)) t (pos 0) +ℤ flow) =
    second ∙ ap (λ (once : List ℤ). set once t (get_or once t (pos 0) +ℤ flow)) first in
    record {
      each = ap length both
          ∙ length-set (set old s (get_or old s (pos 0) +ℤ neg_ℤ flow)) t (get_or (set old s (get_or old s (pos 0) +ℤ neg_ℤ flow)) t (pos 0) +ℤ flow)
          ∙ length-set old s (get_or old s (pos 0) +ℤ neg_ℤ flow)
          ∙ so_far.each;
      sums = λ place below.
          ap (λ (xs : List ℤ). get_or xs place (pos 0)) both
          ∙ two_sets old s t flow place (omega (arith, so_far.each, a)) (omega (arith, so_far.each, b))
          ∙ ap (λ z. z +ℤ added_at place ((s, t), flow)) (so_far.sums place below)
          ∙ ap (λ pair. total_by (added_at place) (take i pairs) +ℤ added_at place pair) (sym pair)
          ∙ sym (total_by-push (added_at place) (take i pairs) (get_or pairs i ((0, 0), pos 0)))
          ∙ ap (total_by (added_at place)) (sym (take_more pairs i ((0, 0), pos 0) within));
    }

-- what one flow adds is small
added_small : (place : ℕ) (s t : ℕ) (flow : ℤ) → unsigned_abs flow < flow_limit → unsigned_abs (added_at place ((s, t), flow)) ≤ 2 * flow_limit
added_small place s t flow small = by (t == place) (s == place)
  where
    by : (first other : Bool) → unsigned_abs ((if first then flow else pos 0) -ℤ (if other then flow else pos 0)) ≤ 2 * flow_limit
    by true true = omega (arith, ints, small)
    by true false = omega (arith, ints, small)
    by false true = omega (arith, ints, small)
    by false false = omega (arith, ints, small)

pub small_more : (old once new : List ℤ) (i s t : ℕ) (flow : ℤ) (place : ℕ) → s < length old → t < length old → unsigned_abs flow < flow_limit → once ≡ set old s (get_or old s (pos 0) +ℤ neg_ℤ flow) → new ≡ set once t (get_or once t (pos 0) +ℤ flow)
    → unsigned_abs (get_or old place (pos 0)) ≤ i * (2 * flow_limit) → unsigned_abs (get_or new place (pos 0)) ≤ (i + 1) * (2 * flow_limit)
small_more old once new i s t flow place a b small first second so_far =
    let both : new ≡ set (set old s (get_or old s (pos 0) +ℤ neg_ℤ flow)) t (get_or (set old s (get_or old s (pos 0) +ℤ neg_ℤ flow)) t (pos 0) +ℤ flow) =
    second ∙ ap (λ (once : List ℤ). set once t (get_or once t (pos 0) +ℤ flow)) first in
    let value = ap (λ (xs : List ℤ). get_or xs place (pos 0)) both ∙ two_sets old s t flow place a b in
    let added = added_small place s t flow small in
    sum_small (get_or new place (pos 0)) (get_or old place (pos 0)) (added_at place ((s, t), flow)) i value so_far added
  where
    sum_small : (x y z : ℤ) (i : ℕ) → x ≡ y +ℤ z → unsigned_abs y ≤ i * (2 * flow_limit) → unsigned_abs z ≤ 2 * flow_limit → unsigned_abs x ≤ (i + 1) * (2 * flow_limit)
    sum_small x y z i is a b = omega (arith, ints)
