-- A walk over the arcs in front, each entering a vertex that was not entered before.
use Rattle.std.proofs.Common.{◌≡◌, ℕ, ◌+◌, ◌*◌, ◌<◌, ◌≤◌, inl, inr, Bool, true, false, ℤ, pos, ◌+ℤ◌, ◌<ℤ◌, to_z, of_z, w64, List, [], ◌∷◌, ◌++◌, All, length, get_or, eqb, unsigned_abs, refl, sym, ap, ◌∙◌, subst, arith, length-append}
use Rattle.std.specs.Cmp.{IsEquivalence}
use Rattle.std.specs.List.{IsDistinct, list_any}
use Rattle.std.proofs.Math.ListN.{set}
use Rattle.std.proofs.lemmas.Bool.{cases_eq, eq-eqb, eqb-true, ne_eqb}
use Rattle.std.proofs.lemmas.Int.{ints, to_z-of_z, fits_signed_from_abs}
use Rattle.std.proofs.lemmas.List.{length-set, get_or-set_other, get_or-set_same, get_or_default, map-append}
use Rattle.std.proofs.lemmas.List.Folds.{list_any-append}
use Rattle.std.proofs.lemmas.Map.Keys.{IsDistinct-push}
use Rattle.th_search.specs.Limits.{max_arcs, max_cost}
use Rattle.th_search.specs.Walks.{IsArc, IsWalk, IsNegativeCycle, arc_at, cost_of, entered_by}
use Rattle.th_search.specs.declared.arcs.Arc.{Arc}
use Rattle.th_search.proofs.DepthLemmas.{arc_is, none_twice}

-- the walk leads from one vertex to another, at this cost, and the marks tell which vertices it enters
pub record IsFront (n : ℕ) (arcs : List Arc) (start vertex : ℕ) (walk : List ℕ) (entered : List Bool) (cost : ℤ) (number : ℕ) : Type 0 where
  pub marks : length entered ≡ n
  pub size : length walk ≡ number
  pub leads : IsWalk arcs start walk vertex
  pub costs : cost ≡ cost_of arcs walk
  pub cost_size : unsigned_abs cost ≤ number * max_cost
  pub once : IsDistinct eqb (entered_by arcs walk)
  pub tells : (q : ℕ) → get_or entered q false ≡ list_any (eqb q) (entered_by arcs walk)

-- one more arc at the end
pub walk_push : (arcs : List Arc) (start : ℕ) (walk : List ℕ) (vertex number : ℕ) → number < length arcs → vertex ≡ (arc_at arcs number).tail → IsWalk arcs start walk vertex → IsWalk arcs start (walk ++ number ∷ []) (arc_at arcs number).head
walk_push arcs start [] vertex number within at leads = (within, leads ∙ at, refl)
walk_push arcs start (first ∷ walk) vertex number within at leads = (leads.0, leads.1, walk_push arcs (arc_at arcs first).head walk vertex number within at leads.2)

pub cost_push : (arcs : List Arc) (walk : List ℕ) (number : ℕ) → cost_of arcs (walk ++ number ∷ []) ≡ cost_of arcs walk +ℤ (arc_at arcs number).cost
cost_push arcs [] number = omega (arith, ints)
cost_push arcs (first ∷ walk) number = let rest = cost_push arcs walk number in omega (arith, ints)

entered_push : (arcs : List Arc) (walk : List ℕ) (number : ℕ) → entered_by arcs (walk ++ number ∷ []) ≡ entered_by arcs walk ++ (arc_at arcs number).head ∷ []
entered_push arcs walk number = map-append (λ number. (arc_at arcs number).head) walk (number ∷ [])

eqb_same : (x y : ℕ) → eqb x y ≡ eqb y x
eqb_same x y = grind arith

eqb_alike : (x y z : ℕ) → eqb x y ≡ true → eqb x z ≡ eqb y z
eqb_alike x y z h = ap (λ v. eqb v z) (eqb-true x y h)

eqb_laws : IsEquivalence eqb
eqb_laws = record { refl = λ x. eq-eqb x x refl; symm = eqb_same; congr = eqb_alike }

pub front_first : (n : ℕ) (arcs : List Arc) (start : ℕ) (entered : List Bool) → length entered ≡ n → ((q : ℕ) → get_or entered q false ≡ false) → IsFront n arcs start start [] entered (pos 0) 0
front_first n arcs start entered marks none = record {
  marks = marks;
  size = refl;
  leads = refl;
  costs = refl;
  cost_size = omega arith;
  once = none_twice;
  tells = none;
}

tells_push : (entered : List Bool) (heads : List ℕ) (head : ℕ) → head < length entered → ((q : ℕ) → get_or entered q false ≡ list_any (eqb q) heads) → (q : ℕ) → get_or (set entered head true) q false ≡ list_any (eqb q) (heads ++ head ∷ [])
tells_push entered heads head within tells q =
    let split = list_any-append (eqb q) heads (head ∷ []) in
    elim (cases_eq q head) [
      | inl same ↦
          let marked : get_or (set entered head true) q false ≡ true = ap (λ v. get_or (set entered head true) v false) same ∙ get_or-set_same entered head true false within in
          let here = eq-eqb q head same in
          grind arith
      | inr other ↦
          let marked = get_or-set_other entered head q true false other in
          let was = tells q in
          let here = ne_eqb q head other in
          grind arith
    ]

pub front_next : (n : ℕ) (arcs : List Arc) (start vertex : ℕ) (walk : List ℕ) (entered : List Bool) (cost : ℤ) (number : ℕ) (mark : Bool) → All (IsArc n) arcs → number < length arcs → (arc_at arcs number).tail ≡ vertex → mark ≡ get_or entered (arc_at arcs number).head mark → mark ≡ false → IsFront n arcs start vertex walk entered cost number → IsFront n arcs start (arc_at arcs number).head (walk ++ number ∷ []) (set entered (arc_at arcs number).head true) (cost +ℤ (arc_at arcs number).cost) (number + 1)
front_next n arcs start vertex walk entered cost number mark all within at read new front =
    let arc = arc_is n arcs number all within in
    let head : ℕ = (arc_at arcs number).head in
    let marks = front.marks in
    let high = arc.head in
    let inside : head < length entered = omega arith in
    let costs = front.costs in
    let more = cost_push arcs walk number in
    let few = front.cost_size in
    let one : unsigned_abs (arc_at arcs number).cost ≤ max_cost = arc.cost in
    let size = front.size in
    let longer = length-append walk (number ∷ []) in
    record {
      marks = length-set entered head true ∙ front.marks;
      size = omega arith;
      leads = walk_push arcs start walk vertex number within (sym at) front.leads;
      costs = omega (arith, ints);
      cost_size = omega (arith, ints);
      once = subst (IsDistinct eqb) (sym (entered_push arcs walk number)) (IsDistinct-push eqb_laws (entered_by arcs walk) head front.once (sym (front.tells head) ∙ get_or_default entered head false mark inside ∙ sym read ∙ new));
      tells = λ q. tells_push entered (entered_by arcs walk) head inside front.tells q ∙ ap (list_any (eqb q)) (sym (entered_push arcs walk number));
    }

pub front_closed : (n : ℕ) (arcs : List Arc) (start vertex : ℕ) (walk : List ℕ) (entered : List Bool) (cost : ℤ) (number : ℕ) → 0 < number → vertex ≡ start → cost <ℤ pos 0 → IsFront n arcs start vertex walk entered cost number → IsNegativeCycle arcs walk
front_closed n arcs start vertex walk entered cost number some back low front =
    let size = front.size in
    let costs = front.costs in
    record {
      some = omega arith;
      closed = (start, subst (IsWalk arcs start walk) back front.leads);
      once = front.once;
      negative = omega (arith, ints);
    }

-- the code's sum of costs is their sum
pub front_cost : (n : ℕ) (arcs : List Arc) (start vertex : ℕ) (walk : List ℕ) (entered : List Bool) (cost : ℤ) (number : ℕ) → All (IsArc n) arcs → length arcs ≤ max_arcs → number < length arcs → IsFront n arcs start vertex walk entered cost number → to_z w64 (of_z w64 (cost +ℤ to_z w64 (of_z w64 (arc_at arcs number).cost))) ≡ cost +ℤ (arc_at arcs number).cost
front_cost n arcs start vertex walk entered cost number all many within front =
    let one : unsigned_abs (arc_at arcs number).cost ≤ max_cost = (arc_is n arcs number all within).cost in
    let few = front.cost_size in
    let is = to_z-of_z w64 (arc_at arcs number).cost (fits_signed_from_abs w64 (arc_at arcs number).cost (omega arith)) in
    let small : unsigned_abs (cost +ℤ (arc_at arcs number).cost) ≤ max_arcs * max_cost = omega (arith, ints) in
    ap (λ z. to_z w64 (of_z w64 (cost +ℤ z))) is ∙ to_z-of_z w64 (cost +ℤ (arc_at arcs number).cost) (fits_signed_from_abs w64 (cost +ℤ (arc_at arcs number).cost) (omega arith))
