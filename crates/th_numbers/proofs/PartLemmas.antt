-- The parts of a network, by labels of its points.
use Rattle.std.proofs.Common.{◌≡◌, ℕ, Bool, true, false, not, cond, ◌||◌, ◌==◌, ◌+◌, ◌<◌, ◌⊎◌, inl, inr, ℤ, Option, Some, None, List, [], ◌∷◌, All, Contains, is_some, bytes_eq, get_or, if◌then◌else◌, length, map, option_map, slice_get, refl, sym, ap, ◌∙◌, subst, arith}
use Rattle.std.proofs.lemmas.Bool.{cases_lt}
use Rattle.std.proofs.lemmas.Cmp.{nat_list_eq_equiv}
use Rattle.std.proofs.lemmas.List.{get_or-map, length-map}
use Rattle.std.proofs.lemmas.List.Elements.{All-contains, All-head, All-tail}
use Rattle.std.proofs.lemmas.Map.Views.{list_any-from_Contains}
use Rattle.std.proofs.lemmas.Option.{get_or_from_slice_get, same_Some, slice_get-map, slice_get_read, slice_get_within}
use Rattle.th_observations.specs.Observed.{Observed}
use Rattle.th_network.specs.Networks.{Survey, heights_of, points_of}
use Rattle.th_network.specs.Walks.{Leads, Walk}
use Rattle.th_points.specs.Ends.{ends_in, ends_of}
use Rattle.th_points.specs.Places.{place_of}
use Rattle.th_points.proofs.PlaceLemmas.{at_place_of, benchmarks_contained, ends_contained, place_of_at, points_distinct}
use Rattle.th_points.proofs.PointLemmas.{is_among}
use Rattle.th_tables.specs.Rows.{height_of}
use Rattle.th_numbers.specs.Inside.Parts.{AreApart, AreParts, HasOther, IsOther, label_of, relabelled}
use Rattle.th_numbers.specs.Ties.{IsTiedOn}
use Rattle.th_numbers.proofs.WalkLemmas.{walk_back, walk_none, walk_on, walk_there}

-- ---- points and their places
at_place : (survey : Survey) (name : List ℕ) → Contains (points_of survey) name → slice_get (points_of survey) (place_of (points_of survey) name) ≡ Some name
at_place survey name has = at_place_of (points_of survey) name (list_any-from_Contains nat_list_eq_equiv name (points_of survey) has)

place_below : (survey : Survey) (name : List ℕ) → Contains (points_of survey) name → place_of (points_of survey) name < length (points_of survey)
place_below survey name has = slice_get_within (points_of survey) (place_of (points_of survey) name) name (at_place survey name has)

ends_at : (survey : Survey) (o : Observed) → Contains survey.observations o → Contains (points_of survey) o.station × Contains (points_of survey) o.target
ends_at survey o has = All-contains (λ o. Contains (points_of survey) o.station × Contains (points_of survey) o.target) survey.observations o (ends_contained survey.observations survey.benchmarks) has

contained : (xs : List Observed) (k : ℕ) (o : Observed) → slice_get xs k ≡ Some o → Contains xs o
contained xs k o at = (k, slice_get_within xs k o at, get_or_from_slice_get xs k o o at)

among_below : (names : List (List ℕ)) (name : List ℕ) → place_of names name < length names → is_among names name ≡ true
among_below [] name below = absurd (omega arith)
among_below (first ∷ names) name below = by (bytes_eq name first) (among_below names name) below
  where
    by : (b : Bool) → (place_of names name < length names → is_among names name ≡ true) → cond (not b) (1 + place_of names name) 0 < length (first ∷ names) → (b || is_among names name) ≡ true
    by true rest less = refl
    by false rest less = rest (omega arith)

-- ---- labels that are all different
pub apart_parts : (survey : Survey) (labels : List ℕ) → AreApart (length (points_of survey)) labels → AreParts survey 0 labels
apart_parts survey labels apart = record {
  each = apart.each;
  joined = λ k o below at. absurd (omega arith);
  walked = λ a b has_a has_b same.
      let names = points_of survey in
      let p = place_of names a in
      let q = place_of names b in
      let of_a = apart.own p (place_below survey a has_a) in
      let of_b = apart.own q (place_below survey b has_b) in
      let places : p ≡ q = sym of_a ∙ same ∙ of_b in
      let is : a ≡ b = same_Some _ _ (sym (at_place survey a has_a) ∙ ap (slice_get names) places ∙ at_place survey b has_b) in
      subst (Walk survey.observations a) is (walk_none survey.observations a);
}

-- ---- one observation more
relabelled_cases : (from to x y : ℕ) → relabelled from to x ≡ relabelled from to y → (x ≡ y) ⊎ (((x ≡ from) × (y ≡ to)) ⊎ ((x ≡ to) × (y ≡ from)))
relabelled_cases from to x y same = by (x == from) (y == from) refl refl same
  where
    by : (b c : Bool) → (x == from) ≡ b → (y == from) ≡ c → (if b then to else x) ≡ (if c then to else y) → (x ≡ y) ⊎ (((x ≡ from) × (y ≡ to)) ⊎ ((x ≡ to) × (y ≡ from)))
    by true true e f is = let u : x ≡ from = grind arith in let v : y ≡ from = grind arith in inl (u ∙ sym v)
    by true false e f is = let u : x ≡ from = grind arith in inr (inl (u, sym is))
    by false true e f is = let v : y ≡ from = grind arith in inr (inr (is, v))
    by false false e f is = inl is

relabelled_one : (from to : ℕ) → relabelled from to to ≡ to
relabelled_one from to = by (to == from)
  where
    by : (b : Bool) → (if b then to else to) ≡ to
    by true = refl
    by false = refl

relabelled_other : (from to : ℕ) → relabelled from to from ≡ to
relabelled_other from to = by (from == from) (grind arith)
  where
    by : (b : Bool) → b ≡ true → (if b then to else from) ≡ to
    by true e = refl
    by false e = absurd (grind arith)

less_or_same : (k i : ℕ) → k < i + 1 → (k < i) ⊎ (k ≡ i)
less_or_same k i below = elim (cases_lt k i) [ inl less ↦ inl less | inr more ↦ inr (omega arith) ]

pub joined_parts : (survey : Survey) (i : ℕ) (o : Observed) (old new : List ℕ) → slice_get survey.observations i ≡ Some o → AreParts survey i old → length new ≡ length old
    → ((v : ℕ) → v < length old → get_or new v 0 ≡ relabelled (label_of survey old o.target) (label_of survey old o.station) (get_or old v 0)) → AreParts survey (i + 1) new
joined_parts survey i o old new at parts same_length each = record {
  each = same_length ∙ parts.each;
  joined = λ k other below there. by k other (less_or_same k i below) there;
  walked = λ a b has_a has_b same. walk a b has_a has_b (relabelled_cases from to (label_of survey old a) (label_of survey old b) (sym (moved a has_a) ∙ same ∙ moved b has_b));
}
  where
    from : ℕ
    from = label_of survey old o.target

    to : ℕ
    to = label_of survey old o.station

    has : Contains survey.observations o
    has = contained survey.observations i o at

    moved : (name : List ℕ) → Contains (points_of survey) name → label_of survey new name ≡ relabelled from to (label_of survey old name)
    moved name inside = each (place_of (points_of survey) name) (omega (arith, place_below survey name inside, parts.each))

    by : (k : ℕ) (other : Observed) → (k < i) ⊎ (k ≡ i) → slice_get survey.observations k ≡ Some other → label_of survey new other.station ≡ label_of survey new other.target
    by k other (inl below) there =
        let ends = ends_at survey other (contained survey.observations k other there) in
        moved other.station ends.0 ∙ ap (relabelled from to) (parts.joined k other below there) ∙ sym (moved other.target ends.1)
    by k other (inr is) there =
        let same : o ≡ other = same_Some _ _ (sym at ∙ ap (slice_get survey.observations) (sym is) ∙ there) in
        let ends = ends_at survey o has in
        subst (λ (own : Observed). label_of survey new own.station ≡ label_of survey new own.target) same
        (moved o.station ends.0 ∙ relabelled_one from to ∙ sym (relabelled_other from to) ∙ sym (moved o.target ends.1))

    walk : (a b : List ℕ) → Contains (points_of survey) a → Contains (points_of survey) b → (label_of survey old a ≡ label_of survey old b) ⊎ (((label_of survey old a ≡ from) × (label_of survey old b ≡ to)) ⊎ ((label_of survey old a ≡ to) × (label_of survey old b ≡ from))) → Walk survey.observations a b
    walk a b has_a has_b (inl same) = parts.walked a b has_a has_b same
    walk a b has_a has_b (inr (inl same)) =
        let ends = ends_at survey o has in
        walk_on survey.observations a o.target b (parts.walked a o.target has_a ends.1 same.0)
        (walk_on survey.observations o.target o.station b (walk_back survey.observations o has) (parts.walked o.station b ends.0 has_b (sym same.1)))
    walk a b has_a has_b (inr (inr same)) =
        let ends = ends_at survey o has in
        walk_on survey.observations a o.station b (parts.walked a o.station has_a ends.0 same.0)
        (walk_on survey.observations o.station o.target b (walk_there survey.observations o has) (parts.walked o.target b ends.1 has_b (sym same.1)))

-- the places of an observation's ends are those in the list of all
end_places : (survey : Survey) (i : ℕ) (pair : ℕ × ℕ) → slice_get (ends_of survey.observations survey.benchmarks) i ≡ Some pair → (o : Observed) × (slice_get survey.observations i ≡ Some o) × (pair ≡ ends_in (points_of survey) o)
end_places survey i pair at = by (slice_get survey.observations i) refl (sym (slice_get-map (ends_in (points_of survey)) survey.observations i) ∙ at)
  where
    by : (found : Option Observed) → slice_get survey.observations i ≡ found → option_map (ends_in (points_of survey)) found ≡ Some pair → (o : Observed) × (slice_get survey.observations i ≡ Some o) × (pair ≡ ends_in (points_of survey) o)
    by None e is = absurd (cc is)
    by (Some o) e is = (o, e, sym (same_Some _ _ is))

pub joined_next : (survey : Survey) (i : ℕ) (pair : ℕ × ℕ) (old new : List ℕ) → slice_get (ends_of survey.observations survey.benchmarks) i ≡ Some pair → AreParts survey i old → length new ≡ length old
    → ((v : ℕ) → v < length old → get_or new v 0 ≡ relabelled (get_or old pair.1 0) (get_or old pair.0 0) (get_or old v 0)) → AreParts survey (i + 1) new
joined_next survey i pair old new at parts same each =
    let (o, there, places) = end_places survey i pair at in
    joined_parts survey i o old new there parts same (λ v below. each v below ∙ ap (λ (p : ℕ × ℕ). relabelled (get_or old p.1 0) (get_or old p.0 0) (get_or old v 0)) places)

pub joined_map : (survey : Survey) (i : ℕ) (pair : ℕ × ℕ) (old new : List ℕ) → slice_get (ends_of survey.observations survey.benchmarks) i ≡ Some pair → AreParts survey i old
    → new ≡ map (relabelled (get_or old pair.1 0) (get_or old pair.0 0)) old → AreParts survey (i + 1) new
joined_map survey i pair old new at parts is =
    let from = get_or old pair.1 0 in
    let to = get_or old pair.0 0 in
    joined_next survey i pair old new at parts (ap length is ∙ length-map old (relabelled from to))
    (λ v below. ap (λ (own : List ℕ). get_or own v 0) is ∙ get_or-map (relabelled from to) old v 0 0 below)

-- ---- all observations: points that a walk joins have one label
along : (survey : Survey) (labels : List ℕ) → AreParts survey (length survey.observations) labels → (chain : List Observed) (a b : List ℕ) → All (Contains survey.observations) chain → Leads chain a b → label_of survey labels a ≡ label_of survey labels b
along survey labels parts [] a b among leads = ap (label_of survey labels) leads
along survey labels parts (o ∷ chain) a b among leads =
    let (k, within, is) = All-head (Contains survey.observations) o chain among in
    let level = parts.joined k o within (slice_get_read survey.observations (length survey.observations) k o refl within (sym is)) in
    let rest = All-tail (Contains survey.observations) o chain among in
    elim leads [
      | inl h ↦ ap (label_of survey labels) h.0 ∙ level ∙ along survey labels parts chain o.target b rest h.1
      | inr h ↦ ap (label_of survey labels) h.0 ∙ sym level ∙ along survey labels parts chain o.station b rest h.1
    ]

-- ---- a benchmark in the same part
fixed_point : (survey : Survey) (k : ℕ) (height : ℤ) → slice_get (heights_of survey) k ≡ Some (Some height) → (name : List ℕ) × (slice_get (points_of survey) k ≡ Some name) × (height_of survey.benchmarks name ≡ Some height)
fixed_point survey k height at = by (slice_get (points_of survey) k) refl (sym (slice_get-map (height_of survey.benchmarks) (points_of survey) k) ∙ at)
  where
    by : (found : Option (List ℕ)) → slice_get (points_of survey) k ≡ found → option_map (height_of survey.benchmarks) found ≡ Some (Some height) → (name : List ℕ) × (slice_get (points_of survey) k ≡ Some name) × (height_of survey.benchmarks name ≡ Some height)
    by None e is = absurd (cc is)
    by (Some name) e is = (name, e, same_Some _ _ is)

pub other_is_tied : (survey : Survey) (labels : List ℕ) (name : List ℕ) → AreParts survey (length survey.observations) labels → place_of (points_of survey) name < length labels → HasOther survey labels (place_of (points_of survey) name) → IsTiedOn survey name
other_is_tied survey labels name parts below (k, within, other) =
    let names = points_of survey in
    let (point, there, listed) = fixed_point survey k other.height other.fixed in
    let has : Contains names name = among_contained_here in
    let place : place_of names point ≡ k = place_of_at names k point (points_distinct survey.observations survey.benchmarks) there in
    let same : label_of survey labels name ≡ label_of survey labels point = sym other.joined ∙ ap (λ (p : ℕ). get_or labels p 0) (sym place) in
    let has_point : Contains names point = benchmarks_contained survey.observations survey.benchmarks point (ap is_some listed) in
    (point, ap is_some listed, (λ is. other.other (sym place ∙ ap (place_of names) is)), parts.walked name point has has_point same)
  where
    among_contained_here : Contains (points_of survey) name
    among_contained_here =
        let there = at_place_of (points_of survey) name (among_below (points_of survey) name (omega (arith, parts.each))) in
        (place_of (points_of survey) name, slice_get_within (points_of survey) (place_of (points_of survey) name) name there, get_or_from_slice_get (points_of survey) (place_of (points_of survey) name) name name there)

pub tied_is_point : (survey : Survey) (name : List ℕ) → IsTiedOn survey name → Contains (points_of survey) name
tied_is_point survey name (other, listed, apart, (chain, among, leads)) = by chain among leads
  where
    by : (chain : List Observed) → All (Contains survey.observations) chain → Leads chain name other → Contains (points_of survey) name
    by [] none is = absurd (apart (sym is))
    by (o ∷ rest) all from =
        let ends = ends_at survey o (All-head (Contains survey.observations) o rest all) in
        elim from [
          | inl h ↦ subst (Contains (points_of survey)) (sym h.0) ends.0
          | inr h ↦ subst (Contains (points_of survey)) (sym h.0) ends.1
        ]

pub tied_has_other : (survey : Survey) (labels : List ℕ) (name : List ℕ) → AreParts survey (length survey.observations) labels → IsTiedOn survey name → HasOther survey labels (place_of (points_of survey) name)
tied_has_other survey labels name parts (other, listed, apart, walk) =
    let names = points_of survey in
    let has = benchmarks_contained survey.observations survey.benchmarks other listed in
    let k = place_of names other in
    (k, omega (arith, place_below survey other has, parts.each), by (height_of survey.benchmarks other) refl)
  where
    by : (found : Option ℤ) → height_of survey.benchmarks other ≡ found → IsOther survey labels (place_of (points_of survey) name) (place_of (points_of survey) other)
    by None e = absurd (false_true (sym (ap is_some e) ∙ listed))
      where
        false_true : false ≡ true → ⊥
        false_true same = cc
    by (Some height) e =
        let has = benchmarks_contained survey.observations survey.benchmarks other listed in
        let there = at_place survey other has in
        record {
          other = λ is. apart (sym (named is));
          joined = sym (along survey labels parts walk.0 name other walk.1 walk.2);
          height = height;
          fixed = slice_get-map (height_of survey.benchmarks) (points_of survey) (place_of (points_of survey) other) ∙ ap (option_map (height_of survey.benchmarks)) there ∙ ap Some e;
        }
      where
        named : place_of (points_of survey) other ≡ place_of (points_of survey) name → name ≡ other
        named is = same_Some _ _ (sym (at_place survey name (tied_is_point survey name (other, listed, apart, walk))) ∙ ap (slice_get (points_of survey)) (sym is) ∙ at_place survey other (benchmarks_contained survey.observations survey.benchmarks other listed))

pub tied_is_below : (survey : Survey) (labels : List ℕ) (name : List ℕ) → AreParts survey (length survey.observations) labels → IsTiedOn survey name → place_of (points_of survey) name < length labels
tied_is_below survey labels name parts tied = omega (arith, place_below survey name (tied_is_point survey name tied), parts.each)
