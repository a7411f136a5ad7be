-- Residual arcs whose vertices change places, so that another one is vertex 0.
use Rattle.std.proofs.Common.{◌≡◌, ◌==◌, ℕ, zero, suc, Bool, true, false, not, ◌<◌, ◌≤◌, ℤ, pos, ◌-ℤ◌, List, [], ◌∷◌, ◌++◌, Some, if◌then◌else◌, length, map, slice_get, take, unwrap_or, refl, ap, sym, ◌∙◌, arith}
use Rattle.std.proofs.lemmas.Bool.{eq-eqb, eqb-true}
use Rattle.std.proofs.lemmas.Int.{ints}
use Rattle.std.proofs.lemmas.List.Elements.{All-from_recursion, recursion_from_All}
use Rattle.std.proofs.lemmas.Option.{slice_get_within}
use Rattle.std.specs.List.{AllByRecursion}
use lib.Signed.{lt_z}
use Rattle.th_network.specs.Networks.{Survey, arcs_of, vertices_of, weights_of}
use Rattle.th_network.specs.declared.links.Link.{Link}
use Rattle.th_search.specs.declared.arcs.Arc.{Arc}
use Rattle.th_search.specs.Distances.{IsKept, KeepCosts}
use Rattle.th_search.specs.Walks.{IsArc}
use Rattle.th_circulation.specs.Inside.Residuals.{against, along, residual_arcs, residual_arcs_of, turned}
use Rattle.th_circulation.proofs.NearLemmas.{AllEntered, AreTied, EntersNot}
use Rattle.th_circulation.proofs.TiedLemmas.{arcs_in}
use Rattle.th_names.specs.Inside.Rooted.{exchanged, exchanged_link, rooted_arcs}

-- ---- vertices that change places
pub root_gone : (root : ℕ) → exchanged root root ≡ 0
root_gone root = by (root == 0) refl
  where
    by : (b : Bool) → (root == 0) ≡ b → (if b then root else (if root == root then 0 else root)) ≡ 0
    by true e = eqb-true root 0 e
    by false e = ap (λ c. if c then 0 else root) (eq-eqb root root refl)

pub exchanged_twice : (root v : ℕ) → exchanged root (exchanged root v) ≡ v
exchanged_twice root v = by (v == 0) refl (v == root) refl
  where
    by : (b : Bool) → (v == 0) ≡ b → (c : Bool) → (v == root) ≡ c → exchanged root (if b then root else (if c then 0 else v)) ≡ v
    by true e c f = root_gone root ∙ sym (eqb-true v 0 e)
    by false e true f = sym (eqb-true v root f)
    by false e false f = ap (λ b. if b then root else (if v == root then 0 else v)) e ∙ ap (λ c. if c then 0 else v) f

pub exchanged_within : (n root v : ℕ) → root < n → v < n → exchanged root v < n
exchanged_within n root v root_within within = by (v == 0) (v == root)
  where
    by : (b c : Bool) → (if b then root else (if c then 0 else v)) < n
    by true c = root_within
    by false true = let some = root_within in omega arith
    by false false = within

-- ---- what holds of arcs, and of those between the exchanged vertices
abbrev exchanged_arc : ℕ → Arc → Arc
exchanged_arc root arc = record { tail = exchanged root arc.tail; head = exchanged root arc.head; cost = arc.cost }

one_link : (P Q : Arc → Type 0) (b c : Bool) (first second first_other second_other : Arc) (rest rest_other : List Arc) → (P first → Q first_other) → (P second → Q second_other) → (AllByRecursion P rest → AllByRecursion Q rest_other) → AllByRecursion P (((if b then first ∷ [] else []) ++ (if c then second ∷ [] else [])) ++ rest) → AllByRecursion Q (((if b then first_other ∷ [] else []) ++ (if c then second_other ∷ [] else [])) ++ rest_other)
one_link P Q true true first second first_other second_other rest rest_other p q r all = (p all.0, (q all.1.0, r all.1.1))
one_link P Q true false first second first_other second_other rest rest_other p q r all = (p all.0, r all.1)
one_link P Q false true first second first_other second_other rest rest_other p q r all = (q all.0, r all.1)
one_link P Q false false first second first_other second_other rest rest_other p q r all = r all

pub arcs_moved : (P Q : Arc → Type 0) (root : ℕ) → ((arc : Arc) → P arc → Q (exchanged_arc root arc)) → (links : List Link) (weights : List ℕ) (flows : List ℤ) → AllByRecursion P (residual_arcs links weights flows) → AllByRecursion Q (residual_arcs (map (exchanged_link root) links) weights flows)
arcs_moved P Q root each [] weights flows all = tt
arcs_moved P Q root each (link ∷ links) [] flows all = tt
arcs_moved P Q root each (link ∷ links) (weight ∷ weights) [] all = tt
arcs_moved P Q root each (link ∷ links) (weight ∷ weights) (flow ∷ flows) all =
    one_link P Q (lt_z flow (pos weight)) (lt_z (pos 0 -ℤ pos weight) flow) (along link) (against link) (along (exchanged_link root link)) (against (exchanged_link root link)) (residual_arcs links weights flows) (residual_arcs (map (exchanged_link root) links) weights flows) (each (along link)) (each (against link)) (arcs_moved P Q root each links weights flows) all

pub arcs_back : (P Q : Arc → Type 0) (root : ℕ) → ((arc : Arc) → Q (exchanged_arc root arc) → P arc) → (links : List Link) (weights : List ℕ) (flows : List ℤ) → AllByRecursion Q (residual_arcs (map (exchanged_link root) links) weights flows) → AllByRecursion P (residual_arcs links weights flows)
arcs_back P Q root each [] weights flows all = tt
arcs_back P Q root each (link ∷ links) [] flows all = tt
arcs_back P Q root each (link ∷ links) (weight ∷ weights) [] all = tt
arcs_back P Q root each (link ∷ links) (weight ∷ weights) (flow ∷ flows) all =
    one_link Q P (lt_z flow (pos weight)) (lt_z (pos 0 -ℤ pos weight) flow) (along (exchanged_link root link)) (against (exchanged_link root link)) (along link) (against link) (residual_arcs (map (exchanged_link root) links) weights flows) (residual_arcs links weights flows) (each (along link)) (each (against link)) (arcs_back P Q root each links weights flows) all

-- ---- numbers that keep the costs
abbrev pub exchanged_numbers : ℕ → (ℕ → ℤ) → ℕ → ℤ
exchanged_numbers root numbers v = numbers (exchanged root v) -ℤ numbers root

pub keeps_rooted : (survey : Survey) (flows : List ℤ) (root : ℕ) (numbers : ℕ → ℤ) → KeepCosts (arcs_in survey flows) numbers → KeepCosts (rooted_arcs survey flows root) (exchanged_numbers root numbers)
keeps_rooted survey flows root numbers keep = record {
  start = none (numbers root);
  along = All-from_recursion (IsKept (exchanged_numbers root numbers)) (rooted_arcs survey flows root) (
      arcs_moved (IsKept numbers) (IsKept (exchanged_numbers root numbers)) root each (arcs_of survey) (weights_of survey) flows (recursion_from_All (IsKept numbers) (arcs_in survey flows) keep.along));
}
  where
    none : (z : ℤ) → z -ℤ z ≡ pos 0
    none z = omega (arith, ints)

    each : (arc : Arc) → IsKept numbers arc → IsKept (exchanged_numbers root numbers) (exchanged_arc root arc)
    each arc kept =
        let head = ap numbers (exchanged_twice root arc.head) in
        let tail = ap numbers (exchanged_twice root arc.tail) in
        omega (arith, ints)

pub keeps_unrooted : (survey : Survey) (flows : List ℤ) (root : ℕ) (numbers : ℕ → ℤ) → KeepCosts (rooted_arcs survey flows root) numbers → KeepCosts (arcs_in survey flows) (exchanged_numbers root numbers)
keeps_unrooted survey flows root numbers keep = record {
  start = none (numbers root);
  along = All-from_recursion (IsKept (exchanged_numbers root numbers)) (arcs_in survey flows) (
      arcs_back (IsKept (exchanged_numbers root numbers)) (IsKept numbers) root each (arcs_of survey) (weights_of survey) flows (recursion_from_All (IsKept numbers) (rooted_arcs survey flows root) keep.along));
}
  where
    none : (z : ℤ) → z -ℤ z ≡ pos 0
    none z = omega (arith, ints)

    each : (arc : Arc) → IsKept numbers (exchanged_arc root arc) → IsKept (exchanged_numbers root numbers) arc
    each arc kept = omega (arith, ints)

-- ---- sets of vertices that no arc enters
abbrev outside : (ℕ → Bool) → ℕ → Bool
outside inside v = not (inside v)

turned_over : (h t : Bool) → (h ≡ true → t ≡ true) → not t ≡ true → not h ≡ true
turned_over h true goes e = absurd (grind arith)
turned_over true false goes e = absurd (let there = goes refl in grind arith)
turned_over false false goes e = refl

left_by_none : (inside : ℕ → Bool) (arcs : List Arc) → AllByRecursion (EntersNot inside) arcs → AllByRecursion (EntersNot (outside inside)) (map turned arcs)
left_by_none inside [] closed = tt
left_by_none inside (arc ∷ arcs) closed = (turned_over (inside arc.head) (inside arc.tail) closed.0, left_by_none inside arcs closed.1)

left_by_none_back : (inside : ℕ → Bool) (arcs : List Arc) → AllByRecursion (EntersNot inside) (map turned arcs) → AllByRecursion (EntersNot (outside inside)) arcs
left_by_none_back inside [] closed = tt
left_by_none_back inside (arc ∷ arcs) closed = (turned_over (inside arc.tail) (inside arc.head) closed.0, left_by_none_back inside arcs closed.1)

unturned : (P : Arc → Type 0) (arcs : List Arc) → AllByRecursion P (map turned arcs) → AllByRecursion (λ arc. P (turned arc)) arcs
unturned P [] all = tt
unturned P (arc ∷ arcs) all = (all.0, unturned P arcs all.1)

all_turned : (P : Arc → Type 0) (arcs : List Arc) → AllByRecursion (λ arc. P (turned arc)) arcs → AllByRecursion P (map turned arcs)
all_turned P [] all = tt
all_turned P (arc ∷ arcs) all = (all.0, all_turned P arcs all.1)

-- a set without the root, or what is outside of it, is without vertex 0
none_inside : (n root : ℕ) (out back : List Arc) (inside : ℕ → Bool) → root < n → inside 0 ≡ false → AllEntered n out → AllEntered n back → AllByRecursion (EntersNot (λ v. inside (exchanged root v))) out → AllByRecursion (EntersNot (outside (λ v. inside (exchanged root v)))) back → (v : ℕ) → v < n → inside v ≡ false
none_inside n root out back inside root_within none entered entered_back closed closed_back v within = by (inside root) refl
  where
    by : (b : Bool) → inside root ≡ b → inside v ≡ false
    by false e = ap inside (sym (exchanged_twice root v)) ∙ entered (λ u. inside (exchanged root u)) e closed (exchanged root v) (exchanged_within n root v root_within within)
    by true e =
        let there = entered_back (outside (λ u. inside (exchanged root u))) (ap not e) closed_back root root_within in
        let gone = ap not (ap inside (root_gone root) ∙ none) in
        absurd (let clash = sym there ∙ gone in grind arith)

pub rooted_tied : (survey : Survey) (flows : List ℤ) (root : ℕ) → root < vertices_of survey → AreTied (vertices_of survey) (arcs_in survey flows) → AreTied (vertices_of survey) (rooted_arcs survey flows root)
rooted_tied survey flows root root_within tied = record {
  some = tied.some;
  few = tied.few;
  ends = arcs_moved (IsArc n) (IsArc n) root (λ arc is. record { tail = exchanged_within n root arc.tail root_within is.tail; head = exchanged_within n root arc.head root_within is.head; cost = is.cost }) links weights flows tied.ends;
  out = λ inside none closed.
      let own : ℕ → Bool = λ v. inside (exchanged root v) in
      let here = arcs_back (EntersNot own) (EntersNot inside) root (λ arc e. e) links weights flows closed in
      none_inside n root arcs (map turned arcs) inside root_within none tied.out tied.back here (left_by_none own arcs here);
  back = λ inside none closed.
      let own : ℕ → Bool = λ v. inside (exchanged root v) in
      let each = arcs_back (λ arc. EntersNot own (turned arc)) (λ arc. EntersNot inside (turned arc)) root (λ arc e. e) links weights flows (unturned (EntersNot inside) (rooted_arcs survey flows root) closed) in
      let here = all_turned (EntersNot own) arcs each in
      none_inside n root (map turned arcs) arcs inside root_within none tied.back tied.out here (left_by_none_back own arcs here);
}
  where
    n : ℕ
    n = vertices_of survey

    links : List Link
    links = arcs_of survey

    weights : List ℕ
    weights = weights_of survey

    arcs : List Arc
    arcs = arcs_in survey flows

-- ---- listing them, one link after another
pub slice_get_map : (f : Link → Link) (links : List Link) (i : ℕ) (link : Link) → slice_get links i ≡ Some link → slice_get (map f links) i ≡ Some (f link)
slice_get_map f [] i link at = absurd (let within = slice_get_within [] i link at in omega arith)
slice_get_map f (first ∷ links) zero link at = ap (λ found. Some (f (unwrap_or found first))) at
slice_get_map f (first ∷ links) (suc i) link at = slice_get_map f links i link at

pub all_taken : (i : ℕ) (links : List Link) (weights : List ℕ) (flows : List ℤ) → length links ≤ i → residual_arcs (take i links) (take i weights) (take i flows) ≡ residual_arcs links weights flows
all_taken zero [] weights flows less = refl
all_taken (suc i) [] weights flows less = refl
all_taken zero (link ∷ links) weights flows less = absurd (omega arith)
all_taken (suc i) (link ∷ links) [] flows less = refl
all_taken (suc i) (link ∷ links) (weight ∷ weights) [] less = refl
all_taken (suc i) (link ∷ links) (weight ∷ weights) (flow ∷ flows) less = ap (λ arcs. residual_arcs_of link weight flow ++ arcs) (all_taken i links weights flows (omega arith))
