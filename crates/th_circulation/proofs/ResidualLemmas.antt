-- Residual arcs say of numbers of vertices what the flows say of heights.
use Rattle.std.proofs.Common.{◌≡◌, ℕ, zero, suc, ◌+◌, Some, take, slice_get, append_assoc, add-one, Bool, true, false, ◌++◌, ◌<◌, ◌≤◌, ℤ, pos, ◌-ℤ◌, List, [], ◌∷◌, All, if◌then◌else◌, map, unsigned_abs, refl, ap, sym, ◌∙◌, arith}
use Rattle.std.proofs.lemmas.Int.{ints}
use Rattle.std.proofs.lemmas.List.{append-nil}
use Rattle.std.specs.List.{AllZip, AllByRecursion}
use lib.Signed.{lt_z}
use Rattle.th_observations.specs.Observed.{Observed}
use Rattle.th_tables.specs.Rows.{BenchmarkRows, WeightRows, weight_of}
use Rattle.th_network.specs.Links.{base, largest_link_difference, link_of}
use Rattle.th_points.specs.Points.{points}
use Rattle.th_network.specs.Vertices.{vertex_of}
use Rattle.th_network.specs.declared.links.Link.{Link}
use Rattle.th_points.proofs.PointLemmas.{EndsAmong, is_among}
use Rattle.th_search.specs.declared.arcs.Arc.{Arc}
use Rattle.th_search.specs.Walks.{IsArc}
use Rattle.th_circulation.specs.Inside.Cuts.{LeavesFull}
use Rattle.th_circulation.specs.Inside.Residuals.{against, along, residual_arcs, residual_arcs_of, turned}
use Rattle.th_search.specs.Distances.{IsKept}
use Rattle.th_circulation.proofs.BestLemmas.{IsBounded}
use Rattle.th_circulation.proofs.ExtremeLemmas.{bounds_of}
use Rattle.th_circulation.proofs.Bounds.{KeepsAll}
use Rattle.th_circulation.proofs.MisreadLemmas.{lt_z-false}
use Rattle.th_circulation.proofs.NearLemmas.{EntersNot}

-- ---- what holds of a link's arcs, and of those after them
both : (P : Arc → Type 0) (b c : Bool) (first second : Arc) (rest : List Arc) → (b ≡ true → P first) → (c ≡ true → P second) → AllByRecursion P rest → AllByRecursion P (((if b then first ∷ [] else []) ++ (if c then second ∷ [] else [])) ++ rest)
both P true true first second rest p q all = (p refl, (q refl, all))
both P true false first second rest p q all = (p refl, all)
both P false true first second rest p q all = (q refl, all)
both P false false first second rest p q all = all

record Parts (P : Arc → Type 0) (b c : Bool) (first second : Arc) (rest : List Arc) : Type 0 where
  along_it : b ≡ true → P first
  against_it : c ≡ true → P second
  others : AllByRecursion P rest

parted : (P : Arc → Type 0) (b c : Bool) (first second : Arc) (rest : List Arc) → AllByRecursion P (((if b then first ∷ [] else []) ++ (if c then second ∷ [] else [])) ++ rest) → Parts P b c first second rest
parted P true true first second rest all = record { along_it = λ e. all.0; against_it = λ e. all.1.0; others = all.1.1 }
parted P true false first second rest all = record { along_it = λ e. all.0; against_it = λ e. absurd (grind arith); others = all.1 }
parted P false true first second rest all = record { along_it = λ e. absurd (grind arith); against_it = λ e. all.0; others = all.1 }
parted P false false first second rest all = record { along_it = λ e. absurd (grind arith); against_it = λ e. absurd (grind arith); others = all }

-- ---- heights and numbers of vertices
-- each point's height is the benchmark's part less the number of its vertex
abbrev pub AreMatched : List Observed → BenchmarkRows → (List ℕ → ℤ) → (ℕ → ℤ) → Type 0
AreMatched all benchmarks heights numbers = (name : List ℕ) → is_among (points all benchmarks) name ≡ true → heights name ≡ base benchmarks name -ℤ numbers (vertex_of all benchmarks name)

abbrev weights_in : WeightRows → List Observed → List ℕ
weights_in weights observations = map (λ o. weight_of weights o.station o.target) observations

pub arcs_kept : (all : List Observed) (benchmarks : BenchmarkRows) (weights : WeightRows) (heights : List ℕ → ℤ) (numbers : ℕ → ℤ) (observations : List Observed) (flows : List ℤ) → AreMatched all benchmarks heights numbers → AllByRecursion (EndsAmong (points all benchmarks)) observations → KeepsAll heights (bounds_of weights observations flows) → AllByRecursion (IsKept numbers) (residual_arcs (map (link_of all benchmarks) observations) (weights_in weights observations) flows)
arcs_kept all benchmarks weights heights numbers [] flows matched ends kept = tt
arcs_kept all benchmarks weights heights numbers (o ∷ observations) [] matched ends kept = tt
arcs_kept all benchmarks weights heights numbers (o ∷ observations) (flow ∷ flows) matched ends kept =
    let w = weight_of weights o.station o.target in
    let link = link_of all benchmarks o in
    let station = matched o.station ends.0.0 in
    let target = matched o.target ends.0.1 in
    both (IsKept numbers) (lt_z flow (pos w)) (lt_z (pos 0 -ℤ pos w) flow) (along link) (against link) (residual_arcs (map (link_of all benchmarks) observations) (weights_in weights observations) flows) (λ room. let up = kept.0 room in omega (arith, ints)) (λ room. let down = kept.1.0 room in omega (arith, ints)) (arcs_kept all benchmarks weights heights numbers observations flows matched ends.1 kept.1.1)

pub bounds_kept : (all : List Observed) (benchmarks : BenchmarkRows) (weights : WeightRows) (heights : List ℕ → ℤ) (numbers : ℕ → ℤ) (observations : List Observed) (flows : List ℤ) → AreMatched all benchmarks heights numbers → AllByRecursion (EndsAmong (points all benchmarks)) observations → AllByRecursion (IsKept numbers) (residual_arcs (map (link_of all benchmarks) observations) (weights_in weights observations) flows) → KeepsAll heights (bounds_of weights observations flows)
bounds_kept all benchmarks weights heights numbers [] flows matched ends kept = tt
bounds_kept all benchmarks weights heights numbers (o ∷ observations) [] matched ends kept = tt
bounds_kept all benchmarks weights heights numbers (o ∷ observations) (flow ∷ flows) matched ends kept =
    let w = weight_of weights o.station o.target in
    let link = link_of all benchmarks o in
    let station = matched o.station ends.0.0 in
    let target = matched o.target ends.0.1 in
    let parts = parted (IsKept numbers) (lt_z flow (pos w)) (lt_z (pos 0 -ℤ pos w) flow) (along link) (against link) (residual_arcs (map (link_of all benchmarks) observations) (weights_in weights observations) flows) kept in (
      λ room. let up = parts.along_it room in omega (arith, ints),
      (λ room. let down = parts.against_it room in omega (arith, ints), bounds_kept all benchmarks weights heights numbers observations flows matched ends.1 parts.others),
    )

-- ---- sets that no arc enters or leaves
whole : (w : ℕ) (f : ℤ) → unsigned_abs f ≤ w → lt_z f (pos w) ≡ false → f ≡ pos w
whole w f bounded e = let high = lt_z-false f (pos w) e in omega (arith, ints)

whole_back : (w : ℕ) (f : ℤ) → unsigned_abs f ≤ w → lt_z (pos 0 -ℤ pos w) f ≡ false → f ≡ pos 0 -ℤ pos w
whole_back w f bounded e = let low = lt_z-false (pos 0 -ℤ pos w) f e in omega (arith, ints)

full_where : (w : ℕ) (f : ℤ) (s t b : Bool) → unsigned_abs f ≤ w → lt_z f (pos w) ≡ b → (b ≡ true → s ≡ true → t ≡ true) → s ≡ true → t ≡ false → f ≡ pos w
full_where w f s t true bounded e goes there not = let got = goes refl there in absurd (grind arith)
full_where w f s t false bounded e goes there not = whole w f bounded e

full_back_where : (w : ℕ) (f : ℤ) (s t b : Bool) → unsigned_abs f ≤ w → lt_z (pos 0 -ℤ pos w) f ≡ b → (b ≡ true → s ≡ true → t ≡ true) → s ≡ true → t ≡ false → f ≡ pos 0 -ℤ pos w
full_back_where w f s t true bounded e goes there not = let got = goes refl there in absurd (grind arith)
full_back_where w f s t false bounded e goes there not = whole_back w f bounded e

all_mapped : (P : Arc → Type 0) (arcs : List Arc) → AllByRecursion P (map turned arcs) → AllByRecursion (λ arc. P (turned arc)) arcs
all_mapped P [] all = tt
all_mapped P (arc ∷ arcs) all = (all.0, all_mapped P arcs all.1)

abbrev pub inside_at : List Observed → BenchmarkRows → (ℕ → Bool) → List ℕ → Bool
inside_at all benchmarks inside name = inside (vertex_of all benchmarks name)

leaves_full : (all : List Observed) (benchmarks : BenchmarkRows) (weights : WeightRows) (inside : ℕ → Bool) (observations : List Observed) (flows : List ℤ) → IsBounded weights observations flows → AllByRecursion (λ arc. EntersNot inside (turned arc)) (residual_arcs (map (link_of all benchmarks) observations) (weights_in weights observations) flows) → AllZip (LeavesFull (inside_at all benchmarks inside) weights) observations flows
leaves_full all benchmarks weights inside [] [] bounded none = tt
leaves_full all benchmarks weights inside [] (flow ∷ flows) bounded none = absurd bounded
leaves_full all benchmarks weights inside (o ∷ observations) [] bounded none = absurd bounded
leaves_full all benchmarks weights inside (o ∷ observations) (flow ∷ flows) bounded none =
    let w = weight_of weights o.station o.target in
    let link = link_of all benchmarks o in
    let parts = parted (λ arc. EntersNot inside (turned arc)) (lt_z flow (pos w)) (lt_z (pos 0 -ℤ pos w) flow) (along link) (against link) (residual_arcs (map (link_of all benchmarks) observations) (weights_in weights observations) flows) none in (
      (
        full_where w flow (inside link.tail) (inside link.head) (lt_z flow (pos w)) bounded.0 refl parts.along_it,
        λ out there. full_back_where w flow (inside link.head) (inside link.tail) (lt_z (pos 0 -ℤ pos w) flow) bounded.0 refl parts.against_it there out,
      ),
      leaves_full all benchmarks weights inside observations flows bounded.1 parts.others,
    )

pub left_full : (all : List Observed) (benchmarks : BenchmarkRows) (weights : WeightRows) (inside : ℕ → Bool) (observations : List Observed) (flows : List ℤ) → IsBounded weights observations flows → AllByRecursion (EntersNot inside) (map turned (residual_arcs (map (link_of all benchmarks) observations) (weights_in weights observations) flows)) → AllZip (LeavesFull (inside_at all benchmarks inside) weights) observations flows
left_full all benchmarks weights inside observations flows bounded none = leaves_full all benchmarks weights inside observations flows bounded (all_mapped (EntersNot inside) (residual_arcs (map (link_of all benchmarks) observations) (weights_in weights observations) flows) none)

-- each flow with the other sign
abbrev pub opposites : List ℤ → List ℤ
opposites flows = map (λ flow. pos 0 -ℤ flow) flows

pub entered_full : (all : List Observed) (benchmarks : BenchmarkRows) (weights : WeightRows) (inside : ℕ → Bool) (observations : List Observed) (flows : List ℤ) → IsBounded weights observations flows → AllByRecursion (EntersNot inside) (residual_arcs (map (link_of all benchmarks) observations) (weights_in weights observations) flows) → AllZip (LeavesFull (inside_at all benchmarks inside) weights) observations (opposites flows)
entered_full all benchmarks weights inside [] [] bounded none = tt
entered_full all benchmarks weights inside [] (flow ∷ flows) bounded none = absurd bounded
entered_full all benchmarks weights inside (o ∷ observations) [] bounded none = absurd bounded
entered_full all benchmarks weights inside (o ∷ observations) (flow ∷ flows) bounded none =
    let w = weight_of weights o.station o.target in
    let link = link_of all benchmarks o in
    let parts = parted (EntersNot inside) (lt_z flow (pos w)) (lt_z (pos 0 -ℤ pos w) flow) (along link) (against link) (residual_arcs (map (link_of all benchmarks) observations) (weights_in weights observations) flows) none in (
      (
        λ there out. let is = full_back_where w flow (inside link.tail) (inside link.head) (lt_z (pos 0 -ℤ pos w) flow) bounded.0 refl parts.against_it there out in omega (arith, ints),
        λ out there. let is = full_where w flow (inside link.head) (inside link.tail) (lt_z flow (pos w)) bounded.0 refl parts.along_it there out in omega (arith, ints),
      ),
      entered_full all benchmarks weights inside observations flows bounded.1 parts.others,
    )

-- ---- the arcs are between the vertices
pub record IsLink (vertices : ℕ) (link : Link) : Type 0 where
  pub tail : link.tail < vertices
  pub head : link.head < vertices
  pub near : unsigned_abs link.diff ≤ largest_link_difference

pub arcs_within : (vertices : ℕ) (links : List Link) (weights : List ℕ) (flows : List ℤ) → AllByRecursion (IsLink vertices) links → AllByRecursion (IsArc vertices) (residual_arcs links weights flows)
arcs_within vertices [] weights flows ends = tt
arcs_within vertices (link ∷ links) [] flows ends = tt
arcs_within vertices (link ∷ links) (weight ∷ weights) [] ends = tt
arcs_within vertices (link ∷ links) (weight ∷ weights) (flow ∷ flows) ends =
    let near = ends.0.near in
    both (IsArc vertices) (lt_z flow (pos weight)) (lt_z (pos 0 -ℤ pos weight) flow) (along link) (against link) (residual_arcs links weights flows) (λ e. record { tail = ends.0.tail; head = ends.0.head; cost = omega (arith, ints) }) (λ e. record { tail = ends.0.head; head = ends.0.tail; cost = omega (arith, ints) }) (arcs_within vertices links weights flows ends.1)

-- ---- listing them, one link after another
first_arcs : (link : Link) (weight : ℕ) (flow : ℤ) (links : List Link) (weights : List ℕ) (flows : List ℤ) → residual_arcs (take 1 (link ∷ links)) (take 1 (weight ∷ weights)) (take 1 (flow ∷ flows)) ≡ residual_arcs_of link weight flow
first_arcs link weight flow links weights flows = append-nil (residual_arcs_of link weight flow)

arcs_up_to : (links : List Link) (weights : List ℕ) (flows : List ℤ) (i : ℕ) (link : Link) (weight : ℕ) (flow : ℤ) → slice_get links i ≡ Some link → slice_get weights i ≡ Some weight → slice_get flows i ≡ Some flow → residual_arcs (take (suc i) links) (take (suc i) weights) (take (suc i) flows) ≡ residual_arcs (take i links) (take i weights) (take i flows) ++ residual_arcs_of link weight flow
arcs_up_to [] weights flows i link weight flow a b c = absurd (cc)
arcs_up_to (l ∷ links) [] flows i link weight flow a b c = absurd (cc)
arcs_up_to (l ∷ links) (w ∷ weights) [] i link weight flow a b c = absurd (cc)
arcs_up_to (l ∷ links) (w ∷ weights) (f ∷ flows) zero link weight flow a b c =
    let same_link : l ≡ link = cc in
    let same_weight : w ≡ weight = cc in
    let same_flow : f ≡ flow = cc in
    first_arcs l w f links weights flows ∙ ap (λ x. residual_arcs_of x w f) same_link ∙ ap (λ x. residual_arcs_of link x f) same_weight ∙ ap (λ x. residual_arcs_of link weight x) same_flow
arcs_up_to (l ∷ links) (w ∷ weights) (f ∷ flows) (suc i) link weight flow a b c = ap (λ arcs. residual_arcs_of l w f ++ arcs) (arcs_up_to links weights flows i link weight flow a b c) ∙ sym (append_assoc (residual_arcs_of l w f) (residual_arcs (take i links) (take i weights) (take i flows)) (residual_arcs_of link weight flow))

pub arcs_more : (links : List Link) (weights : List ℕ) (flows : List ℤ) (i : ℕ) (link : Link) (weight : ℕ) (flow : ℤ) (arcs more : List Arc) → slice_get links i ≡ Some link → slice_get weights i ≡ Some weight → slice_get flows i ≡ Some flow → arcs ≡ residual_arcs (take i links) (take i weights) (take i flows) → more ≡ arcs ++ residual_arcs_of link weight flow → more ≡ residual_arcs (take (i + 1) links) (take (i + 1) weights) (take (i + 1) flows)
arcs_more links weights flows i link weight flow arcs more a b c before is = is ∙ ap (λ xs. xs ++ residual_arcs_of link weight flow) before ∙ sym (arcs_up_to links weights flows i link weight flow a b c) ∙ ap (λ n. residual_arcs (take n links) (take n weights) (take n flows)) (sym (add-one i))

-- the two arcs of a link, one after the other, as the code reads and tests its numbers
pub arcs_added : (old mid new : List Arc) (link : Link) (weight : ℕ) (flow f w n d cost : ℤ) → f ≡ flow → w ≡ pos weight → n ≡ pos 0 -ℤ pos weight → cost ≡ pos 0 -ℤ link.diff → d ≡ link.diff → mid ≡ old ++ (if lt_z f w then record { tail = link.tail; head = link.head; cost = cost } ∷ [] else []) → new ≡ mid ++ (if lt_z n f then record { tail = link.head; head = link.tail; cost = d } ∷ [] else []) → new ≡ old ++ residual_arcs_of link weight flow
arcs_added old mid new link weight flow f w n d cost is_flow is_weight is_low is_cost is_diff first second = cc (append_assoc old (if lt_z flow (pos weight) then along link ∷ [] else []) (if lt_z (pos 0 -ℤ pos weight) flow then against link ∷ [] else []))

pub links_within : (vertices : ℕ) (links : List Link) → All (λ link. (link.tail < vertices) × (link.head < vertices)) links → All (λ link. unsigned_abs link.diff ≤ largest_link_difference) links → All (IsLink vertices) links
links_within vertices links ends near = λ k d within. record { tail = (ends k d within).0; head = (ends k d within).1; near = near k d within }
