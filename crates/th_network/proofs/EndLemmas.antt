-- Observations between the same points: their points, vertices, weights and ties are the same.
use Rattle.std.proofs.Common.{◌≡◌, ℕ, ◌+◌, ◌<◌, ◌≤◌, ℤ, pos, ◌+ℤ◌, ◌-ℤ◌, FitsSigned, to_z, of_z, w64, List, [], ◌∷◌, ◌++◌, Option, Some, None, All, count_by, length, get_or, slice_get, flat_map, map, unsigned_abs, unwrap_or, refl, sym, ap, ◌∙◌, subst, arith}
use Rattle.std.proofs.lemmas.Int.{fits_signed_from_abs, ints, to_z-of_z}
use Rattle.std.proofs.lemmas.List.{length-map, get_or-map}
use Rattle.std.proofs.lemmas.List.Elements.{All-get_or}
use Rattle.std.proofs.lemmas.Option.{slice_get-get_or}
use Rattle.th_units.specs.Limits.{max_len}
use Rattle.th_observations.specs.Observed.{Observed, IsBetweenPoints, largest_difference}
use Rattle.th_tables.specs.Rows.{BenchmarkRows, WeightRows, height_of, weight_of}
use Rattle.th_points.specs.Ends.{ends_of}
use Rattle.th_points.specs.Places.{place_of}
use Rattle.th_points.specs.Points.{distinct, ends, points}
use Rattle.th_points.proofs.PlaceLemmas.{ends_at_places}
use Rattle.th_network.specs.Faults.{IsNetwork}
use Rattle.th_network.specs.Inside.Linked.{AreLinks}
use Rattle.th_network.specs.Inside.Reached.{IsReached}
use Rattle.th_network.specs.Limits.{max_points}
use Rattle.th_network.specs.Links.{base, largest_link_difference, link_of}
use Rattle.th_network.specs.Networks.{HaveSameEnds, IsBuilt, Survey, points_between}
use Rattle.th_network.specs.Vertices.{is_free, vertex_at, vertex_count, vertex_of}
use Rattle.th_network.specs.Walks.{Anchored, IsTied}
use Rattle.th_network.specs.declared.links.Link.{Link}
use Rattle.th_network.proofs.LinkLemmas.{AreLinked, base_at, linked_more, sum_small}
use Rattle.th_network.proofs.TieLemmas.{reached_from_tied, tied_from_reached}

-- what is made of the ends of each observation is the same
by_ends : {A : Type 0} (g : List ℕ → List ℕ → A) (observations : List Observed) → map (λ o. g o.station o.target) observations ≡ map (λ p. g p.0 p.1) (map points_between observations)
by_ends g [] = refl
by_ends g (o ∷ observations) = ap (λ rest. g o.station o.target ∷ rest) (by_ends g observations)

pub same_by_ends : {A : Type 0} (g : List ℕ → List ℕ → A) (observations others : List Observed) → HaveSameEnds observations others → map (λ o. g o.station o.target) others ≡ map (λ o. g o.station o.target) observations
same_by_ends g observations others same = by_ends g others ∙ ap (map (λ p. g p.0 p.1)) same ∙ sym (by_ends g observations)

ends_by : (observations : List Observed) → ends observations ≡ flat_map (λ p. p.0 ∷ p.1 ∷ []) (map points_between observations)
ends_by [] = refl
ends_by (o ∷ observations) = ap (λ names. o.station ∷ o.target ∷ [] ++ names) (ends_by observations)

pub same_points : (observations others : List Observed) (benchmarks : BenchmarkRows) → HaveSameEnds observations others → points others benchmarks ≡ points observations benchmarks
unfolding points
same_points observations others benchmarks same =
    ap (λ names. distinct (names ++ map (λ row. row.0) benchmarks)) (ends_by others ∙ ap (flat_map (λ p. p.0 ∷ p.1 ∷ [])) same ∙ sym (ends_by observations))

pub same_ends : (observations others : List Observed) (benchmarks : BenchmarkRows) → HaveSameEnds observations others → ends_of others benchmarks ≡ ends_of observations benchmarks
same_ends observations others benchmarks same =
    ap (λ names. map (λ o. (place_of names o.station, place_of names o.target)) others) (same_points observations others benchmarks same)
    ∙ same_by_ends (λ station target. (place_of (points observations benchmarks) station, place_of (points observations benchmarks) target)) observations others same

pub same_count : (observations others : List Observed) → HaveSameEnds observations others → length others ≡ length observations
same_count observations others same = sym (length-map others points_between) ∙ ap length same ∙ length-map observations points_between

-- ---- ties
tied_too : (observations others : List Observed) (benchmarks : BenchmarkRows) (k : ℕ) (name : List ℕ) → HaveSameEnds observations others → slice_get (points observations benchmarks) k ≡ Some name → IsTied observations benchmarks name → IsTied others benchmarks name
tied_too observations others benchmarks k name same at tied =
    let names = same_points observations others benchmarks same in
    let here = ap (λ (ns : List (List ℕ)). slice_get ns k) names ∙ at in
    let reached = reached_from_tied observations benchmarks k name at tied in
    tied_from_reached others benchmarks k
    (subst (λ (ns : List (List ℕ)). IsReached (map (height_of benchmarks) ns) (ends_of others benchmarks) k) (sym names)
    (subst (λ (es : List (ℕ × ℕ)). IsReached (map (height_of benchmarks) (points observations benchmarks)) es k) (sym (same_ends observations others benchmarks same)) reached)) name here

anchored_too : (observations others : List Observed) (benchmarks : BenchmarkRows) → HaveSameEnds observations others → Anchored observations benchmarks → Anchored others benchmarks
anchored_too observations others benchmarks same anchored =
    subst (All (IsTied others benchmarks)) (sym (same_points observations others benchmarks same)) (λ k d within.
    let names = points observations benchmarks in
    tied_too observations others benchmarks k (get_or names k d) same (slice_get-get_or names k d within) (All-get_or (IsTied observations benchmarks) names k d within anchored))

pub network_too : (observations others : List Observed) (benchmarks : BenchmarkRows) → HaveSameEnds observations others → IsNetwork observations benchmarks → IsNetwork others benchmarks
network_too observations others benchmarks same network = record {
  few_observations = omega (arith, same_count observations others same, network.few_observations);
  few_points = subst (λ (names : List (List ℕ)). length names ≤ max_points) (sym (same_points observations others benchmarks same)) network.few_points;
  anchored = anchored_too observations others benchmarks same network.anchored;
}

-- ---- links
base_small : (benchmarks : BenchmarkRows) (names : List (List ℕ)) (heights : List (Option ℤ)) (name : List ℕ) (place : ℕ) → heights ≡ map (height_of benchmarks) names → All (λ height. unsigned_abs (unwrap_or height (pos 0)) ≤ max_len) heights → slice_get names place ≡ Some name → unsigned_abs (base benchmarks name) ≤ max_len
base_small benchmarks names heights name place fixed low at =
    let found = base_at benchmarks names heights name place fixed at in
    subst (λ (height : Option ℤ). unsigned_abs (unwrap_or height (pos 0)) ≤ max_len) found.1 (All-get_or (λ height. unsigned_abs (unwrap_or height (pos 0)) ≤ max_len) heights place None found.0 low)

-- the link of an observation, and small heights of benchmarks at its ends
pub record IsLinkAt (observations : List Observed) (benchmarks : BenchmarkRows) (old : Observed) (link : Link) : Type 0 where
  pub is : link ≡ link_of observations benchmarks old
  pub from_small : unsigned_abs (base benchmarks old.station) ≤ max_len
  pub to_small : unsigned_abs (base benchmarks old.target) ≤ max_len

pub link_at : (observations : List Observed) (benchmarks : BenchmarkRows) (heights : List (Option ℤ)) (arcs : List Link) (i : ℕ) (old : Observed) (d : Link) → heights ≡ map (height_of benchmarks) (points observations benchmarks) → All (λ height. unsigned_abs (unwrap_or height (pos 0)) ≤ max_len) heights → arcs ≡ map (link_of observations benchmarks) observations → i < length observations → old ≡ get_or observations i old → IsLinkAt observations benchmarks old (get_or arcs i d)
link_at observations benchmarks heights arcs i old d fixed low linked within here =
    let names = points observations benchmarks in
    let places = ends_at_places observations benchmarks old (i, within, sym here) in
    record {
      is = ap (λ (links : List Link). get_or links i d) linked ∙ get_or-map (link_of observations benchmarks) observations i old d within ∙ ap (link_of observations benchmarks) (sym here);
      from_small = base_small benchmarks names heights old.station (place_of names old.station) fixed low places.0;
      to_small = base_small benchmarks names heights old.target (place_of names old.target) fixed low places.1;
    }

-- another difference without the benchmarks' heights stays far within 64 bits
pub without_fits : (l w f t : ℤ) → unsigned_abs w ≤ largest_difference → unsigned_abs f ≤ max_len → unsigned_abs t ≤ max_len → l ≡ w +ℤ f -ℤ t → FitsSigned w64 (to_z w64 (of_z w64 l) -ℤ to_z w64 (of_z w64 w))
without_fits l w f t a b e h = fits_signed_from_abs w64 (to_z w64 (of_z w64 l) -ℤ to_z w64 (of_z w64 w)) (omega (arith, ints))

pub other_is : (d l w f t : ℤ) → unsigned_abs d ≤ largest_difference → unsigned_abs w ≤ largest_difference → unsigned_abs f ≤ max_len → unsigned_abs t ≤ max_len → l ≡ w +ℤ f -ℤ t → to_z w64 (of_z w64 d) +ℤ to_z w64 (of_z w64 (to_z w64 (of_z w64 l) -ℤ to_z w64 (of_z w64 w))) ≡ d +ℤ f -ℤ t
other_is d l w f t a b e g h = omega (arith, ints)

pub other_fits : (d l w f t : ℤ) → unsigned_abs d ≤ largest_difference → unsigned_abs w ≤ largest_difference → unsigned_abs f ≤ max_len → unsigned_abs t ≤ max_len → l ≡ w +ℤ f -ℤ t → FitsSigned w64 (to_z w64 (of_z w64 d) +ℤ to_z w64 (of_z w64 (to_z w64 (of_z w64 l) -ℤ to_z w64 (of_z w64 w))))
other_fits d l w f t a b e g h = subst (FitsSigned w64) (sym (other_is d l w f t a b e g h)) (fits_signed_from_abs w64 (d +ℤ f -ℤ t) (omega (arith, ints, a, e, g)))

pub other_exact : (d l w f t : ℤ) → unsigned_abs d ≤ largest_difference → unsigned_abs w ≤ largest_difference → unsigned_abs f ≤ max_len → unsigned_abs t ≤ max_len → l ≡ w +ℤ f -ℤ t → to_z w64 (of_z w64 (to_z w64 (of_z w64 d) +ℤ to_z w64 (of_z w64 (to_z w64 (of_z w64 l) -ℤ to_z w64 (of_z w64 w))))) ≡ d +ℤ f -ℤ t
other_exact d l w f t a b e g h = to_z-of_z w64 _ (other_fits d l w f t a b e g h) ∙ other_is d l w f t a b e g h

ends_here : (observations others : List Observed) (i : ℕ) (old o : Observed) → HaveSameEnds observations others → i < length others → old ≡ get_or observations i old → o ≡ get_or others i o → points_between o ≡ points_between old
ends_here observations others i old o same within was here =
    let before : i < length observations = omega (arith, same_count observations others same) in
    ap points_between here
    ∙ sym (get_or-map points_between others i o (points_between o) within)
    ∙ ap (λ (ends : List (List ℕ × List ℕ)). get_or ends i (points_between o)) same
    ∙ get_or-map points_between observations i old (points_between o) before
    ∙ ap points_between (sym was)

pub relinked_more : (observations others : List Observed) (benchmarks : BenchmarkRows) (i : ℕ) (old o : Observed) (link other : Link) (links links' : List Link) → HaveSameEnds observations others → i < length others → old ≡ get_or observations i old → o ≡ get_or others i o → IsLinkAt observations benchmarks old link → other.tail ≡ link.tail → other.head ≡ link.head → other.diff ≡ o.difference +ℤ base benchmarks old.station -ℤ base benchmarks old.target → IsBetweenPoints o → links' ≡ links ++ other ∷ [] → AreLinked others benchmarks i links → AreLinked others benchmarks (i + 1) links'
relinked_more observations others benchmarks i old o link other links links' same within was here at tail head diff between pushed h =
    let ends = ends_here observations others i old o same within was here in
    let station : old.station ≡ o.station = sym (ap (λ (p : List ℕ × List ℕ). p.0) ends) in
    let target : old.target ≡ o.target = sym (ap (λ (p : List ℕ × List ℕ). p.1) ends) in
    let names = sym (same_points observations others benchmarks same) in
    let vertex : (name : List ℕ) → vertex_of observations benchmarks name ≡ vertex_of others benchmarks name = λ name. ap (λ (ns : List (List ℕ)). vertex_at benchmarks ns (place_of ns name) name) names in
    linked_more others benchmarks i o other links links' within here
    (tail ∙ ap (λ (l : Link). l.tail) at.is ∙ vertex old.station ∙ ap (vertex_of others benchmarks) station)
    (head ∙ ap (λ (l : Link). l.head) at.is ∙ vertex old.target ∙ ap (vertex_of others benchmarks) target)
    (diff ∙ ap (λ (name : List ℕ). o.difference +ℤ base benchmarks name -ℤ base benchmarks old.target) station ∙ ap (λ (name : List ℕ). o.difference +ℤ base benchmarks o.station -ℤ base benchmarks name) target)
    (subst (λ (z : ℤ). unsigned_abs z ≤ largest_link_difference) (sym diff) (sum_small o.difference (base benchmarks old.station) (base benchmarks old.target) between.in_range at.from_small at.to_small))
    between pushed h

-- with these links, the points, vertices and weights of a network are those of another one between the same points
pub built_too : (survey other : Survey) (names : List (List ℕ)) (heights : List (Option ℤ)) (ends : List (ℕ × ℕ)) (weights of_points : List ℕ) (count : ℕ) (arcs arcs' : List Link) → HaveSameEnds survey.observations other.observations → other.benchmarks ≡ survey.benchmarks → other.weights ≡ survey.weights → IsBuilt survey names heights ends weights of_points count arcs → AreLinks other.observations other.benchmarks arcs' → IsBuilt other names heights ends weights of_points count arcs'
built_too survey other names heights ends weights of_points count arcs arcs' same benchmarks table built linked = record {
  network = subst (IsNetwork other.observations) (sym benchmarks) (network_too survey.observations other.observations survey.benchmarks same built.network);
  between = linked.between;
  all_points = built.all_points ∙ sym all;
  fixed = built.fixed ∙ ap (λ (rows : BenchmarkRows). map (height_of rows) (points survey.observations survey.benchmarks)) (sym benchmarks) ∙ ap (map (height_of other.benchmarks)) (sym all);
  low = built.low;
  placed = built.placed ∙ sym (ap (ends_of other.observations) benchmarks ∙ same_ends survey.observations other.observations survey.benchmarks same);
  weighed = built.weighed ∙ sym (ap (λ (rows : WeightRows). map (λ o. weight_of rows o.station o.target) other.observations) table ∙ same_by_ends (weight_of survey.weights) survey.observations other.observations same);
  light = built.light;
  numbered = built.numbered ∙ numbers;
  vertices = built.vertices ∙ ap (λ (names : List (List ℕ)). count_by (is_free survey.benchmarks) names + 1) (sym (same_points survey.observations other.observations survey.benchmarks same)) ∙ ap (vertex_count other.observations) (sym benchmarks);
  links = linked.all;
  in_range = linked.in_range;
}
  where
    all : points other.observations other.benchmarks ≡ points survey.observations survey.benchmarks
    all = ap (points other.observations) benchmarks ∙ same_points survey.observations other.observations survey.benchmarks same

    numbers : map (vertex_of survey.observations survey.benchmarks) (points survey.observations survey.benchmarks) ≡ map (vertex_of other.observations other.benchmarks) (points other.observations other.benchmarks)
    numbers =
        ap (λ (names : List (List ℕ)). map (λ name. vertex_at survey.benchmarks names (place_of names name) name) names) (sym (same_points survey.observations other.observations survey.benchmarks same))
        ∙ ap (λ (rows : BenchmarkRows). map (vertex_of other.observations rows) (points other.observations rows)) (sym benchmarks)
