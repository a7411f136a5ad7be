-- The links of observations, one after the other.
use Rattle.std.proofs.Common.{◌≡◌, ℕ, ◌+◌, ◌<◌, ◌≤◌, ℤ, pos, ◌+ℤ◌, ◌-ℤ◌, List, [], ◌∷◌, ◌++◌, length, get_or, slice_get, take, map, Option, Some, None, All, FitsSigned, to_z, of_z, w64, unsigned_abs, unwrap_or, sym, ap, ◌∙◌, subst, arith}
use Rattle.std.proofs.lemmas.Int.{fits_signed_from_abs, ints, to_z-of_z}
use Rattle.std.proofs.lemmas.List.{length-map, map-append, take_more, get_or-map}
use Rattle.std.proofs.lemmas.List.Elements.{All-get_or, All-push}
use Rattle.std.proofs.lemmas.Option.{slice_get_within, get_or_from_slice_get}
use Rattle.th_units.specs.Limits.{max_len}
use Rattle.th_observations.specs.Observed.{Observed, IsBetweenPoints, largest_difference}
use Rattle.th_tables.specs.Rows.{BenchmarkRows, height_of}
use Rattle.th_points.specs.Points.{points}
use Rattle.th_points.specs.Places.{place_of}
use Rattle.th_network.specs.Vertices.{vertex_of}
use Rattle.th_points.specs.Ends.{ends_in}
use Rattle.th_network.specs.Inside.Numbered.{AreVertices}
use Rattle.th_network.specs.Inside.Sites.{AreSites, Looked}
use Rattle.th_network.specs.Links.{largest_link_difference, link_difference, link_of}
use Rattle.th_network.specs.declared.links.Link.{Link}
use Rattle.th_points.proofs.PlaceLemmas.{ends_at_places}
use Rattle.th_network.proofs.SiteLemmas.{heights_of_points}

-- the place is within the vertices, and what is read there is this
abbrev pub Reads : List ℕ → ℕ → ℕ → Type 0
Reads vertices place vertex = (place < length vertices) × ((read : ℕ) → read ≡ get_or vertices place read → read ≡ vertex)

-- a vertex is read at the place of its point
read_at : (observations : List Observed) (benchmarks : BenchmarkRows) (vertices : List ℕ) (count : ℕ) (name : List ℕ) (place : ℕ) → AreVertices benchmarks (points observations benchmarks) vertices count → slice_get (points observations benchmarks) (place_of (points observations benchmarks) name) ≡ Some name → place ≡ place_of (points observations benchmarks) name → Reads vertices place (vertex_of observations benchmarks name)
read_at observations benchmarks vertices count name place h at is =
    let vertex = vertex_of observations benchmarks name in
    let there : slice_get vertices place ≡ Some vertex = ap (slice_get vertices) is ∙ h.each (place_of (points observations benchmarks) name) name at in
    (slice_get_within vertices place vertex there, λ read same. same ∙ get_or_from_slice_get vertices place vertex read there)

-- the height at the place of a point is its own
pub base_at : (benchmarks : BenchmarkRows) (names : List (List ℕ)) (heights : List (Option ℤ)) (name : List ℕ) (place : ℕ) → heights ≡ map (height_of benchmarks) names → slice_get names place ≡ Some name → (place < length heights) × (get_or heights place None ≡ height_of benchmarks name)
base_at benchmarks names heights name place fixed at =
    let within = slice_get_within names place name at in (
      omega (arith, ap length fixed, length-map names (height_of benchmarks)),
      ap (λ (hs : List (Option ℤ)). get_or hs place None) fixed
          ∙ get_or-map (height_of benchmarks) names place name None within
          ∙ ap (height_of benchmarks) (get_or_from_slice_get names place name name at),
    )

-- what is read at a place of vertices and of heights is that of a point
pub record IsReadAt (observations : List Observed) (benchmarks : BenchmarkRows) (heights : List (Option ℤ)) (vertices : List ℕ) (name : List ℕ) (place : ℕ) : Type 0 where
  pub vertex : Reads vertices place (vertex_of observations benchmarks name)
  pub within : place < length heights
  pub height : get_or heights place None ≡ height_of benchmarks name
  pub small : unsigned_abs (unwrap_or (get_or heights place None) (pos 0)) ≤ max_len

-- at the places of an observation's ends its ends are read
pub ends_read : (looked : Looked) (names : List (List ℕ)) (ends es : List (ℕ × ℕ)) (heights hs : List (Option ℤ)) (vertices : List ℕ) (count i : ℕ) (o : Observed) → AreSites looked names ends heights → es ≡ ends → hs ≡ heights
    → AreVertices looked.benchmarks (points looked.observations looked.benchmarks) vertices count → i < length looked.observations → o ≡ get_or looked.observations i o
    → IsReadAt looked.observations looked.benchmarks hs vertices o.station (get_or es i (0, 0)).0 × IsReadAt looked.observations looked.benchmarks hs vertices o.target (get_or es i (0, 0)).1
ends_read looked names ends es heights hs vertices count i o are same_ends same_heights v within here = (
  read o.station pair.0 there.0 (ap (λ (p : ℕ × ℕ). p.0) found),
  read o.target pair.1 there.1 (ap (λ (p : ℕ × ℕ). p.1) found),
)
  where
    pair : ℕ × ℕ
    pair = get_or es i (0, 0)

    found : get_or es i (0, 0) ≡ ends_in (points looked.observations looked.benchmarks) o
    found =
        ap (λ (own : List (ℕ × ℕ)). get_or own i (0, 0)) (same_ends ∙ are.are.placed)
        ∙ get_or-map (ends_in (points looked.observations looked.benchmarks)) looked.observations i o (0, 0) within
        ∙ ap (ends_in (points looked.observations looked.benchmarks)) (sym here)

    there : (slice_get (points looked.observations looked.benchmarks) (place_of (points looked.observations looked.benchmarks) o.station) ≡ Some o.station)
        × (slice_get (points looked.observations looked.benchmarks) (place_of (points looked.observations looked.benchmarks) o.target) ≡ Some o.target)
    there = let both = ends_at_places looked.observations looked.benchmarks o (i, within, sym here) in (both.0, both.1)

    fixed : hs ≡ map (height_of looked.benchmarks) (points looked.observations looked.benchmarks)
    fixed = same_heights ∙ heights_of_points looked names ends heights are

    read : (name : List ℕ) (place : ℕ) → slice_get (points looked.observations looked.benchmarks) (place_of (points looked.observations looked.benchmarks) name) ≡ Some name → place ≡ place_of (points looked.observations looked.benchmarks) name
        → IsReadAt looked.observations looked.benchmarks hs vertices name place
    read name place at_name is =
        let here_too : slice_get (points looked.observations looked.benchmarks) place ≡ Some name = ap (slice_get (points looked.observations looked.benchmarks)) is ∙ at_name in
        let base = base_at looked.benchmarks (points looked.observations looked.benchmarks) hs name place fixed here_too in
        record {
          vertex = read_at looked.observations looked.benchmarks vertices count name place v at_name is;
          within = base.0;
          height = base.1;
          small = All-get_or (λ height. unsigned_abs (unwrap_or height (pos 0)) ≤ max_len) hs place None base.0 (subst (All (λ height. unsigned_abs (unwrap_or height (pos 0)) ≤ max_len)) (sym same_heights) are.in_range);
        }

-- a difference and two heights of benchmarks stay far within 64 bits
pub sum_is : (d f t : ℤ) → unsigned_abs d ≤ largest_difference → unsigned_abs f ≤ max_len → unsigned_abs t ≤ max_len → to_z w64 (of_z w64 (to_z w64 (of_z w64 d) +ℤ to_z w64 (of_z w64 f))) -ℤ to_z w64 (of_z w64 t) ≡ d +ℤ f -ℤ t
sum_is d f t a b e = omega (arith, ints)

pub sum_fits : (d f t : ℤ) → unsigned_abs d ≤ largest_difference → unsigned_abs f ≤ max_len → unsigned_abs t ≤ max_len → FitsSigned w64 (to_z w64 (of_z w64 (to_z w64 (of_z w64 d) +ℤ to_z w64 (of_z w64 f))) -ℤ to_z w64 (of_z w64 t))
sum_fits d f t a b e = subst (FitsSigned w64) (sym (sum_is d f t a b e)) (fits_signed_from_abs w64 (d +ℤ f -ℤ t) (omega (arith, ints, a, b, e)))

pub sum_exact : (d f t : ℤ) → unsigned_abs d ≤ largest_difference → unsigned_abs f ≤ max_len → unsigned_abs t ≤ max_len → to_z w64 (of_z w64 (to_z w64 (of_z w64 (to_z w64 (of_z w64 d) +ℤ to_z w64 (of_z w64 f))) -ℤ to_z w64 (of_z w64 t))) ≡ d +ℤ f -ℤ t
sum_exact d f t a b e = to_z-of_z w64 _ (sum_fits d f t a b e) ∙ sum_is d f t a b e

pub sum_small : (d f t : ℤ) → unsigned_abs d ≤ largest_difference → unsigned_abs f ≤ max_len → unsigned_abs t ≤ max_len → unsigned_abs (d +ℤ f -ℤ t) ≤ largest_link_difference
sum_small d f t a b e = omega (arith, ints, a, b, e)

abbrev made : ℕ → ℕ → ℤ → Link
made t u d = record { tail = t; head = u; diff = d }

-- the first i observations are linked
pub record AreLinked (observations : List Observed) (benchmarks : BenchmarkRows) (i : ℕ) (links : List Link) : Type 0 where
  pub all : links ≡ map (link_of observations benchmarks) (take i observations)
  pub in_range : All (λ link. unsigned_abs link.diff ≤ largest_link_difference) links
  pub between : All IsBetweenPoints (take i observations)

pub linked_more : (observations : List Observed) (benchmarks : BenchmarkRows) (i : ℕ) (o : Observed) (link : Link) (links links' : List Link) → i < length observations → o ≡ get_or observations i o → link.tail ≡ vertex_of observations benchmarks o.station → link.head ≡ vertex_of observations benchmarks o.target → link.diff ≡ link_difference benchmarks o → unsigned_abs link.diff ≤ largest_link_difference → IsBetweenPoints o → links' ≡ links ++ link ∷ [] → AreLinked observations benchmarks i links → AreLinked observations benchmarks (i + 1) links'
linked_more observations benchmarks i o link links links' within here tail head diff small between pushed h =
    let is : link ≡ link_of observations benchmarks o = ap (λ (t : ℕ). made t link.head link.diff) tail ∙ ap (λ (u : ℕ). made (vertex_of observations benchmarks o.station) u link.diff) head ∙ ap (made (vertex_of observations benchmarks o.station) (vertex_of observations benchmarks o.target)) diff in
    let taken : take (i + 1) observations ≡ take i observations ++ o ∷ [] = take_more observations i o within ∙ ap (λ (x : Observed). take i observations ++ x ∷ []) (sym here) in
    subst (λ (ls : List Link). AreLinked observations benchmarks (i + 1) ls) (sym pushed) (record {
      all = ap (λ (ls : List Link). ls ++ link ∷ []) h.all ∙ ap (λ (l : Link). map (link_of observations benchmarks) (take i observations) ++ l ∷ []) is ∙ sym (ap (map (link_of observations benchmarks)) taken ∙ map-append (link_of observations benchmarks) (take i observations) (o ∷ []));
      in_range = All-push (λ link. unsigned_abs link.diff ≤ largest_link_difference) links link h.in_range small;
      between = subst (All IsBetweenPoints) (sym taken) (All-push IsBetweenPoints (take i observations) o h.between between);
    })
