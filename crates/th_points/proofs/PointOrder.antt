-- Names in order of first sight: a name that is seen goes last if it is new, and keeps its place whatever comes later.
use Rattle.std.proofs.Common.{◌≡◌, ℕ, ℤ, ◌+◌, ◌<◌, Bool, true, false, not, cond, ◌||◌, ◌⊎◌, inl, inr, ◌≤◌, Some, None, List, [], ◌∷◌, ◌++◌, length, get_or, slice_get, take, drop, map, filter, bytes_eq, if◌then◌else◌, refl, ap, ◌∙◌, sym, arith, append_assoc, add-one, take-append-drop, drop-cons}
use Rattle.std.proofs.lemmas.Slice.Eq.{bytes_eq-Decides}
use Rattle.std.proofs.lemmas.List.{append-nil, map-append, take_more, take_all}
use Rattle.std.proofs.lemmas.Option.{slice_get_within, slice_get_cases, get_or_from_slice_get}
use Rattle.std.proofs.lemmas.List.Sums.{fold-append}
use Rattle.std.proofs.lemmas.Grind.{flat_map-append}
use Rattle.indexmap.specs.IndexSet.{insert_key, insert_all}
use Rattle.th_observations.specs.Observed.{Observed}
use Rattle.th_tables.specs.Rows.{BenchmarkRows}
use Rattle.th_points.specs.Points.{distinct, ends, points}
use Rattle.th_points.specs.Places.{place_of}
use Rattle.th_points.specs.Ends.{ArePoints, ends_in}
use Rattle.th_points.proofs.PointLemmas.{is_among, among_filter, among_distinct}

-- another name than this one
abbrev is_other : List ℕ → List ℕ → Bool
is_other first later = not (bytes_eq first later)

filter_last_out : (first name : List ℕ) (names : List (List ℕ)) → bytes_eq first name ≡ true → filter (is_other first) (names ++ name ∷ []) ≡ filter (is_other first) names
filter_last_out first name [] same = ap (λ b. cond (not b) (name ∷ []) []) same
filter_last_out first name (next ∷ names) same =
    ap (λ rest. cond (is_other first next) (next ∷ rest) rest) (filter_last_out first name names same)

filter_last_in : (first name : List ℕ) (names : List (List ℕ)) → bytes_eq first name ≡ false → filter (is_other first) (names ++ name ∷ []) ≡ filter (is_other first) names ++ name ∷ []
filter_last_in first name [] other = ap (λ b. cond (not b) (name ∷ []) []) other
filter_last_in first name (next ∷ names) other = by (is_other first next) (filter_last_in first name names other)
  where
    by : (b : Bool) → filter (is_other first) (names ++ name ∷ []) ≡ filter (is_other first) names ++ name ∷ [] → cond b (next ∷ filter (is_other first) (names ++ name ∷ [])) (filter (is_other first) (names ++ name ∷ [])) ≡ cond b (next ∷ filter (is_other first) names) (filter (is_other first) names) ++ name ∷ []
    by true h = ap (λ rest. next ∷ rest) h
    by false h = h

-- equality of names does not mind the order
pub bytes_eq_turned : (a b : List ℕ) (t : Bool) → bytes_eq a b ≡ t → bytes_eq b a ≡ t
bytes_eq_turned a b true e = (bytes_eq-Decides b a).1 (sym ((bytes_eq-Decides a b).0 e))
bytes_eq_turned a b false e = by (bytes_eq b a) refl
  where
    by : (t : Bool) → bytes_eq b a ≡ t → t ≡ false
    by false h = refl
    by true h =
        let there = (bytes_eq-Decides a b).1 (sym ((bytes_eq-Decides b a).0 h)) in
        absurd (grind arith)

insert_behind : (first name : List ℕ) (names : List (List ℕ)) → first ∷ filter (is_other first) (insert_key bytes_eq names name) ≡ insert_key bytes_eq (first ∷ filter (is_other first) names) name
insert_behind first name names = by (bytes_eq name first) refl (is_among names name) refl
  where
    by : (b : Bool) → bytes_eq name first ≡ b → (s : Bool) → is_among names name ≡ s → first ∷ filter (is_other first) (if s then names else names ++ name ∷ []) ≡ (if (b || is_among (filter (is_other first) names) name) then first ∷ filter (is_other first) names else (first ∷ filter (is_other first) names) ++ name ∷ [])
    by true e true there = refl
    by true e false there = ap (λ rest. first ∷ rest) (filter_last_out first name names (bytes_eq_turned name first true e))
    by false e true there = sym (ap (λ t. if t then first ∷ filter (is_other first) names else (first ∷ filter (is_other first) names) ++ name ∷ []) (among_filter first name names e ∙ there))
    by false e false there = ap (λ rest. first ∷ rest) (filter_last_in first name names (bytes_eq_turned name first false e)) ∙ sym (ap (λ t. if t then first ∷ filter (is_other first) names else (first ∷ filter (is_other first) names) ++ name ∷ []) (among_filter first name names e ∙ there))

-- one more name: it goes last if it is new
pub distinct_push : (names : List (List ℕ)) (name : List ℕ) → distinct (names ++ name ∷ []) ≡ insert_key bytes_eq (distinct names) name
distinct_push [] name = refl
distinct_push (first ∷ names) name = ap (λ rest. first ∷ filter (is_other first) rest) (distinct_push names name) ∙ insert_behind first name (distinct names)

-- more names, in turn
pub distinct_more : (names more : List (List ℕ)) → insert_all bytes_eq (distinct names) more ≡ distinct (names ++ more)
distinct_more names [] = ap distinct (sym (append-nil names))
distinct_more names (name ∷ more) =
    ap (λ seen. insert_all bytes_eq seen more) (sym (distinct_push names name)) ∙ distinct_more (names ++ name ∷ []) more ∙ ap distinct (append_assoc names (name ∷ []) more)

-- a name that is there keeps its place when another is put last
place_before_last : (names : List (List ℕ)) (last name : List ℕ) → is_among names name ≡ true → place_of (names ++ last ∷ []) name ≡ place_of names name
place_before_last [] last name there = absurd (grind arith)
place_before_last (first ∷ names) last name there = by (bytes_eq name first) (place_before_last names last name) there
  where
    by : (b : Bool) → (is_among names name ≡ true → place_of (names ++ last ∷ []) name ≡ place_of names name) → (b || is_among names name) ≡ true → cond (not b) (1 + place_of (names ++ last ∷ []) name) 0 ≡ cond (not b) (1 + place_of names name) 0
    by true h e = refl
    by false h e = ap (λ n. 1 + n) (h e)

place_inserted : (names : List (List ℕ)) (other name : List ℕ) → is_among names name ≡ true → place_of (insert_key bytes_eq names other) name ≡ place_of names name
place_inserted names other name there = by (is_among names other)
  where
    by : (b : Bool) → place_of (if b then names else names ++ other ∷ []) name ≡ place_of names name
    by true = refl
    by false = place_before_last names other name there

-- a name that is put last has the length as its place
place_last : (names : List (List ℕ)) (name : List ℕ) → place_of (names ++ name ∷ []) name ≡ place_of names name
place_last [] name = ap (λ b. cond (not b) 1 0) ((bytes_eq-Decides name name).1 refl)
place_last (first ∷ names) name = ap (λ n. cond (is_other name first) (1 + n) 0) (place_last names name)

-- the place at which a name is put
place_put : (names : List (List ℕ)) (name : List ℕ) → place_of (insert_key bytes_eq names name) name ≡ place_of names name
place_put names name = by (is_among names name)
  where
    by : (b : Bool) → place_of (if b then names else names ++ name ∷ []) name ≡ place_of names name
    by true = refl
    by false = place_last names name

among_last : (names : List (List ℕ)) (name : List ℕ) → is_among (names ++ name ∷ []) name ≡ true
among_last [] name = ap (λ b. b || false) ((bytes_eq-Decides name name).1 refl)
among_last (first ∷ names) name = by (bytes_eq name first) (among_last names name)
  where
    by : (b : Bool) → is_among (names ++ name ∷ []) name ≡ true → (b || is_among (names ++ name ∷ []) name) ≡ true
    by true h = refl
    by false h = h

among_before_last : (names : List (List ℕ)) (last name : List ℕ) → is_among names name ≡ true → is_among (names ++ last ∷ []) name ≡ true
among_before_last [] last name there = absurd (grind arith)
among_before_last (first ∷ names) last name there = by (bytes_eq name first) (among_before_last names last name) there
  where
    by : (b : Bool) → (is_among names name ≡ true → is_among (names ++ last ∷ []) name ≡ true) → (b || is_among names name) ≡ true → (b || is_among (names ++ last ∷ []) name) ≡ true
    by true h e = refl
    by false h e = h e

-- a name keeps its place whatever is seen later
place_kept : (names more : List (List ℕ)) (name : List ℕ) → is_among names name ≡ true → place_of (distinct (names ++ more)) name ≡ place_of (distinct names) name
place_kept names [] name there = ap (λ seen. place_of (distinct seen) name) (append-nil names)
place_kept names (next ∷ more) name there =
    ap (λ seen. place_of (distinct seen) name) (sym (append_assoc names (next ∷ []) more)) ∙ place_kept (names ++ next ∷ []) more name (among_before_last names next name there) ∙ ap (λ seen. place_of seen name) (distinct_push names next) ∙ place_inserted (distinct names) next name (among_distinct names name ∙ there)

-- where a name is put is its place among all names, whatever comes later
pub place_seen : (names more : List (List ℕ)) (name : List ℕ) → place_of (distinct (names ++ name ∷ more)) name ≡ place_of (distinct names) name
place_seen names more name =
    ap (λ seen. place_of (distinct seen) name) (sym (append_assoc names (name ∷ []) more)) ∙ place_kept (names ++ name ∷ []) more name (among_last names name) ∙ ap (λ seen. place_of seen name) (distinct_push names name) ∙ place_put (distinct names) name

-- the ends up to an observation, its own, and the later ones
pub ends_at : (observations : List Observed) (i : ℕ) (o : Observed) → i < length observations → ends observations ≡ ends (take i observations) ++ (get_or observations i o).station ∷ (get_or observations i o).target ∷ ends (drop (i + 1) observations)
ends_at observations i o within =
    ap ends (sym (take-append-drop i observations)) ∙ flat_map-append (λ o. o.station ∷ o.target ∷ []) (take i observations) (drop i observations) ∙ ap (λ rest. ends (take i observations) ++ ends rest) (drop-cons observations i o within ∙ ap (λ k. get_or observations i o ∷ drop k observations) (sym (add-one i)))

-- an observation's station is put at its place among the points, and then its target
station_place : (observations : List Observed) (benchmarks : BenchmarkRows) (i : ℕ) (o : Observed) → i < length observations → get_or observations i o ≡ o → place_of (points observations benchmarks) o.station ≡ place_of (distinct (ends (take i observations))) o.station
unfolding points
station_place observations benchmarks i o within here =
    let rows = map (λ row. row.0) benchmarks in
    let before = ends (take i observations) in
    let later = ends (drop (i + 1) observations) in
    let whole : ends observations ≡ before ++ o.station ∷ o.target ∷ later = ends_at observations i o within ∙ ap (λ (x : Observed). before ++ x.station ∷ x.target ∷ later) here in
    ap (λ seen. place_of (distinct (seen ++ rows)) o.station) whole ∙ ap (λ seen. place_of (distinct seen) o.station) (append_assoc before (o.station ∷ o.target ∷ later) rows) ∙ place_seen before ((o.target ∷ later) ++ rows) o.station

target_place : (observations : List Observed) (benchmarks : BenchmarkRows) (i : ℕ) (o : Observed) → i < length observations → get_or observations i o ≡ o → place_of (points observations benchmarks) o.target ≡ place_of (distinct (ends (take i observations) ++ o.station ∷ [])) o.target
unfolding points
target_place observations benchmarks i o within here =
    let rows = map (λ row. row.0) benchmarks in
    let before = ends (take i observations) in
    let later = ends (drop (i + 1) observations) in
    let whole : ends observations ≡ before ++ o.station ∷ o.target ∷ later = ends_at observations i o within ∙ ap (λ (x : Observed). before ++ x.station ∷ x.target ∷ later) here in
    ap (λ seen. place_of (distinct (seen ++ rows)) o.target) (whole ∙ sym (append_assoc before (o.station ∷ []) (o.target ∷ later))) ∙ ap (λ seen. place_of (distinct seen) o.target) (append_assoc (before ++ o.station ∷ []) (o.target ∷ later) rows) ∙ place_seen (before ++ o.station ∷ []) (later ++ rows) o.target

-- the row at a place of the table, after those before it
pub row_more : (seen : List (List ℕ)) (benchmarks : BenchmarkRows) (k : ℕ) (row : List ℕ × ℤ) → Some row ≡ slice_get benchmarks k → insert_key bytes_eq (insert_all bytes_eq seen (map (λ row. row.0) (take k benchmarks))) row.0 ≡ insert_all bytes_eq seen (map (λ row. row.0) (take (k + 1) benchmarks))
row_more seen benchmarks k row here =
    let name : List ℕ × ℤ → List ℕ = λ row. row.0 in
    let within = slice_get_within benchmarks k row (sym here) in
    let taken : take (k + 1) benchmarks ≡ take k benchmarks ++ row ∷ [] = take_more benchmarks k row within ∙ ap (λ x. take k benchmarks ++ x ∷ []) (get_or_from_slice_get benchmarks k row row (sym here)) in
    sym (ap (λ rows. insert_all bytes_eq seen (map name rows)) taken ∙ ap (insert_all bytes_eq seen) (map-append name (take k benchmarks) (row ∷ [])) ∙ fold-append (insert_key bytes_eq) seen (map name (take k benchmarks)) (row.0 ∷ []))

-- the names after one more observation
names_more : (observations : List Observed) (i : ℕ) (o : Observed) → i < length observations → get_or observations i o ≡ o → insert_all bytes_eq (distinct (ends (take i observations))) (o.station ∷ o.target ∷ []) ≡ distinct (ends (take (i + 1) observations))
names_more observations i o within here =
    distinct_more (ends (take i observations)) (o.station ∷ o.target ∷ []) ∙ ap distinct (sym (flat_map-append (λ o. o.station ∷ o.target ∷ []) (take i observations) (o ∷ []))) ∙ ap (λ seen. distinct (ends seen)) (sym (take_more observations i o within ∙ ap (λ x. take i observations ++ x ∷ []) here))

-- a list made for each observation, after one more
map_more : {X : Type 0} (f : Observed → X) (observations : List Observed) (i : ℕ) (o : Observed) → i < length observations → get_or observations i o ≡ o → map f (take i observations) ++ f o ∷ [] ≡ map f (take (i + 1) observations)
map_more f observations i o within here =
    sym (ap (map f) (take_more observations i o within ∙ ap (λ x. take i observations ++ x ∷ []) here) ∙ map-append f (take i observations) (o ∷ []))

-- the ends of the first observations are found: their names, and where each end stands among all points
pub record IsFound (observations : List Observed) (benchmarks : BenchmarkRows) (i : ℕ) (names : List (List ℕ)) (placed : List (ℕ × ℕ)) : Type 0 where
  pub seen : names ≡ distinct (ends (take i observations))
  pub all_placed : placed ≡ map (ends_in (points observations benchmarks)) (take i observations)

pub found_more : (observations : List Observed) (benchmarks : BenchmarkRows) (i : ℕ) (o : Observed) (names names' : List (List ℕ)) (placed placed' : List (ℕ × ℕ)) → i < length observations → o ≡ get_or observations i o → IsFound observations benchmarks i names placed → names' ≡ insert_all bytes_eq names (o.station ∷ o.target ∷ []) → placed' ≡ placed ++ (place_of names o.station, place_of (insert_key bytes_eq names o.station) o.target) ∷ [] → IsFound observations benchmarks (i + 1) names' placed'
found_more observations benchmarks i o names names' placed placed' within is found n p =
    let here = sym is in
    let before = ends (take i observations) in
    let all = points observations benchmarks in
    let first : place_of names o.station ≡ place_of all o.station = ap (λ seen. place_of seen o.station) found.seen ∙ sym (station_place observations benchmarks i o within here) in
    let second : place_of (insert_key bytes_eq names o.station) o.target ≡ place_of all o.target = ap (λ seen. place_of (insert_key bytes_eq seen o.station) o.target) found.seen ∙ ap (λ seen. place_of seen o.target) (sym (distinct_push before o.station)) ∙ sym (target_place observations benchmarks i o within here) in
    let both : (place_of names o.station, place_of (insert_key bytes_eq names o.station) o.target) ≡ ends_in all o = ap (λ (s : ℕ). (s, place_of (insert_key bytes_eq names o.station) o.target)) first ∙ ap (λ (t : ℕ). (place_of all o.station, t)) second in
    record {
      seen = n ∙ ap (λ seen. insert_all bytes_eq seen (o.station ∷ o.target ∷ [])) found.seen ∙ names_more observations i o within here;
      all_placed = p ∙ ap (λ pair. placed ++ pair ∷ []) both ∙ ap (λ done. done ++ ends_in all o ∷ []) found.all_placed ∙ map_more (ends_in all) observations i o within here;
    }

-- where the table has no row, all are before
pub no_row_more : (benchmarks : BenchmarkRows) (k : ℕ) → None ≡ slice_get benchmarks k → take k benchmarks ≡ benchmarks
no_row_more benchmarks k none = by (slice_get_cases benchmarks k).1
  where
    by : ((x : List ℕ × ℤ) × (k < length benchmarks) × (slice_get benchmarks k ≡ Some x) × (get_or benchmarks k x ≡ x)) ⊎ ((length benchmarks ≤ k) × (slice_get benchmarks k ≡ None)) → take k benchmarks ≡ benchmarks
    by (inl some) = absurd (cc (none ∙ some.2))
    by (inr past) = take_all k benchmarks past.0

-- when all ends are found, the benchmarks make the points whole
pub found_all : (observations : List Observed) (benchmarks : BenchmarkRows) (i : ℕ) (names names' : List (List ℕ)) (placed : List (ℕ × ℕ)) → length observations ≤ i → IsFound observations benchmarks i names placed → names' ≡ insert_all bytes_eq names (map (λ row. row.0) benchmarks) → ArePoints observations benchmarks names' placed
unfolding points
found_all observations benchmarks i names names' placed all found added =
    let rows = map (λ row. row.0) benchmarks in
    let taken = take_all i observations all in
    record {
      all = added ∙ ap (λ seen. insert_all bytes_eq seen rows) (found.seen ∙ ap (λ seen. distinct (ends seen)) taken) ∙ distinct_more (ends observations) rows;
      placed = found.all_placed ∙ ap (map (ends_in (points observations benchmarks))) taken;
    }
