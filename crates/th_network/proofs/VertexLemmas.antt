-- Vertices are numbered point by point.
use Rattle.std.proofs.Common.{◌≡◌, ℕ, ◌+◌, ◌<◌, inl, inr, Bool, true, false, ℤ, List, [], ◌∷◌, ◌++◌, length, slice_get, Option, Some, None, is_some, is_none, count_by, if◌then◌else◌, refl, sym, ap, ◌∙◌, subst, arith, length-append}
use Rattle.std.proofs.lemmas.Bool.{cases_eq}
use Rattle.std.proofs.lemmas.List.{take_all}
use Rattle.std.proofs.lemmas.List.Sums.{count_by_more_no, count_by_more_yes}
use Rattle.std.proofs.lemmas.Option.{slice_get_within, get_or_from_slice_get}
use Rattle.th_tables.specs.Rows.{BenchmarkRows, height_of}
use Rattle.th_network.specs.Vertices.{is_free, free_before, vertex_at}
use Rattle.th_network.specs.Inside.Numbered.{AreVertices}
use Rattle.th_network.proofs.Gets.{at-push_before, at-push_last}

-- the vertices of the first i names
pub record IsNumbered (benchmarks : BenchmarkRows) (names : List (List ℕ)) (i count : ℕ) (vertices : List ℕ) : Type 0 where
  pub next : count ≡ free_before benchmarks names i + 1
  pub size : length vertices ≡ i
  pub each : (place : ℕ) (name : List ℕ) → place < i → slice_get names place ≡ Some name → slice_get vertices place ≡ Some (vertex_at benchmarks names place name)

each_more : (benchmarks : BenchmarkRows) (names : List (List ℕ)) (i count v : ℕ) (name : List ℕ) (vertices : List ℕ) → slice_get names i ≡ Some name → v ≡ vertex_at benchmarks names i name → IsNumbered benchmarks names i count vertices → (place : ℕ) (other : List ℕ) → place < i + 1 → slice_get names place ≡ Some other → slice_get (vertices ++ v ∷ []) place ≡ Some (vertex_at benchmarks names place other)
each_more benchmarks names i count v name vertices here is h place other before at =
    elim (cases_eq place i) [
      | inl same ↦
          let named : other ≡ name = cc (sym at ∙ ap (slice_get names) same ∙ here) in
          at-push_last vertices v place (same ∙ sym h.size) ∙ ap Some (is ∙ ap (vertex_at benchmarks names i) (sym named) ∙ ap (λ (k : ℕ). vertex_at benchmarks names k other) (sym same))
      | inr differs ↦ at-push_before vertices v place (vertex_at benchmarks names place other) (h.each place other (omega arith) at)
    ]

-- a benchmark
pub numbered_fixed : (benchmarks : BenchmarkRows) (names : List (List ℕ)) (i count : ℕ) (name : List ℕ) (vertices vertices' : List ℕ) → slice_get names i ≡ Some name → is_some (height_of benchmarks name) ≡ true → vertices' ≡ vertices ++ 0 ∷ [] → IsNumbered benchmarks names i count vertices → IsNumbered benchmarks names (i + 1) count vertices'
numbered_fixed benchmarks names i count name vertices vertices' here fixed pushed h =
    let within = slice_get_within names i name here in
    let bound : is_free benchmarks name ≡ false = by (height_of benchmarks name) fixed in
    subst (λ (vs : List ℕ). IsNumbered benchmarks names (i + 1) count vs) (sym pushed) (record {
      next = h.next ∙ ap (λ k. k + 1) (sym (count_by_more_no (is_free benchmarks) names i name within (ap (is_free benchmarks) (get_or_from_slice_get names i name name here) ∙ bound)));
      size = omega (arith, length-append vertices (0 ∷ []), h.size);
      each = each_more benchmarks names i count 0 name vertices here (sym (ap (λ (b : Bool). if b then free_before benchmarks names i + 1 else 0) bound)) h;
    })
  where
    by : (found : Option ℤ) → is_some found ≡ true → is_none found ≡ false
    by None e = sym e
    by (Some height) e = refl

-- a point that is no benchmark
pub numbered_free : (benchmarks : BenchmarkRows) (names : List (List ℕ)) (i count : ℕ) (name : List ℕ) (vertices vertices' : List ℕ) → slice_get names i ≡ Some name → is_some (height_of benchmarks name) ≡ false → vertices' ≡ vertices ++ count ∷ [] → IsNumbered benchmarks names i count vertices → IsNumbered benchmarks names (i + 1) (count + 1) vertices'
numbered_free benchmarks names i count name vertices vertices' here open_end pushed h =
    let within = slice_get_within names i name here in
    let bound : is_free benchmarks name ≡ true = by (height_of benchmarks name) open_end in
    subst (λ (vs : List ℕ). IsNumbered benchmarks names (i + 1) (count + 1) vs) (sym pushed) (record {
      next = ap (λ k. k + 1) (h.next ∙ sym (count_by_more_yes (is_free benchmarks) names i name within (ap (is_free benchmarks) (get_or_from_slice_get names i name name here) ∙ bound)));
      size = omega (arith, length-append vertices (count ∷ []), h.size);
      each = each_more benchmarks names i count count name vertices here (h.next ∙ sym (ap (λ (b : Bool). if b then free_before benchmarks names i + 1 else 0) bound)) h;
    })
  where
    by : (found : Option ℤ) → is_some found ≡ false → is_none found ≡ true
    by None e = refl
    by (Some height) e = sym e

pub numbered_all : (benchmarks : BenchmarkRows) (names : List (List ℕ)) (i count : ℕ) (vertices : List ℕ) → i ≡ length names → IsNumbered benchmarks names i count vertices → AreVertices benchmarks names vertices count
numbered_all benchmarks names i count vertices all h = record {
  size = h.size ∙ all;
  each = λ place name at. h.each place name (omega (arith, slice_get_within names place name at)) at;
  all = h.next ∙ ap (λ xs. count_by (is_free benchmarks) xs + 1) (take_all i names (omega arith));
}

pub numbered_on : {benchmarks : BenchmarkRows} {names : List (List ℕ)} {i count other : ℕ} {vertices : List ℕ} → count ≡ other → IsNumbered benchmarks names i count vertices → IsNumbered benchmarks names i other vertices
numbered_on {benchmarks = benchmarks} {names = names} {i = i} {vertices = vertices} same h = subst (λ (n : ℕ). IsNumbered benchmarks names i n vertices) same h
