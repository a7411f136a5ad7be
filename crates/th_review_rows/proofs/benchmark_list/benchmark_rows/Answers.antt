use Rattle.std.proofs.Common.{◌≡◌, ◌<◌, ◌+◌, ◌∙◌, ◌++◌, ◌⊎◌, inl, inr, ℕ, ℤ, ◌≤◌, Some, None, List, [], drop, get_or, length, map, slice_get, ap, sym, subst, arith, ◌∷◌, unsigned_abs, w64}
use Rattle.std.proofs.lemmas.Int.{fits_signed_from_abs, to_z-of_z}
use Rattle.std.specs.List.{zip}
use Rattle.std.proofs.lemmas.List.{append-nil, drop_all, get_or_default}
use Rattle.std.proofs.lemmas.Option.{get_or_from_slice_get, slice_get_cases, slice_get_within}
use Rattle.th_units.specs.Limits.{max_len}
use Rattle.th_tables.specs.Rows.{BenchmarkRows}
use Rattle.th_reliability.specs.declared.benchmarks.BenchmarkEffect.{BenchmarkEffect}
use Rattle.th_review_rows.specs.declared.rows.BenchmarkRow.{BenchmarkRow}
use Rattle.th_review_rows.specs.Rows.{benchmark_row}
use Rattle.th_columns.proofs.RowLemmas.{zipped-first}
use Rattle.th_review_rows.proofs.RowLemmas.{pushed}
use Rattle.th_review_rows.proofs.benchmark_list.benchmark_rows.Goals as goal

-- behind the last row there is nothing
none_left : (rows : BenchmarkRows) (k : ℕ) → None ≡ slice_get rows k → drop k rows ≡ []
none_left rows k none = by (slice_get_cases rows k).1
  where
    by : ((row : List ℕ × ℤ) × (k < length rows) × (slice_get rows k ≡ Some row) × (get_or rows k row ≡ row)) ⊎ ((length rows ≤ k) × (slice_get rows k ≡ None)) → drop k rows ≡ []
    by (inl some) = absurd (cc (none ∙ some.2))
    by (inr past) = drop_all k rows past.0

pub bounds-effects-k : goal.bounds-effects-k
bounds-effects-k c =
    let rows : BenchmarkRows = c.benchmarks-benchmarks.result.now in
    let within = slice_get_within rows c.rows.k c.in-Some.row (sym c.in-Some.ensures.value) in
    let each = ap (λ (own : BenchmarkRows). length own) c.benchmarks-benchmarks.ensures in
    omega (arith, within, each, c.requires)

pub rows-preserved : goal.rows-preserved
rows-preserved c =
    let rows : BenchmarkRows = c.benchmarks-benchmarks.result.now in
    let effects : List BenchmarkEffect = c.args.effects.now in
    let k : ℕ = c.rows.k in
    let row : List ℕ × ℤ = c.in-Some.row in
    let none : BenchmarkEffect = record { sights = 0; weight = 0; strength = None; effect = None } in
    let found : BenchmarkEffect = get_or effects k none in
    let at = sym c.in-Some.ensures.value in
    let within : k < length rows = slice_get_within rows k row at in
    let each = ap (λ (own : BenchmarkRows). length own) c.benchmarks-benchmarks.ensures in
    let within' : k < length effects = omega (arith, within, each, c.requires) in
    let here : get_or rows k row ≡ row = get_or_from_slice_get rows k row row at in
    let low = subst (λ (own : List ℕ × ℤ). unsigned_abs own.1 ≤ max_len) here (c.in-Some.ensures.benchmarks.heights k row within) in
    let same = to_z-of_z w64 row.1 (fits_signed_from_abs w64 row.1 (omega (arith, low))) in
    let first = zipped-first rows effects k row found within within' (sym here) (get_or_default effects k none found within') in
    record {
      within = omega (arith, within);
      made = pushed benchmark_row (row, found) (zip (drop k rows) (drop k effects)) (zip (drop (k + 1) rows) (drop (k + 1) effects))
          c.rows.rows.items c.push.new.self.items (map benchmark_row (zip rows effects)) first
          (c.in_ok-push.ensures.items ∙ ap (λ (own : BenchmarkRow). c.rows.rows.items ++ own ∷ []) (c.benchmark_row.ensures ∙ ap (λ (height : ℤ). benchmark_row ((row.0, height), found)) same)) c.rows.invariant.made;
    }

pub returns : goal.returns
returns c =
    let rows : BenchmarkRows = c.benchmarks-benchmarks.result.now in
    let effects : List BenchmarkEffect = c.args.effects.now in
    let left = ap (λ (own : BenchmarkRows). c.rows.rows.items ++ map benchmark_row (zip own (drop c.rows.k effects))) (none_left rows c.rows.k c.in_default.ensures.value) in
    sym (append-nil c.rows.rows.items) ∙ sym left ∙ c.rows.invariant.made ∙ ap (λ (own : BenchmarkRows). map benchmark_row (zip own effects)) c.benchmarks-benchmarks.ensures
