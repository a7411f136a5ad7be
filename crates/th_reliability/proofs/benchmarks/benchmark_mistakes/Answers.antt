use Rattle.std.proofs.Common.{◌≡◌, ◌∙◌, ℤ, List, ℕ, IsSome, get_or, subst, sym, arith}
use Rattle.std.proofs.lemmas.List.{take_more}
use Rattle.std.proofs.lemmas.Option.{get_or_from_slice_get, slice_get_within}
use Rattle.std.specs.List.{AllZip}
use Rattle.th_points.proofs.PointOrder.{no_row_more}
use Rattle.th_network.specs.Networks.{Survey}
use Rattle.th_tables.specs.Rows.{BenchmarkRows, height_of}
use Rattle.th_reliability.specs.BenchmarkEffects.{IsBenchmarkEffect}
use Rattle.th_reliability.proofs.BenchmarkEffectLemmas.{row_is_benchmark}
use Rattle.th_reliability.proofs.ZipLemmas.{zip_more}
use Rattle.th_reliability.proofs.benchmarks.benchmark_mistakes.Goals as goal

pub benchmark_effect-requires : goal.benchmark_effect-requires
benchmark_effect-requires c =
    let rows : BenchmarkRows = c.benchmarks-benchmarks.result.now in
    let listed = row_is_benchmark rows c.rows.k c.in-Some.row (sym c.in-Some.ensures.value) in
    subst (λ (own : Survey). IsSome (height_of own.benchmarks c.in-Some.row.0)) (sym c.in_ok-ground.ensures)
    (subst (λ (own : BenchmarkRows). IsSome (height_of own c.in-Some.row.0)) c.benchmarks-benchmarks.ensures listed)

pub rows-preserved : goal.rows-preserved
rows-preserved c =
    let rows : BenchmarkRows = c.benchmarks-benchmarks.result.now in
    let row : List ℕ × ℤ = c.in-Some.row in
    let at = sym c.in-Some.ensures.value in
    let within = slice_get_within rows c.rows.k row at in
    let here : get_or rows c.rows.k row ≡ row = get_or_from_slice_get rows c.rows.k row row at in
    let found : IsBenchmarkEffect c.args.network.now (get_or rows c.rows.k row).0 c.in_ok-effect.effect =
    subst (λ (own : List ℕ × ℤ). IsBenchmarkEffect c.args.network.now own.0 c.in_ok-effect.effect) (sym here)
    (subst (λ (own : Survey). IsBenchmarkEffect own row.0 c.in_ok-effect.effect) c.in_ok-ground.ensures c.in_ok-effect.ensures) in
    record {
      within = omega (arith, within);
      found = rw (take_more rows c.rows.k row within) (zip_more (λ own effect. IsBenchmarkEffect c.args.network.now own.0 effect) _ c.rows.effects.items c.push.new.self.items _ c.in_ok-effect.effect c.rows.invariant.found found c.in_ok-push.ensures.items);
    }

pub returns : goal.returns
returns c =
    let rows : BenchmarkRows = c.benchmarks-benchmarks.result.now in
    subst (λ (own : BenchmarkRows). AllZip (λ row effect. IsBenchmarkEffect c.args.network.now row.0 effect) own c.rows.effects.items) (no_row_more rows c.rows.k c.in_default.ensures.value ∙ c.benchmarks-benchmarks.ensures) c.rows.invariant.found
