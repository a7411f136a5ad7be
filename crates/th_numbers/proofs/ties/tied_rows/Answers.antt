use Rattle.std.proofs.Common.{refl, subst, sym, ◌∙◌, arith}
use Rattle.std.proofs.lemmas.Option.{get_or_from_slice_get, slice_get_within}
use Rattle.std.proofs.lemmas.Slice.Zip.{AllZip-long}
use Rattle.std.specs.List.{AllZip}
use Rattle.th_reliability.proofs.ZipLemmas.{zip_next}
use Rattle.th_points.proofs.PointOrder.{no_row_more}
use Rattle.th_tables.specs.Rows.{AreBenchmarks, BenchmarkRows}
use Rattle.th_numbers.specs.Ties.{IsTold}
use Rattle.th_numbers.proofs.FewLemmas.{few_rows}
use Rattle.th_numbers.proofs.ties.tied_rows.Goals as goal

pub rows-preserved : goal.rows-preserved
rows-preserved c =
    let rows : BenchmarkRows = c.benchmarks-benchmarks.result.now in
    let at = c.in-Some.ensures.value in
    let within = slice_get_within rows c.rows.k c.in-Some.row (sym at) in
    record {
      within = omega (arith, within);
      told = zip_next (IsTold c.args.network.now) rows c.rows.rows.items c.push.new.self.items c.rows.k c.in-Some.row (record { name = c.in-Some.row.0; tied = c.is_tied-tied.result }) within
          (sym (get_or_from_slice_get rows c.rows.k c.in-Some.row c.in-Some.row (sym at))) c.in_ok-push.ensures.items c.rows.invariant.told (record { name = refl; tied = c.is_tied-tied.ensures });
    }

pub returns-clause-rows : goal.returns-clause-rows
returns-clause-rows c =
    let rows : BenchmarkRows = c.benchmarks-benchmarks.result.now in
    subst (λ (own : BenchmarkRows). AllZip (IsTold c.args.network.now) own c.rows.rows.items) (no_row_more rows c.rows.k c.in_default.ensures.value ∙ c.benchmarks-benchmarks.ensures) c.rows.invariant.told

pub returns-clause-few : goal.returns-clause-few
returns-clause-few c =
    let rows : BenchmarkRows = c.benchmarks-benchmarks.result.now in
    let same = c.benchmarks-benchmarks.ensures in
    let are = subst AreBenchmarks same c.in_default.ensures.benchmarks in
    let few = few_rows c.args.network.now.observations c.args.network.now.benchmarks c.points.ensures.network are in
    let told : AllZip (IsTold c.args.network.now) c.args.network.now.benchmarks c.rows.rows.items =
    subst (λ (own : BenchmarkRows). AllZip (IsTold c.args.network.now) own c.rows.rows.items) (no_row_more rows c.rows.k c.in_default.ensures.value ∙ same) c.rows.invariant.told in
    omega (arith, few, AllZip-long _ _ _ told)
