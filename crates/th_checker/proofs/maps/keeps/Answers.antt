use Rattle.std.proofs.Common.{◌≡◌, true, false, pos, unsigned_abs, unwrap_or, sym, ap, ◌∙◌, arith}
use Rattle.std.specs.Ordering.{int_eq}
use Rattle.std.proofs.lemmas.Option.{get_or_from_slice_get, slice_get_within}
use Rattle.th_certificate.specs.Certified.{stated_height}
use Rattle.th_checker.proofs.NumberLemmas.{differ_z, equal_z, same_z, small_or_zero}
use Rattle.th_checker.proofs.MapLemmas.{benchmark_small}
use Rattle.th_checker.proofs.PositionLemmas.{all_fails, all_more, all_pass, past_end}
use Rattle.th_checker.proofs.maps.keeps.Goals as goal

pub returns-then-unwrap_or-row : goal.returns-then-unwrap_or-row
returns-then-unwrap_or-row c =
    let benchmarks = c.args.benchmarks.now in
    let row = c.in-Some.row in
    let found = sym c.in-Some.ensures.value in
    let value : c.unwrap_or.result ≡ stated_height c.args.stated.now row.0 = c.unwrap_or.ensures ∙ ap (λ o. unwrap_or o (pos 0)) c.height_of.ensures.value in
    let fails : int_eq (stated_height c.args.stated.now row.0) row.1 ≡ false = ap (λ z. int_eq z row.1) (sym value) ∙ differ_z c.unwrap_or.result row.1 c.if-unwrap_or-row.true in
    sym (all_fails (λ row. int_eq (stated_height c.args.stated.now row.0) row.1) benchmarks c.loop-row.k row (slice_get_within benchmarks c.loop-row.k row found)
    (ap (λ row. int_eq (stated_height c.args.stated.now row.0) row.1) (get_or_from_slice_get benchmarks c.loop-row.k row row found) ∙ fails))

pub overflow_add-k : goal.overflow_add-k
overflow_add-k c = omega (arith, slice_get_within c.args.benchmarks.now c.loop-row.k c.in-Some.row (sym c.in-Some.ensures.value), c.in-Some.ensures.counted)

pub loop-row-smaller : goal.loop-row-smaller
loop-row-smaller c = omega (arith, slice_get_within c.args.benchmarks.now c.loop-row.k c.in-Some.row (sym c.in-Some.ensures.value))

pub loop-row-preserved : goal.loop-row-preserved
loop-row-preserved c =
    let benchmarks = c.args.benchmarks.now in
    let row = c.in-Some.row in
    let found = sym c.in-Some.ensures.value in
    let within = slice_get_within benchmarks c.loop-row.k row found in
    let passes : int_eq (stated_height c.args.stated.now row.0) row.1 ≡ true =
    ap (λ z. int_eq z row.1) (sym (c.unwrap_or.ensures ∙ ap (λ o. unwrap_or o (pos 0)) c.height_of.ensures.value))
    ∙ equal_z c.unwrap_or.result row.1 (same_z c.unwrap_or.result row.1 (omega (arith, ap unsigned_abs c.unwrap_or.ensures, small_or_zero c.height_of.result c.height_of.ensures.in_range)) (omega (arith, benchmark_small benchmarks c.loop-row.k row c.in-Some.ensures.benchmarks found)) c.if-unwrap_or-row.false) in
    record {
      within = omega arith;
      all = all_more (λ row. int_eq (stated_height c.args.stated.now row.0) row.1) benchmarks c.loop-row.k row within
          (ap (λ row. int_eq (stated_height c.args.stated.now row.0) row.1) (get_or_from_slice_get benchmarks c.loop-row.k row row found) ∙ passes) c.loop-row.invariant.all;
    }

pub returns : goal.returns
returns c =
    sym (all_pass (λ row. int_eq (stated_height c.args.stated.now row.0) row.1) c.args.benchmarks.now c.loop-row.k (past_end c.args.benchmarks.now c.loop-row.k c.in_default.ensures.value) c.loop-row.invariant.all)
