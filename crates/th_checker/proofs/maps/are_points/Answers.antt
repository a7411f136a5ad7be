use Rattle.std.proofs.Common.{◌≡◌, true, false, bytes_eq, sym, ap, ◌∙◌, arith, rules}
use Rattle.std.specs.List.{list_any}
use Rattle.std.proofs.lemmas.Option.{get_or_from_slice_get, slice_get_within}
use Rattle.th_checker.proofs.PositionLemmas.{all_fails, all_more, all_pass, past_end}
use Rattle.th_checker.proofs.maps.are_points.Goals as goal

pub returns-then-not-is_point : goal.returns-then-not-is_point
returns-then-not-is_point c =
    let stated = c.args.stated.now in
    let row = c.in-Some.row in
    let found = sym c.in-Some.ensures.value in
    let fails : list_any (bytes_eq row.0) c.args.points.now.keys ≡ false = search rules in
    sym (all_fails (λ row. list_any (bytes_eq row.0) c.args.points.now.keys) stated c.loop-row.k row (slice_get_within stated c.loop-row.k row found)
    (ap (λ row. list_any (bytes_eq row.0) c.args.points.now.keys) (get_or_from_slice_get stated c.loop-row.k row row found) ∙ fails))

pub overflow_add-k : goal.overflow_add-k
overflow_add-k c = omega (arith, slice_get_within c.args.stated.now c.loop-row.k c.in-Some.row (sym c.in-Some.ensures.value), c.in-Some.ensures.counted)

pub loop-row-smaller : goal.loop-row-smaller
loop-row-smaller c = omega (arith, slice_get_within c.args.stated.now c.loop-row.k c.in-Some.row (sym c.in-Some.ensures.value))

pub loop-row-preserved : goal.loop-row-preserved
loop-row-preserved c =
    let stated = c.args.stated.now in
    let row = c.in-Some.row in
    let found = sym c.in-Some.ensures.value in
    let within = slice_get_within stated c.loop-row.k row found in
    let passes : list_any (bytes_eq row.0) c.args.points.now.keys ≡ true = search rules in
    record {
      within = omega arith;
      all = all_more (λ row. list_any (bytes_eq row.0) c.args.points.now.keys) stated c.loop-row.k row within
          (ap (λ row. list_any (bytes_eq row.0) c.args.points.now.keys) (get_or_from_slice_get stated c.loop-row.k row row found) ∙ passes) c.loop-row.invariant.all;
    }

pub returns : goal.returns
returns c =
    sym (all_pass (λ row. list_any (bytes_eq row.0) c.args.points.now.keys) c.args.stated.now c.loop-row.k (past_end c.args.stated.now c.loop-row.k c.in_default.ensures.value) c.loop-row.invariant.all)
