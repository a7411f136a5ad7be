use Rattle.std.proofs.Common.{All, [], ◌∷◌, ◌++◌, None, ◌≢◌, ◌≡◌, ◌+◌, length, ◌≤◌, unsigned_abs, subst, sym, ap, refl, ◌∙◌, arith, length-append}
use Rattle.std.proofs.lemmas.List.{map-append}
use Rattle.th_search.specs.Limits.{farthest}
use Rattle.th_search.specs.Walks.{IsArc}
use Rattle.th_search.specs.Potentials.{value_at}
use Rattle.tests_searches.specs.Levels.{IsAbove, last_at, row_of, rows_of}
use Rattle.tests_searches.proofs.TableLemmas.{level_potentials, levels_first, levels_next, new_row, row_read, sized}
use Rattle.tests_searches.proofs.TrailLemmas.{rows_size}
use Rattle.tests_searches.proofs.level_search.found_in.Goals as goal

pub loop-number-init : goal.loop-number-init
loop-number-init c = rw (c.in_ok-push.ensures.items, c.new-levels.ensures.items) (record {
  levels = levels_first _ _ (row_of c.in_ok-first.field-0) c.in_ok-first.ensures.size c.in_ok-first.ensures.last c.in_ok-first.ensures.costs;
  size = refl;
  lowered = λ some. absurd (omega arith);
})

pub above-requires-clause-arcs : goal.above-requires-clause-arcs
above-requires-clause-arcs c =
    let size = c.loop-number.invariant.size in
    let row = row_read c.loop-number.levels.items c.loop-number.number _ (omega arith) c.index.ensures in
    let costs = c.loop-number.invariant.levels.costs c.loop-number.number (omega (arith, rows_size c.loop-number.levels.items _ refl)) in
    subst (λ n. All (IsArc n) c.args.arcs.now) (sym costs ∙ ap (λ row. length row.costs) row) c.requires.arcs

pub above-requires-clause-within : goal.above-requires-clause-within
above-requires-clause-within c v =
    let size = c.loop-number.invariant.size in
    let few = c.requires.vertices in
    let row = row_read c.loop-number.levels.items c.loop-number.number _ (omega arith) c.index.ensures in
    subst (λ row. unsigned_abs (value_at row.costs v) ≤ farthest) row (sized _ _ _ c.loop-number.number v c.requires.arcs c.loop-number.invariant.levels (omega (arith, rows_size c.loop-number.levels.items _ refl)) (omega arith))

pub lowered_vertex-requires : goal.lowered_vertex-requires
lowered_vertex-requires c =
    let size = c.loop-number.invariant.size in
    let few = c.requires.vertices in
    let row = row_read c.loop-number.levels.items c.loop-number.number _ (omega arith) c.index.ensures in
    let costs = c.loop-number.invariant.levels.costs c.loop-number.number (omega (arith, rows_size c.loop-number.levels.items _ refl)) in
    let same = ap (λ row. length row.costs) row in
    let last = c.in_ok-level.ensures.last in
    omega arith

pub returns-in_default : goal.returns-in_default
returns-in_default c =
    let size = c.loop-number.invariant.size in
    let row = row_read c.loop-number.levels.items c.loop-number.number _ (omega arith) c.index.ensures in
    let above = subst (λ below. IsAbove c.args.arcs.now below (row_of c.in_ok-level.level)) (sym row) c.in_ok-level.ensures in
    level_potentials _ _ _ (row_of c.in_ok-level.level) _ c.requires.arcs c.loop-number-test.true (omega (arith, rows_size c.loop-number.levels.items _ refl)) c.loop-number.invariant.levels above (c.in_default.ensures.none refl)

pub loop-number-preserved : goal.loop-number-preserved
loop-number-preserved c =
    let size = c.loop-number.invariant.size in
    let row = row_read c.loop-number.levels.items c.loop-number.number _ (omega arith) c.index.ensures in
    let above = subst (λ below. IsAbove c.args.arcs.now below (row_of c.in_ok-level.level)) (sym row) c.in_ok-level.ensures in
    let old_size = rows_size c.loop-number.levels.items _ size in
    let levels = levels_next c.args.n c.args.arcs.now (rows_of c.loop-number.levels.items) (row_of c.in_ok-level.level) c.loop-number.number (omega arith) above c.loop-number.invariant.levels in
    let rows : rows_of (c.loop-number.levels.items ++ c.in_ok-level.level ∷ []) ≡ rows_of c.loop-number.levels.items ++ row_of c.in_ok-level.level ∷ [] = map-append row_of c.loop-number.levels.items (c.in_ok-level.level ∷ []) in
    let last = c.in_ok-level.ensures.last in
    let costs = c.loop-number.invariant.levels.costs c.loop-number.number (omega arith) in
    let same = ap (λ row. length row.costs) row in
    let found = c.in-Some.ensures.some in
    let within = found.0 in
    rw (c.in_ok-push-2.ensures.items, rows) (record {
      levels = levels;
      size = omega (arith, length-append c.loop-number.levels.items (c.in_ok-level.level ∷ []));
      lowered = λ some. (omega arith, subst (λ row. last_at row c.in-Some.vertex ≢ None) (sym (new_row (rows_of c.loop-number.levels.items) (row_of c.in_ok-level.level) (c.loop-number.number + 1) old_size)) found.1);
    })
