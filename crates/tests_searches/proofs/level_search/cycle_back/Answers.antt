use Rattle.std.proofs.Common.{ℕ, ◌≡◌, ◌+◌, ◌-◌, length, get_or, None, drop, reverse, subst, sym, ap, ◌∙◌, refl, arith, rules}
use Rattle.std.proofs.lemmas.Grind.{common_steps}
use Rattle.tests_searches.specs.Levels.{last_at}
use Rattle.std.proofs.lemmas.Result.{IfOk-weaker}
use Rattle.th_search.specs.Walks.{IsNegativeCycle}
use Rattle.th_search.proofs.MeetsLemmas.{entry_read}
use Rattle.tests_searches.proofs.TrailLemmas.{back_closed, back_few, back_fewer, back_first, back_next, back_within, row_back, rows_size}
use Rattle.tests_searches.proofs.level_search.cycle_back.Goals as goal

pub loop-place-init : goal.loop-place-init
loop-place-init c =
    let sizes : length c.in_ok-places.places.items ≡ c.args.n = search rules in
    let none : (q : ℕ) → get_or c.in_ok-places.places.items q None ≡ None = λ q. grind (arith, common_steps) in
    rw c.new-walk.ensures.items (back_first _ _ _ _ _ c.requires.from sizes none c.requires.lowered)

pub turned-requires : goal.turned-requires
turned-requires c =
    let sizes = c.loop-place.invariant.sizes in
    let within = c.loop-place.invariant.within in
    let at = entry_read c.loop-place.places.items c.loop-place.vertex _ _ (omega arith) c.index.ensures c.in-Some.is in
    let found = (c.loop-place.invariant.found c.loop-place.vertex c.in-Some.first at).0 in
    let size = c.loop-place.invariant.size in
    rw c.deref.ensures.value (omega arith)

pub returns-in-Some : goal.returns-in-Some
returns-in-Some c =
    let sizes = c.loop-place.invariant.sizes in
    let within = c.loop-place.invariant.within in
    let at = entry_read c.loop-place.places.items c.loop-place.vertex _ _ (omega arith) c.index.ensures c.in-Some.is in
    let closed = back_closed _ _ _ _ _ _ _ _ c.requires.levels (rows_size _ _ c.requires.size) at c.loop-place.invariant in
    let same : reverse (drop c.in-Some.first c.deref.result.now) ≡ reverse (drop c.in-Some.first c.loop-place.walk.items) = ap (λ walk. reverse (drop c.in-Some.first walk)) c.deref.ensures.value in
    IfOk-weaker c.turned.result (λ part. part.items ≡ reverse (drop c.in-Some.first c.deref.result.now)) (λ cycle. IsNegativeCycle c.args.arcs.now cycle.items) (λ part is. subst (IsNegativeCycle c.args.arcs.now) (sym (is ∙ same)) closed) c.turned.ensures

pub last_arc-requires : goal.last_arc-requires
last_arc-requires c =
    let size = c.requires.size in
    let within = c.loop-place.invariant.within in
    let row = row_back c.args.levels.now c.args.n c.loop-place.place _ c.requires.size c.loop-place-test.true c.index-levels-levels.is in
    let last = c.requires.levels.last (c.args.n - c.loop-place.place) (omega (arith, rows_size c.args.levels.now _ refl)) in
    let same = ap (λ row. length row.last) row in
    omega arith

pub unreachable-requires : goal.unreachable-requires
unreachable-requires c =
    let sizes = c.loop-place.invariant.sizes in
    let within = c.loop-place.invariant.within in
    let none = entry_read c.loop-place.places.items c.loop-place.vertex _ _ (omega arith) c.index.ensures c.in_default.is in
    let row = row_back c.args.levels.now c.args.n c.loop-place.place _ c.requires.size c.loop-place-test.true c.index-levels-levels.is in
    c.loop-place.invariant.lowered (back_fewer _ _ _ _ _ _ _ none c.loop-place.invariant) (ap (λ row. last_at row c.loop-place.vertex) row ∙ sym c.last_arc.ensures ∙ c.in_default-last_arc.is)

pub bounds-arcs-number : goal.bounds-arcs-number
bounds-arcs-number c =
    let sizes = c.loop-place.invariant.sizes in
    let within = c.loop-place.invariant.within in
    let none = entry_read c.loop-place.places.items c.loop-place.vertex _ _ (omega arith) c.index.ensures c.in_default.is in
    let row = row_back c.args.levels.now c.args.n c.loop-place.place _ c.requires.size c.loop-place-test.true c.index-levels-levels.is in
    back_within _ _ _ _ _ _ _ _ c.requires.levels (rows_size _ _ c.requires.size) none (ap (λ row. last_at row c.loop-place.vertex) row ∙ sym c.last_arc.ensures ∙ c.in-Some-last_arc.is) c.loop-place.invariant

pub loop-place-preserved : goal.loop-place-preserved
loop-place-preserved c =
    let sizes = c.loop-place.invariant.sizes in
    let within = c.loop-place.invariant.within in
    let none = entry_read c.loop-place.places.items c.loop-place.vertex _ _ (omega arith) c.index.ensures c.in_default.is in
    let row = row_back c.args.levels.now c.args.n c.loop-place.place _ c.requires.size c.loop-place-test.true c.index-levels-levels.is in
    let few = back_fewer _ _ _ _ _ _ _ none c.loop-place.invariant in
    rw c.in_ok-push.ensures.items (back_next _ _ _ _ _ _ _ _ (c.args.n - (c.loop-place.place + 1)) c.requires.arcs c.requires.levels (rows_size _ _ c.requires.size) (omega arith) none (ap (λ row. last_at row c.loop-place.vertex) row ∙ sym c.last_arc.ensures ∙ c.in-Some-last_arc.is) c.loop-place.invariant)

pub unreachable-requires-2 : goal.unreachable-requires-2
unreachable-requires-2 c =
    let few = back_few _ _ _ _ _ _ _ c.loop-place.invariant in
    let size = c.requires.size in
    omega arith
