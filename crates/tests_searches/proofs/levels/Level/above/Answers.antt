use Rattle.std.proofs.Common.{ℕ, ◌≡◌, length, get_or, None, ◌∙◌, arith, rules}
use Rattle.std.proofs.lemmas.Grind.{common_steps}
use Rattle.tests_searches.proofs.LevelLemmas.{reading, reading_less, reading_not, rising_by, rising_done, rising_first, rising_lower, sum_fits}
use Rattle.tests_searches.proofs.levels.Level.above.Goals as goal
use Rattle.tests_searches.proofs.levels.Level.above.Goals.{then-cost-index, else-cost-index}

pub loop-number-init : goal.loop-number-init
loop-number-init c =
    let same : c.in_ok-costs.costs.items ≡ c.args.self.now.costs.items = c.in_ok-costs.ensures.items_if_clones_equal (λ x y h. h) ∙ c.deref.ensures.value in
    let size : length c.in_ok-last.last.items ≡ length c.args.self.now.costs.items = search rules in
    let none : (v : ℕ) → get_or c.in_ok-last.last.items v None ≡ None = λ v. grind (arith, common_steps) in
    rising_first _ _ _ _ same size none c.requires.within

pub overflow_add-cost : goal.overflow_add-cost
overflow_add-cost c = sum_fits _ _ _ _ _ _ c.requires.arcs c.requires.within c.loop-number-test.true c.index.ensures c.loop-number.invariant

pub loop-number-preserved : goal.loop-number-preserved
loop-number-preserved c =
    let read = reading _ _ _ _ _ _ _ c.requires.arcs c.requires.within c.loop-number-test.true c.index.ensures c.index-in-loop-number.ensures c.loop-number.invariant in
    elim c.if-cost-index.branch [
      | then-cost-index w ↦ rw (w.level-is, w.put.ensures.costs, w.put.ensures.last) (rising_lower _ _ _ _ _ _ c.requires.arcs c.requires.within c.loop-number-test.true read.sum (reading_less _ _ _ _ _ _ read w.if-cost-index.true) c.loop-number.invariant)
      | else-cost-index w ↦ rw w.level-is (rising_by _ _ _ _ _ (reading_not _ _ _ _ _ _ read w.if-cost-index.false) c.loop-number.invariant)
    ]

pub returns : goal.returns
returns c = rising_done _ _ _ _ _ c.loop-number-test.false c.loop-number.invariant
