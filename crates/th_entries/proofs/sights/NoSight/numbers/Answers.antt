use Rattle.std.proofs.Common.{◌∙◌, ◌++◌, ◌∷◌, [], ℕ, List, true, false, ap, append-nil, arith, get_or, length, length-append, sym}
use Rattle.th_entries.specs.Words.{measured}
use Rattle.th_entries.proofs.NumberLemmas.{chosen}
use Rattle.th_entries.proofs.sights.NoSight.numbers.Goals as goal
use Rattle.th_entries.proofs.sights.NoSight.numbers.Goals.{then-has, else-has}

pub loop-place-preserved : goal.loop-place-preserved
loop-place-preserved c = elim c.if-has.branch [
  | then-has w ↦ record {
    chosen = ap (λ v. v.items) w.numbers-is ∙ w.push.ensures.items ∙ ap (λ (own : List ℕ). own ++ get_or measured c.loop-place.place 0 ∷ []) c.loop-place.invariant.chosen
        ∙ sym (chosen c.args.self.now.words measured c.loop-place.place true c.loop-place-test.true w.if-has.true);
    few = omega (arith, ap (λ v. length v.items) w.numbers-is, ap length w.push.ensures.items, length-append c.loop-place.numbers.items (get_or measured c.loop-place.place 0 ∷ []), c.loop-place.invariant.few);
  }
  | else-has w ↦ record {
    chosen = ap (λ v. v.items) w.numbers-is ∙ c.loop-place.invariant.chosen
        ∙ sym (chosen c.args.self.now.words measured c.loop-place.place false c.loop-place-test.true w.if-has.false ∙ append-nil _);
    few = omega (arith, ap (λ v. length v.items) w.numbers-is, c.loop-place.invariant.few);
  }
]
