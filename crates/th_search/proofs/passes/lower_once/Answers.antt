use Rattle.std.proofs.Common.{All, length, ◌≡◌, ◌<◌, sym, ◌∙◌, subst, arith, length-set}
use Rattle.std.proofs.lemmas.Bool.{false≢true}
use Rattle.th_search.specs.Walks.{IsArc, arc_at}
use Rattle.th_search.specs.Inside.Entries.{IsOnCycle, Meets}
use Rattle.th_search.specs.Inside.Labels.{IsForest}
use Rattle.th_search.proofs.DepthLemmas.{arc_is}
use Rattle.th_search.proofs.LowerLemmas.{closed_after}
use Rattle.th_search.proofs.PassLemmas.{fits_as_is, improves, most_at, passing_by, passing_done, passing_first, passing_lower, read_low, reads}
use Rattle.th_search.proofs.passes.lower_once.Goals as goal
use Rattle.th_search.proofs.passes.lower_once.Goals.{then-label-index+else-closes, then-ne, else-ne, else-label-index}

pub loop-step-init : goal.loop-step-init
loop-step-init c = passing_first _ _ _ _ c.requires.arcs c.requires.size c.requires.labels c.requires.forest

pub overflow_add-label : goal.overflow_add-label
overflow_add-label c =
    let all = subst (λ m. All (IsArc m) c.args.arcs.now) (sym c.loop-step.invariant.size) c.requires.arcs in
    read_low _ _ _ (most_at c.loop-step.step) _ all (omega arith) c.loop-step.invariant.within c.index_at-number.ensures.within c.index.ensures

pub leads_back-closes-requires-clause-arcs : goal.leads_back-closes-requires-clause-arcs
leads_back-closes-requires-clause-arcs c =
    let size = c.loop-step.invariant.size in
    let entered = c.loop-step.invariant.labels.entered.size in
    let same : length c.args.labels.now.values.items ≡ length c.deref.result.now = rw c.deref.ensures.value (omega arith) in
    subst (λ m. All (IsArc m) c.args.arcs.now) same c.requires.arcs

pub lower-requires-clause-arcs : goal.lower-requires-clause-arcs
lower-requires-clause-arcs c = subst (λ m. All (IsArc m) c.args.arcs.now) (sym c.loop-step.invariant.size) c.requires.arcs

pub lower-requires-clause-improves : goal.lower-requires-clause-improves
lower-requires-clause-improves c =
    let all = subst (λ m. All (IsArc m) c.args.arcs.now) (sym c.loop-step.invariant.size) c.requires.arcs in
    improves _ _ _ _ _ (reads _ _ _ (most_at c.loop-step.step) _ _ all (omega arith) c.loop-step.invariant.within c.index_at-number.ensures.within c.index.ensures c.index-in-loop-step.ensures) c.if-label-index.true

pub returns-then-closes-clause-pass : goal.returns-then-closes-clause-pass
returns-then-closes-clause-pass c =
    let all = subst (λ m. All (IsArc m) c.args.arcs.now) (sym c.loop-step.invariant.size) c.requires.arcs in
    let head = (arc_is _ _ _ all c.index_at-number.ensures.within).head in
    let entered = c.loop-step.invariant.labels.entered.size in
    let inside : (arc_at c.args.arcs.now c.index_at-number.result).head < length c.loop-step.labels.entries.items = omega arith in
    elim c.if-ne.branch [
      | then-ne w ↦ (
        rw c.lower.ensures.values (simp length-set head),
        subst (λ entries. IsOnCycle c.args.arcs.now entries (arc_at c.args.arcs.now c.index_at-number.result).head) (sym c.lower.ensures.entries) (
            closed_after c.args.arcs.now c.loop-step.labels.entries.items c.index_at-number.result inside (
            subst (λ entries. Meets c.args.arcs.now entries (arc_at c.args.arcs.now c.index_at-number.result).tail (arc_at c.args.arcs.now c.index_at-number.result).head) w.deref.ensures.value (w.leads_back-closes.ensures (sym w.closes-is ∙ c.if-closes.true)))),
      )
      | else-ne w ↦ absurd (false≢true (sym w.if-ne.false ∙ sym w.closes-is ∙ c.if-closes.true))
    ]

pub loop-step-preserved : goal.loop-step-preserved
loop-step-preserved c =
    let all = subst (λ m. All (IsArc m) c.args.arcs.now) (sym c.loop-step.invariant.size) c.requires.arcs in
    elim c.if-label-index.branch [
      | then-label-index+else-closes w ↦
          let better = improves _ _ _ _ _ (reads _ _ _ (most_at c.loop-step.step) _ _ all (omega arith) c.loop-step.invariant.within c.index_at-number.ensures.within c.index.ensures c.index-in-loop-step.ensures) w.if-label-index.true in
          rw (w.labels-is, w.lowered-is, w.lower.ensures.values) (passing_lower _ _ _ _ _ _ _ _ _ _ _ all (omega arith) c.index_at-number.ensures.within better (rw w.lower.ensures.values at w.lower.ensures.labels) c.loop-step.invariant)
      | else-label-index w ↦ rw (w.labels-is, w.lowered-is) (passing_by _ _ _ _ _ _ _ _ _ c.index_at-number.ensures.index (fits_as_is _ _ _ _ _ (reads _ _ _ (most_at c.loop-step.step) _ _ all (omega arith) c.loop-step.invariant.within c.index_at-number.ensures.within c.index.ensures c.index-in-loop-step.ensures) w.if-label-index.false) c.loop-step.invariant)
    ]

pub returns-else-lowered-clause-pass : goal.returns-else-lowered-clause-pass
returns-else-lowered-clause-pass c =
    let passing = c.loop-step.invariant in
    (passing_done _ _ _ _ _ _ _ _ c.loop-step-test.false c.if-lowered.false passing, subst (IsForest c.args.arcs.now) (sym (passing.kept c.if-lowered.false)) c.requires.forest)
