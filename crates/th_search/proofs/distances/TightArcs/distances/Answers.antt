use Rattle.std.proofs.Common.{List, ℤ, sym, subst, arith, length, ap}
use Rattle.th_search.specs.Distances.{AreDistances}
use Rattle.th_search.specs.Inside.DistanceLabels.{AreLabels}
use Rattle.th_search.proofs.DistanceLemmas.{distances_found, first_labels}
use Rattle.th_search.proofs.WithinLemmas.{written}
use Rattle.th_search.proofs.distances.TightArcs.distances.Goals as goal
use Rattle.std.specs.Prelude.{slice_set, pos}

pub spread-requires : goal.spread-requires
spread-requires c =
    let first = subst (λ (labels : List ℤ). AreLabels c.args.self.now.vertices c.args.self.now.arcs.now (slice_set labels 0 (pos 0))) (sym (c.in_ok-labels.ensures.items_if_clones_equal (λ x e. e))) (first_labels _ _ c.args.self.now.tight) in
    subst (AreLabels c.args.self.now.vertices c.args.self.now.arcs.now) (sym c.deref_mut.ensures.value) first

pub passes-init : goal.passes-init
passes-init c =
    let lent = ap (λ (xs : List ℤ). length xs) c.deref_mut.ensures.value in
    let long = c.deref_mut.ensures.len in
    let kept = c.spread.auto.labels in
    let is = written c.in_ok-labels.labels.len c.spread.new.labels (slice_set c.in_ok-labels.labels.items 0 (pos 0)) (omega arith) (omega arith) in
    subst (AreLabels c.args.self.now.vertices c.args.self.now.arcs.now) (sym is) c.spread.ensures

pub returns : goal.returns
returns c =
    let tight = c.args.self.now.tight in
    let lent = ap (λ (xs : List ℤ). length xs) c.deref_mut.ensures.value in
    let long = c.deref_mut.ensures.len in
    let kept = c.lower_all.auto.labels in
    let is = written c.passes.labels.len c.lower_all.new.labels c.passes.labels.items (omega arith) (omega arith) in
    subst (AreDistances c.args.self.now.vertices c.args.self.now.arcs.now) (sym is) (distances_found _ _ c.lower_all.new.labels tight c.lower_all.ensures.labels c.passes-test.ensures.lowered)
