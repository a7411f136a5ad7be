use Rattle.std.proofs.Common.{◌≡◌, ◌+◌, ◌<◌, ◌+ℤ◌, ◌-ℤ◌, ℤ, pos, List, length, get_or, refl, sym, ap, ◌∙◌, subst, arith}
use Rattle.th_observations.specs.Observed.{IsBetweenPoints, Observed}
use Rattle.th_network.specs.Links.{base}
use Rattle.th_network.specs.Networks.{HaveSameEnds, Survey}
use Rattle.th_network.specs.declared.links.Link.{Link}
use Rattle.th_network.proofs.EndLemmas.{link_at, other_exact, other_fits, relinked_more, same_count, without_fits}
use Rattle.th_network.proofs.LinkLemmas.{AreLinked}
use Rattle.th_network.proofs.networks.relinked.Goals as goal

pub overflow_sub-without : goal.overflow_sub-without
overflow_sub-without c =
    let observations = c.network.inside.observations.items in
    let benchmarks = c.network.inside.benchmarks.now in
    let others = c.args.observations.now in
    let i = c.loop-i.i in
    let old : Observed = c.index-old-i.result in
    let same : HaveSameEnds observations others = subst (λ (s : Survey). HaveSameEnds s.observations others) (sym c.network.view_is) c.requires in
    let before : i < length observations = omega (arith, same_count observations others same, c.loop-i-test.true) in
    let was : old ≡ get_or observations i old = c.index-old-i.is ∙ ap (λ (os : List Observed). get_or os i old) c.as_slice-old.ensures.value in
    let at = link_at observations benchmarks c.network.inside.layout.value.heights.items c.as_slice-arcs.result.now i old (record { tail = 0; head = 0; diff = pos 0 }) c.network.invariant.fixed c.network.invariant.low (c.as_slice-arcs.ensures.value ∙ c.network.invariant.links) before was in
    let f = base benchmarks old.station in
    let t = base benchmarks old.target in
    let l = (get_or c.as_slice-arcs.result.now i (record { tail = 0; head = 0; diff = pos 0 })).diff in
    let w = c.difference.result in
    let parted : l ≡ w +ℤ f -ℤ t = ap (λ (link : Link). link.diff) at.is ∙ ap (λ (z : ℤ). z +ℤ f -ℤ t) (sym c.difference.ensures.value) in
    without_fits l w f t c.difference.ensures.in_range at.from_small at.to_small parted

pub overflow_add-diff : goal.overflow_add-diff
overflow_add-diff c =
    let observations = c.network.inside.observations.items in
    let benchmarks = c.network.inside.benchmarks.now in
    let others = c.args.observations.now in
    let i = c.loop-i.i in
    let old : Observed = c.index-old-i.result in
    let same : HaveSameEnds observations others = subst (λ (s : Survey). HaveSameEnds s.observations others) (sym c.network.view_is) c.requires in
    let before : i < length observations = omega (arith, same_count observations others same, c.loop-i-test.true) in
    let was : old ≡ get_or observations i old = c.index-old-i.is ∙ ap (λ (os : List Observed). get_or os i old) c.as_slice-old.ensures.value in
    let at = link_at observations benchmarks c.network.inside.layout.value.heights.items c.as_slice-arcs.result.now i old (record { tail = 0; head = 0; diff = pos 0 }) c.network.invariant.fixed c.network.invariant.low (c.as_slice-arcs.ensures.value ∙ c.network.invariant.links) before was in
    let f = base benchmarks old.station in
    let t = base benchmarks old.target in
    let l = (get_or c.as_slice-arcs.result.now i (record { tail = 0; head = 0; diff = pos 0 })).diff in
    let w = c.difference.result in
    let parted : l ≡ w +ℤ f -ℤ t = ap (λ (link : Link). link.diff) at.is ∙ ap (λ (z : ℤ). z +ℤ f -ℤ t) (sym c.difference.ensures.value) in
    other_fits c.o.inside.diff l w f t c.o.invariant.in_range c.difference.ensures.in_range at.from_small at.to_small parted

pub loop-i-preserved : goal.loop-i-preserved
loop-i-preserved c =
    let observations = c.network.inside.observations.items in
    let benchmarks = c.network.inside.benchmarks.now in
    let others = c.args.observations.now in
    let i = c.loop-i.i in
    let old : Observed = c.index-old-i.result in
    let same : HaveSameEnds observations others = subst (λ (s : Survey). HaveSameEnds s.observations others) (sym c.network.view_is) c.requires in
    let before : i < length observations = omega (arith, same_count observations others same, c.loop-i-test.true) in
    let was : old ≡ get_or observations i old = c.index-old-i.is ∙ ap (λ (os : List Observed). get_or os i old) c.as_slice-old.ensures.value in
    let at = link_at observations benchmarks c.network.inside.layout.value.heights.items c.as_slice-arcs.result.now i old (record { tail = 0; head = 0; diff = pos 0 }) c.network.invariant.fixed c.network.invariant.low (c.as_slice-arcs.ensures.value ∙ c.network.invariant.links) before was in
    let f = base benchmarks old.station in
    let t = base benchmarks old.target in
    let l = (get_or c.as_slice-arcs.result.now i (record { tail = 0; head = 0; diff = pos 0 })).diff in
    let w = c.difference.result in
    let parted : l ≡ w +ℤ f -ℤ t = ap (λ (link : Link). link.diff) at.is ∙ ap (λ (z : ℤ). z +ℤ f -ℤ t) (sym c.difference.ensures.value) in
    let o : Observed = c.index-observations-i.result in
    let d = c.o.inside.diff in
    let diff = other_exact d l w f t c.o.invariant.in_range c.difference.ensures.in_range at.from_small at.to_small parted ∙ ap (λ (z : ℤ). z +ℤ f -ℤ t) (ap (λ (own : Observed). own.difference) c.o.view_is) in
    subst (λ (s : Survey). AreLinked others s.benchmarks (i + 1) c.push.new.self.items) c.network.view_is
    (relinked_more observations others benchmarks i old o _ _ _ _ same c.loop-i-test.true was c.index-observations-i.is at refl refl diff
    (subst IsBetweenPoints c.o.view_is c.o.invariant) c.in_ok-push.ensures.items
    (subst (λ (s : Survey). AreLinked others s.benchmarks i c.loop-i.links.items) (sym c.network.view_is) c.loop-i.invariant))
