use Rattle.std.proofs.Common.{◌≡◌, ℕ, ◌≤◌, Bool, true, false, List, Contains, subst, sym, ◌∙◌, refl}
use Rattle.th_cuts.specs.declared.flows.Flow.{Flow}
use Rattle.th_cuts.specs.Drains.{IsLeastDrain, on_side, room_at}
use Rattle.th_cuts.specs.Inside.Flows.{AreFullOut}
use Rattle.th_cuts.specs.Inside.Trees.{IsTree, reached, step_at}
use Rattle.th_cuts.proofs.DrainLemmas.{just_side, more_reached, more_room}
use Rattle.th_cuts.proofs.drains.of_all.Goals as goal

pub returns-then-has_all : goal.returns-then-has_all
returns-then-has_all c =
    let flow = c.args.flow.now in
    let drain = flow.drain in
    let found = c.spread.new.self in
    let tree = subst (λ (f : Flow). IsTree f.drain.graph.now.vertices f.drain.graph.now.edges.items f.flows.items f.drain.source found.steps.items found.places.items) (c.in_ok-spread.ensures ∙ c.in_ok-tree.ensures) found.tree in
    more_reached drain.graph.now.vertices drain.graph.now.edges.items drain.source flow.value drain.most drain.rooms.now flow.left.items flow.flows.items found.steps.items found.places.items c.args.wanted.now tree flow.flow c.requires (c.has_all.ensures.yes c.if-has_all.true)

pub returns-then-has_all-2 : goal.returns-then-has_all-2
returns-then-has_all-2 c =
    let flow = c.args.flow.now in
    let drain = flow.drain in
    let found = c.close.new.self in
    let tree = subst (λ (f : Flow). IsTree f.drain.graph.now.vertices f.drain.graph.now.edges.items f.flows.items f.drain.source found.steps.items found.places.items) (c.in_ok-close.ensures.flow ∙ c.in_ok-spread.ensures ∙ c.in_ok-tree.ensures) found.tree in
    more_reached drain.graph.now.vertices drain.graph.now.edges.items drain.source flow.value drain.most drain.rooms.now flow.left.items flow.flows.items found.steps.items found.places.items c.args.wanted.now tree flow.flow c.requires (c.has_all-2.ensures.yes c.if-has_all-2.true)

pub returns-in-Some : goal.returns-in-Some
returns-in-Some c =
    let flow = c.args.flow.now in
    let drain = flow.drain in
    let found = c.close.new.self in
    let same = c.in_ok-close.ensures.flow ∙ c.in_ok-spread.ensures ∙ c.in_ok-tree.ensures in
    let tree = subst (λ (f : Flow). IsTree f.drain.graph.now.vertices f.drain.graph.now.edges.items f.flows.items f.drain.source found.steps.items found.places.items) same found.tree in
    more_room drain.graph.now.vertices drain.graph.now.edges.items drain.source flow.value drain.most drain.rooms.now flow.left.items flow.flows.items found.steps.items found.places.items c.args.wanted.now tree flow.flow c.requires c.in-Some.field-0 c.in-Some.ensures.some.0 (subst (λ (f : Flow). 1 ≤ room_at f.left.items (step_at found.steps.items c.in-Some.field-0).vertex) same c.in-Some.ensures.some.1)

pub returns : goal.returns
returns c =
    let flow = c.args.flow.now in
    let drain = flow.drain in
    let found = c.close.new.self in
    let same = c.in_ok-close.ensures.flow ∙ c.in_ok-spread.ensures ∙ c.in_ok-tree.ensures in
    let tree = subst (λ (f : Flow). IsTree f.drain.graph.now.vertices f.drain.graph.now.edges.items f.flows.items f.drain.source found.steps.items found.places.items) same found.tree in
    let full = subst (λ (f : Flow). AreFullOut f.drain.graph.now.edges.items f.flows.items (reached found.places.items)) same c.in_ok-close.ensures.full in
    let used = subst (λ (f : Flow). (vertex : ℕ) → reached found.places.items vertex ≡ true → room_at f.left.items vertex ≡ 0) same (c.in-None.ensures.none refl) in
    let side = just_side drain.graph.now.vertices drain.graph.now.edges.items drain.source flow.value drain.most drain.rooms.now flow.left.items flow.flows.items found.steps.items found.places.items c.args.wanted.now tree flow.flow c.requires full used (c.has_all-2.ensures.no c.if-has_all-2.false) in
    subst (λ (s : List Bool). IsLeastDrain drain.graph.now.edges.items drain.rooms.now drain.source drain.most s × ((vertex : ℕ) × Contains c.args.wanted.now vertex × (on_side s vertex ≡ false))) (sym c.in_ok-side-in-None.ensures) side
