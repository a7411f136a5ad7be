-- What a flow shows that was filled, of the drain that it began with.
use Rattle.std.proofs.Common.{◌≡◌, ℕ, ◌<◌, ◌≤◌, Bool, true, Global, Option, Some, Vec, length, subst, arith}
use Rattle.std.specs.Prelude.{IfSome}
use Rattle.th_cuts.specs.declared.flows.Drain.{Drain}
use Rattle.th_cuts.specs.declared.flows.Flow.{Flow}
use Rattle.th_cuts.specs.Drains.{IsLeastDrain, drain}
use Rattle.th_cuts.specs.Inside.Flows.{IsClosedSide, IsFlow}
use Rattle.th_cuts.proofs.DrainLemmas.{least_drain_is}
use Rattle.th_cuts.proofs.FlowLemmas.{value_most}

-- a side that nothing more can leave, of a lesser flow
pub shown_less : (flow : Flow) (begun : Drain) (found : Option (Vec Bool Global)) (side : Vec Bool Global) → flow.drain ≡ begun → found ≡ Some side → IfSome found (λ _. flow.value < flow.drain.most) → IfSome found (λ side. IsClosedSide flow.drain.graph.now.vertices flow.drain.graph.now.edges.items flow.drain.source flow.left.items flow.flows.items side.items) → IsLeastDrain begun.graph.now.edges.items begun.rooms.now begun.source flow.value side.items × (flow.value < begun.most) × (length side.items ≡ begun.graph.now.vertices)
shown_less flow begun found side same is less closed =
    let lesser = subst (λ (o : Option (Vec Bool Global)). IfSome o (λ _. flow.value < flow.drain.most)) is less in
    let shut = subst (λ (o : Option (Vec Bool Global)). IfSome o (λ side. IsClosedSide flow.drain.graph.now.vertices flow.drain.graph.now.edges.items flow.drain.source flow.left.items flow.flows.items side.items)) is closed in
    let least = least_drain_is flow.drain.graph.now.vertices flow.drain.graph.now.edges.items flow.drain.source flow.value flow.drain.rooms.now flow.left.items flow.flows.items side.items flow.flow shut in
    subst (λ (d : Drain). IsLeastDrain d.graph.now.edges.items d.rooms.now d.source flow.value side.items × (flow.value < d.most) × (length side.items ≡ d.graph.now.vertices)) same (least, lesser, shut.each)

-- all that is to flow
pub shown_all : (flow : Flow) (begun : Drain) → flow.drain ≡ begun → flow.value ≡ flow.drain.most → (inside : ℕ → Bool) → inside begun.source ≡ true → begun.most ≤ drain begun.graph.now.edges.items begun.rooms.now inside
shown_all flow begun same all inside in_it =
    let whole = subst (λ (d : Drain). flow.value ≡ d.most) same all in
    let is = subst (λ (d : Drain). IsFlow d.graph.now.edges.items d.source d.rooms.now flow.left.items flow.value flow.flows.items) same flow.flow in
    let most = value_most begun.graph.now.edges.items begun.source flow.value begun.rooms.now flow.left.items flow.flows.items inside is in_it in
    omega arith
