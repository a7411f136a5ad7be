use Rattle.std.proofs.lemmas.Int.{ints}
use Rattle.std.proofs.Common.{◌≡◌, List, Option, Some, Ok, ℕ, ℤ, length, eqb, map, take, drop, ◌++◌, ◌-ℤ◌, ap, sym, ◌∙◌, subst, arith}
use Rattle.std.specs.List.{IsDistinct}
use Rattle.th_search.specs.Answers.{IsAnswer}
use Rattle.th_search.specs.Asked.{Asked, potentials_in}
use Rattle.th_search.specs.declared.searches.Found.{Found}
use Rattle.std.specs.declared.alloc.AllocError.{AllocError}
use Rattle.std.proofs.lemmas.List.{length-map}
use Rattle.th_search.specs.Potentials.{value_at}
use Rattle.th_search.specs.declared.arcs.Arc.{Arc}
use Rattle.th_circulation.specs.Inside.Bounds.{farthest, raised_bound}
use Rattle.th_circulation.specs.declared.slots.Slot.{Slot}
use Rattle.th_circulation.specs.Inside.Cycles.{leads_to}
use Rattle.th_circulation.specs.Inside.Flows.{ShowsLinks, residuals}
use Rattle.th_search.specs.Distances.{AreWithin}
use Rattle.th_circulation.specs.Inside.Listings.{AreOpen, AreResidual, HasAllBefore, Lists, arc_of, slots_at}
use Rattle.th_circulation.specs.Inside.Workspaces.{IsAskedFor}
use Rattle.th_circulation.specs.declared.graphs.LinkGraph.{LinkGraph}
use Rattle.th_circulation.specs.declared.listings.Listing.{Listing}
use Rattle.th_circulation.specs.declared.states.State.{State}
use Rattle.th_circulation.proofs.AdvanceLemmas.{all_listed, sent_flow, sent_gain_more, sent_retold}
use Rattle.th_circulation.proofs.ArcLemmas.{arcs_are, potentials_within}
use Rattle.th_circulation.proofs.HeightLemmas.{raised_rises}
use Rattle.th_search.proofs.WithinLemmas.{written}
use Rattle.th_circulation.proofs.NegativeCycles.{cycle_enters_once, numbers_of_cycle}
use Rattle.th_circulation.proofs.PotentialLemmas.{potentials_show}
use Rattle.th_circulation.proofs.workspaces.Workspace.advance.Goals as goal

-- what is listed has the differences and the flows from before
listed_before : (graph : LinkGraph) (old new : State) (listing : Listing) → new.differences.items ≡ old.differences.items → new.flows.items ≡ old.flows.items → Lists graph new listing → AreResidual graph.links.now graph.weights.now old.differences.items (value_at new.heights.items) old.flows.items listing.arcs.items listing.slots.items
listed_before graph old new listing d f lists =
    let Is : List ℤ → List ℤ → Type 0 = λ ds fs. AreResidual graph.links.now graph.weights.now ds (value_at new.heights.items) fs listing.arcs.items listing.slots.items in
    subst (λ (ds : List ℤ). Is ds old.flows.items) d (subst (λ (fs : List ℤ). Is new.differences.items fs) f lists)

abbrev asked_about : ℕ → List Arc → Option (List ℤ) → Asked
asked_about vertices arcs potentials = record { vertices = vertices; arcs = arcs; potentials = potentials }

pub search-requires-clause-searched : goal.search-requires-clause-searched
search-requires-clause-searched g c =
    let graph = c.args.graph.now in
    let work = c.args.self.now in
    let next = c.list_next.new.self in
    let ready = c.requires.ready in
    let residual = listed_before graph work.state next.state next.listing c.list_next.ensures.differences c.list_next.ensures.flows c.list_next.ensures.listed in
    let few = c.list_next.ensures.few in
    let links = graph.graph.few_links in
    let long = ap (λ (listed : List Arc). length listed) residual.is ∙ length-map next.listing.slots.items (arc_of graph.links.now work.state.differences.items (value_at next.state.heights.items)) in
    record {
      some = graph.graph.some;
      vertices = graph.graph.few_vertices;
      many = omega arith;
      arcs = arcs_are graph.vertices graph.links.now graph.weights.now work.state.differences.items next.state.heights.items work.state.flows.items next.listing.arcs.items next.listing.slots.items graph.graph ready.differences c.list_next.ensures.ready.heights residual;
    }

pub cancel-requires-clause-ready : goal.cancel-requires-clause-ready
cancel-requires-clause-ready g c =
    let graph = c.args.graph.now in
    let work = c.args.self.now in
    let next = c.list_next.new.self in
    let residual = listed_before graph work.state next.state next.listing c.list_next.ensures.differences c.list_next.ensures.flows c.list_next.ensures.listed in
    let negative = subst (IsAnswer graph.vertices next.listing.arcs.items) c.in-Cycle.is c.in_ok-cycle.ensures.answer in
    let ready : AreOpen graph next.listing.slots.items c.in-Cycle.cycle.items work.state.flows.items = record {
      bounded = c.requires.ready.flow.bounded;
      within = residual.within;
      room = residual.room;
      numbered = numbers_of_cycle graph.links.now graph.weights.now work.state.differences.items (value_at next.state.heights.items) work.state.flows.items next.listing.arcs.items next.listing.slots.items c.in-Cycle.cycle.items residual negative;
    } in
    subst (λ (slots : List Slot). AreOpen graph slots c.deref-in-Cycle.result.now c.deref_mut.result.now) (sym c.deref.ensures.value) (
    subst (λ (cycle : List ℕ). AreOpen graph next.listing.slots.items cycle c.deref_mut.result.now) (sym c.deref-in-Cycle.ensures.value) (
    subst (AreOpen graph next.listing.slots.items c.in-Cycle.cycle.items) (sym (c.deref_mut.ensures.value ∙ c.list_next.ensures.flows)) ready))

pub cancel-requires-clause-once : goal.cancel-requires-clause-once
cancel-requires-clause-once g c =
    let graph = c.args.graph.now in
    let work = c.args.self.now in
    let next = c.list_next.new.self in
    let residual = listed_before graph work.state next.state next.listing c.list_next.ensures.differences c.list_next.ensures.flows c.list_next.ensures.listed in
    let negative = subst (IsAnswer graph.vertices next.listing.arcs.items) c.in-Cycle.is c.in_ok-cycle.ensures.answer in
    subst (λ (slots : List Slot). IsDistinct eqb (map (leads_to graph.links.now) (slots_at slots c.deref-in-Cycle.result.now))) (sym c.deref.ensures.value) (subst (λ (cycle : List ℕ). IsDistinct eqb (map (leads_to graph.links.now) (slots_at next.listing.slots.items cycle))) (sym c.deref-in-Cycle.ensures.value) (cycle_enters_once graph.links.now graph.weights.now work.state.differences.items (value_at next.state.heights.items) work.state.flows.items next.listing.arcs.items next.listing.slots.items c.in-Cycle.cycle.items residual negative))

pub raise-requires-clause-potentials : goal.raise-requires-clause-potentials
raise-requires-clause-potentials g c =
    let graph = c.args.graph.now in
    let work = c.args.self.now in
    let next = c.list_next.new.self in
    let ready = c.requires.ready in
    let few = graph.graph.few_vertices in
    let residual = listed_before graph work.state next.state next.listing c.list_next.ensures.differences c.list_next.ensures.flows c.list_next.ensures.listed in
    let found = subst (IsAnswer graph.vertices next.listing.arcs.items) c.in-Potentials.is c.in_ok-cycle.ensures.answer in
    subst (AreWithin graph.vertices farthest) (sym c.deref-in-Potentials.ensures.value) (potentials_within graph.vertices next.listing.arcs.items c.in-Potentials.potentials.items few (arcs_are graph.vertices graph.links.now graph.weights.now work.state.differences.items next.state.heights.items work.state.flows.items next.listing.arcs.items next.listing.slots.items graph.graph ready.differences c.list_next.ensures.ready.heights residual) found)

pub returns-in-Cycle-clause-goes_on : goal.returns-in-Cycle-clause-goes_on
returns-in-Cycle-clause-goes_on g c =
    let graph = c.args.graph.now in
    let work = c.args.self.now in
    let next = c.list_next.new.self in
    let residual = listed_before graph work.state next.state next.listing c.list_next.ensures.differences c.list_next.ensures.flows c.list_next.ensures.listed in
    let negative = subst (IsAnswer graph.vertices next.listing.arcs.items) c.in-Cycle.is c.in_ok-cycle.ensures.answer in
    let lent = ap (λ (fs : List ℤ). length fs) c.deref_mut.ensures.value in
    let kept = c.cancel.auto.flows in
    let long = c.deref_mut.ensures.len in
    let back = written next.state.flows.len c.cancel.new.flows next.state.flows.items (omega arith) (omega arith) in
    let sent = sent_retold graph.weights.now next.listing.slots.items _ c.in-Cycle.cycle.items _ work.state.flows.items _ _ _ c.deref.ensures.value c.deref-in-Cycle.ensures.value (c.deref_mut.ensures.value ∙ c.list_next.ensures.flows) (sym back) c.cancel.ensures in
    let gained = sent_gain_more graph.links.now graph.weights.now work.state.differences.items (value_at next.state.heights.items) work.state.flows.items _ next.listing.arcs.items next.listing.slots.items c.in-Cycle.cycle.items c.requires.ready.differences.each c.requires.ready.flow residual negative sent in
    let ticked = c.tick.ensures in
    record {
      differences = c.list_next.ensures.differences;
      flow = sent_flow graph.links.now graph.weights.now work.state.differences.items (value_at next.state.heights.items) work.state.flows.items _ next.listing.arcs.items next.listing.slots.items c.in-Cycle.cycle.items c.requires.ready.flow residual negative sent;
      fits = c.list_next.ensures.ready.fits;
      gained = omega (arith, ints);
    }

pub returns-in-Potentials-clause-answer : goal.returns-in-Potentials-clause-answer
returns-in-Potentials-clause-answer g c =
    let graph = c.args.graph.now in
    let work = c.args.self.now in
    let next = c.list_next.new.self in
    let residual = listed_before graph work.state next.state next.listing c.list_next.ensures.differences c.list_next.ensures.flows c.list_next.ensures.listed in
    let found = subst (IsAnswer graph.vertices next.listing.arcs.items) c.in-Potentials.is c.in_ok-cycle.ensures.answer in
    let far = potentials_within graph.vertices next.listing.arcs.items c.in-Potentials.potentials.items graph.graph.few_vertices (arcs_are graph.vertices graph.links.now graph.weights.now work.state.differences.items next.state.heights.items work.state.flows.items next.listing.arcs.items next.listing.slots.items graph.graph c.requires.ready.differences c.list_next.ensures.ready.heights residual) found in
    let lent = ap (λ (hs : List ℤ). length hs) c.deref_mut-in-Potentials.ensures.value in
    let kept = c.raise.auto.heights in
    let long = c.deref_mut-in-Potentials.ensures.len in
    let back = written next.state.heights.len c.raise.new.heights next.state.heights.items (omega arith) (omega arith) in
    let old = λ (v : ℕ). ap (λ (hs : List ℤ). value_at hs v) c.deref_mut-in-Potentials.ensures.value in
    let all = all_listed next.listing.arcs.items c.in-Potentials.potentials.items (HasAllBefore graph.weights.now work.state.flows.items next.listing.slots.items (length graph.links.now)) c.list_next.ensures.next found.feasible in
    let raised_heights = take next.state.heights.len (c.raise.new.heights ++ drop (length c.raise.new.heights) next.state.heights.items) in
    let raised = λ (v : ℕ). ap (λ (hs : List ℤ). value_at hs v) back ∙ c.raise.ensures.each v ∙ ap (λ (z : ℤ). z -ℤ value_at c.deref-in-Potentials.result.now v) (old v) ∙ ap (λ (ps : List ℤ). value_at next.state.heights.items v -ℤ value_at ps v) c.deref-in-Potentials.ensures.value in
    let few = c.list_next.ensures.few in
    let links = graph.graph.few_links in
    let listed = ap (λ (listed : List Arc). length listed) residual.is ∙ length-map next.listing.slots.items (arc_of graph.links.now work.state.differences.items (value_at next.state.heights.items)) in
    let asked : IsAskedFor graph work.state.differences.items work.state.flows.items next.listing.arcs.items (g.S.Search.asked c.search.new.self) = record {
      heights = next.state.heights.items;
      slots = next.listing.slots.items;
      potentials = c.in-Potentials.potentials.items;
      residual = residual;
      all = all;
      many = omega arith;
      arcs_are = arcs_are graph.vertices graph.links.now graph.weights.now work.state.differences.items next.state.heights.items work.state.flows.items next.listing.arcs.items next.listing.slots.items graph.graph c.requires.ready.differences c.list_next.ensures.ready.heights residual;
      feasible = found.feasible;
      last = c.in_ok-cycle.ensures.asked ∙ ap (λ (f : Found). Some (asked_about graph.vertices next.listing.arcs.items (potentials_in {E = AllocError} (Ok f)))) c.in-Potentials.is;
    } in
    record {
      heights = subst (AreWithin graph.vertices raised_bound) (sym back) c.raise.ensures.within;
      rises = raised_rises graph.vertices next.state.heights.items c.in-Potentials.potentials.items raised_heights graph.graph.some c.list_next.ensures.ready.heights far found.high raised;
      shown = subst (λ (fs : List ℤ). ShowsLinks graph.weights.now fs (residuals graph.links.now work.state.differences.items (value_at raised_heights))) (sym c.list_next.ensures.flows) (potentials_show graph.links.now graph.weights.now work.state.differences.items (value_at next.state.heights.items) work.state.flows.items next.listing.arcs.items next.listing.slots.items c.in-Potentials.potentials.items raised_heights c.requires.ready.flow c.requires.ready.differences.each residual all found.feasible raised);
      answered = subst (λ (fs : List ℤ). IsAskedFor graph work.state.differences.items fs next.listing.arcs.items (g.S.Search.asked c.search.new.self)) (sym c.list_next.ensures.flows) asked;
    }
