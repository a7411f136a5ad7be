use Rattle.std.proofs.Common.{◌≡◌, [], ◌+◌, ◌-◌, refl, sym, ap, arith, ◌∙◌, length}
use Rattle.th_cuts.specs.declared.trees.WayStep.{WayStep}
use Rattle.std.proofs.lemmas.List.{get_or_default}
use Rattle.th_cuts.specs.Graphs.{edge_at, finish_of, start_of}
use Rattle.th_cuts.specs.Inside.Guides.{level_at}
use Rattle.th_cuts.specs.Inside.Trees.{IsStep, step_at}
use Rattle.th_cuts.proofs.PathLemmas.{path_more}
use Rattle.th_cuts.proofs.paths.Path.take.Goals as goal

pub returns : goal.returns
returns c =
    let graph = c.args.flow.now.drain.graph.now in
    let steps = c.args.self.now.steps.items in
    let flows = c.args.flow.now.flows.items in
    let way = c.args.way in
    let edge : c.index-edge.result.now ≡ edge_at graph.edges.items way.edge = c.index-edge.ensures ∙ get_or_default graph.edges.items way.edge _ (edge_at [] 0) c.requires.way in
    let path = c.requires.path in
    let root = path.are_steps.root in
    let long = c.len-parent.ensures in
    let parent = c.len-parent.result - 1 in
    let place : length steps - 1 ≡ parent = omega arith in
    let last = c.requires.last ∙ ap (step_at steps) place in
    let new : WayStep = record { vertex = c.finish-finish.result; parent = parent; way = way; limit = c.least-limit.result } in
    let some = path.are_steps.some parent (omega arith) in
    let limit = ap (λ (s : WayStep). s.limit) last in
    let none = c.if-room-eq0.false in
    let more = c.least-limit.ensures.some (omega arith) (omega arith) in
    let second = c.least-limit.ensures.second in
    let same : c.start.result ≡ c.args.last.vertex = omega (arith, c.if-start-last.false) in
    let is : IsStep graph.edges.items flows (step_at steps parent) new = record {
      less = omega arith;
      among = c.requires.way;
      start = ap (start_of way) (sym edge) ∙ sym c.start.ensures ∙ same ∙ ap (λ (s : WayStep). s.vertex) last;
      finish = ap (finish_of way) (sym edge) ∙ sym c.finish-finish.ensures;
      room = (c.room-room.ensures c.least-limit.result).1 c.least-limit.ensures.first;
    } in
    let further = c.if-not-leads_on.ensures refl ∙ ap (λ (s : WayStep). level_at c.args.guide.now.ahead.levels.items s.vertex + 1) last in
    rw (c.in_ok-push.ensures.items) (path_more graph.edges.items flows c.args.flow.now.drain.source c.args.guide.now.ahead.levels.items steps new path more (omega arith) is further)
