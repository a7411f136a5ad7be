use Rattle.std.proofs.Common.{◌≡◌, ◌<◌, ◌+◌, ◌∙◌, ℕ, Bool, List, [], Global, Vec, ap, get_or, length, map, replicate, subst, sym, arith}
use Rattle.std.specs.Prelude.{slice_set}
use Rattle.std.proofs.lemmas.Grind.{get_or_default_zero}
use Rattle.std.proofs.lemmas.List.{get_or_default}
use Rattle.std.proofs.lemmas.List.Sums.{sum_by-take-le}
use Rattle.th_cuts.specs.declared.edges.Edge.{Edge}
use Rattle.th_observations.specs.Observed.{Observed}
use Rattle.th_network.specs.Networks.{vertices_of}
use Rattle.th_cuts.specs.Graphs.{edge_at}
use Rattle.th_cuts.specs.Drains.{room_at}
use Rattle.th_reliability.specs.Inside.Targets.{far_end}
use Rattle.th_reliability.proofs.TargetLemmas.{AreFound, AreSized, edges_long, far_inside, found_hold, found_rest, found_skip, found_skips, found_start, heavy_is, mark_is, nowhere, room_fits, same_found, same_sized, sized_hold, sized_skip, sized_skips, sized_start, weight_fits}
use Rattle.th_reliability.proofs.WeightLemmas.{heavy_listed}
use Rattle.th_reliability.proofs.targets.targets_of.Goals as goal
use Rattle.th_reliability.proofs.targets.targets_of.Goals.{then-mistaken-i+in_ok-push, else-mistaken-i}

pub loop-i-init : goal.loop-i-init
loop-i-init c =
    let survey = c.args.ground.now.network.now in
    let edges = c.args.ground.now.edges.items in
    let is = c.args.ground.now.edged in
    let run = c.requires.run in
    let long = edges_long survey edges is in
    let each = c.requires.each in
    let first = c.args.run.0 in
    let zeros : c.in_ok-rooms.rooms.items ≡ replicate (vertices_of survey) 0 = c.in_ok-rooms.ensures.items_if_clones_equal (λ y e. e) ∙ ap (λ n. replicate n 0) c.vertices.ensures.vertices in
    record {
      sized = subst (λ (rooms : List ℕ). AreSized survey edges first 0 rooms) (sym zeros) (sized_skips survey edges is first 0 first 0 (replicate (vertices_of survey) 0) (omega arith) (omega (arith, run.ordered, run.within)) (sized_start survey edges is));
      found = λ group same. subst (λ (rooms : List ℕ). AreFound survey group c.args.start first 0 rooms c.new-targets.result.items) (sym zeros) (subst (λ (targets : List ℕ). AreFound survey group c.args.start first 0 (replicate (vertices_of survey) 0) targets) (sym c.new-targets.ensures.items)
          (found_skips survey edges is group c.args.start c.args.mistaken.now same first 0 first 0 (replicate (vertices_of survey) 0) [] (omega arith) (omega (arith, run.ordered, run.within)) (λ k h before. run.below k before) (found_start survey edges is group c.args.start)));
    }

pub loop-i-preserved : goal.loop-i-preserved
loop-i-preserved c =
    let survey = c.args.ground.now.network.now in
    let edges = c.args.ground.now.edges.items in
    let is = c.args.ground.now.edged in
    let start = c.args.start in
    let i = c.loop-i.i in
    let rooms = c.loop-i.rooms.items in
    let within : i < length survey.observations = omega (arith, c.requires.each, c.requires.run.within, c.min-end.ensures, c.loop-i-test.true) in
    let long = edges_long survey edges is in
    let inner : i < length edges = omega arith in
    let sized = c.loop-i.invariant.sized in
    let o : Observed = get_or survey.observations i nowhere in
    let here : o ≡ get_or survey.observations i o = get_or_default survey.observations i nowhere o within in
    let heavy = get_or c.weights-weights.result.now i 0 in
    let weighs = heavy_is survey edges is c.weights-weights.result.now i c.weights-weights.ensures.weights within in
    elim c.if-mistaken-i.branch [
      | then-mistaken-i+in_ok-push w ↦
          let far = w.far_end-far.result in
          let far_is : far ≡ far_end start (edge_at edges i) = w.far_end-far.ensures ∙ ap (λ (es : List Edge). far_end start (edge_at es i)) c.as_slice-edges.ensures.value in
          let there = far_inside survey edges is start i c.loop-i.weight rooms sized inner in
          let far_in : far < length rooms = omega arith in
          let read : w.index_mut.result.now ≡ room_at rooms far = w.index_mut.ensures.value ∙ get_or_default_zero rooms far _ far_in in
          let total : w.index_mut.result.now + (heavy + heavy) ≡ room_at rooms far + (heavy + heavy) = omega arith in
          let rooms_are : c.if-mistaken-i.rooms.items ≡ slice_set rooms far (room_at rooms far + (heavy + heavy)) = ap (λ (r : Vec ℕ Global). r.items) w.rooms-is ∙ ap (slice_set rooms far) total in
          record {
            sized = same_sized survey edges (i + 1) (c.loop-i.weight + heavy) c.if-mistaken-i.weight (slice_set rooms far (room_at rooms far + (heavy + heavy))) c.if-mistaken-i.rooms.items w.weight-is rooms_are
                (sized_hold survey edges is start i c.loop-i.weight rooms sized inner far heavy far_is weighs);
            found = λ group same. same_found survey group start (i + 1) _ c.if-mistaken-i.weight _ c.if-mistaken-i.rooms.items _ c.if-mistaken-i.targets.items w.weight-is rooms_are (ap (λ (t : Vec ℕ Global). t.items) w.targets-is ∙ w.in_ok-push.ensures.items)
                (found_hold survey edges is group start i c.loop-i.weight rooms c.loop-i.targets.items o (c.loop-i.invariant.found group same) within here far heavy far_is weighs far_in (sym (mark_is survey group c.args.mistaken.now i same within) ∙ w.if-mistaken-i.true));
          }
      | else-mistaken-i w ↦
          let rooms_are = ap (λ (r : Vec ℕ Global). r.items) w.rooms-is in
          record {
            sized = same_sized survey edges (i + 1) _ c.if-mistaken-i.weight _ c.if-mistaken-i.rooms.items w.weight-is rooms_are (sized_skip survey edges is i c.loop-i.weight rooms sized inner);
            found = λ group same. same_found survey group start (i + 1) _ c.if-mistaken-i.weight _ c.if-mistaken-i.rooms.items _ c.if-mistaken-i.targets.items w.weight-is rooms_are (ap (λ (t : Vec ℕ Global). t.items) w.targets-is)
                (found_skip survey edges is group start i c.loop-i.weight rooms c.loop-i.targets.items o (c.loop-i.invariant.found group same) within here (sym (mark_is survey group c.args.mistaken.now i same within) ∙ w.if-mistaken-i.false));
          }
    ]

pub overflow_add-index_mut : goal.overflow_add-index_mut
overflow_add-index_mut c =
    let survey = c.args.ground.now.network.now in
    let edges = c.args.ground.now.edges.items in
    let is = c.args.ground.now.edged in
    let i = c.loop-i.i in
    let rooms = c.loop-i.rooms.items in
    let within : i < length survey.observations = omega (arith, c.requires.each, c.requires.run.within, c.min-end.ensures, c.loop-i-test.true) in
    let long = edges_long survey edges is in
    let inner : i < length edges = omega arith in
    let sized = c.loop-i.invariant.sized in
    let weighs = heavy_is survey edges is c.weights-weights.result.now i c.weights-weights.ensures.weights within in
    let far = c.far_end-far.result in
    let far_is : far ≡ far_end c.args.start (edge_at edges i) = c.far_end-far.ensures ∙ ap (λ (es : List Edge). far_end c.args.start (edge_at es i)) c.as_slice-edges.ensures.value in
    let there = far_inside survey edges is c.args.start i c.loop-i.weight rooms sized inner in
    let far_in : far < length rooms = omega arith in
    let read : c.index_mut.result.now ≡ room_at rooms far = c.index_mut.ensures.value ∙ get_or_default_zero rooms far _ far_in in
    let same : room_at rooms far ≡ room_at rooms (far_end c.args.start (edge_at edges i)) = ap (room_at rooms) far_is in
    let room = room_fits survey edges is c.args.start i c.loop-i.weight rooms sized inner in
    let fits = weight_fits survey edges is c.args.start i c.loop-i.weight rooms sized inner in
    let light = is.light in
    omega arith

pub returns : goal.returns
returns c =
    let survey = c.args.ground.now.network.now in
    let sized = c.loop-i.invariant.sized in
    let part = sum_by-take-le (λ (e : Edge). e.weight) c.args.ground.now.edges.items c.loop-i.i in
    let most = sized.light in
    let whole = c.args.ground.now.edged.light in
    let all = λ (group : Observed → Bool) (same : c.args.mistaken.now ≡ map group survey.observations).
    found_rest survey c.args.ground.now.edges.items c.args.ground.now.edged group c.args.start c.args.mistaken.now same c.loop-i.i c.loop-i.weight c.loop-i.rooms.items c.loop-i.targets.items (λ k h. c.requires.run.above k (omega (arith, ap length c.observations-observations.ensures.observations, c.requires.each, c.requires.run.within, c.min-end.ensures, c.loop-i-test.false))) (c.loop-i.invariant.found group same) in
    record {
      each = sized.each;
      light = omega arith;
      weigh = heavy_listed survey c.weights-weights.result.now c.weights-weights.ensures.weights c.weights-weights.ensures.in_range;
      anchored = c.observations-observations.ensures.network.anchored;
      weight = λ group same. (all group same).1;
      targets = λ group same. (all group same).0;
    }
