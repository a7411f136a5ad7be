use Rattle.std.proofs.Common.{◌≡◌, ◌<◌, ◌≤◌, ◌-ℤ◌, ◌+ℤ◌, ℤ, pos, List, Option, length, get_or, unsigned_abs, unwrap_or, sym, ap, ◌∙◌, subst, arith}
use Rattle.th_observations.specs.Observed.{IsBetweenPoints, Observed}
use Rattle.th_units.specs.Limits.{max_len}
use Rattle.th_network.specs.Inside.Sites.{AreSites, Looked}
use Rattle.th_network.specs.Links.{base, largest_link_difference}
use Rattle.th_network.proofs.LinkLemmas.{ends_read, linked_more, sum_exact, sum_fits, sum_small}
use Rattle.th_network.proofs.links.links_of.Goals as goal

pub bounds-heights-station : goal.bounds-heights-station
bounds-heights-station c =
    let sited = subst (λ (own : Looked). AreSites own c.sites.inside.points.names.keys c.sites.inside.points.ends.items c.sites.inside.heights.items) c.sites.view_is c.sites.invariant in
    let all = ap (λ (own : Looked). own.observations) c.sites.view_is in
    let within : c.loop-i.i < length c.args.sites.now.observations = omega (arith, ap length all, c.loop-i-test.true) in
    let o = c.index-observations-i.result in
    let here : o ≡ get_or c.args.sites.now.observations c.loop-i.i o = c.index-observations-i.is ∙ ap (λ (os : List Observed). get_or os c.loop-i.i o) all in
    (ends_read c.args.sites.now _ _ _ _ _ c.args.vertices.now.of_places.items c.args.vertices.now.count c.loop-i.i o sited c.as_slice-ends.ensures.value c.as_slice-heights.ensures.value c.requires within here).0.within

pub offset_bounds-heights-station : goal.offset_bounds-heights-station
offset_bounds-heights-station c =
    let sited = subst (λ (own : Looked). AreSites own c.sites.inside.points.names.keys c.sites.inside.points.ends.items c.sites.inside.heights.items) c.sites.view_is c.sites.invariant in
    let all = ap (λ (own : Looked). own.observations) c.sites.view_is in
    let within : c.loop-i.i < length c.args.sites.now.observations = omega (arith, ap length all, c.loop-i-test.true) in
    let o = c.index-observations-i.result in
    let here : o ≡ get_or c.args.sites.now.observations c.loop-i.i o = c.index-observations-i.is ∙ ap (λ (os : List Observed). get_or os c.loop-i.i o) all in
    let place : (get_or c.as_slice-ends.result.now c.loop-i.i (0, 0)).0 < length c.as_slice-heights.result.now =
    (ends_read c.args.sites.now _ _ _ _ _ c.args.vertices.now.of_places.items c.args.vertices.now.count c.loop-i.i o sited c.as_slice-ends.ensures.value c.as_slice-heights.ensures.value c.requires within here).0.within in
    omega (arith, place, ap length c.as_slice-heights.ensures.value, c.sites.inside.heights.small)

pub bounds-heights-target : goal.bounds-heights-target
bounds-heights-target c =
    let sited = subst (λ (own : Looked). AreSites own c.sites.inside.points.names.keys c.sites.inside.points.ends.items c.sites.inside.heights.items) c.sites.view_is c.sites.invariant in
    let all = ap (λ (own : Looked). own.observations) c.sites.view_is in
    let within : c.loop-i.i < length c.args.sites.now.observations = omega (arith, ap length all, c.loop-i-test.true) in
    let o = c.index-observations-i.result in
    let here : o ≡ get_or c.args.sites.now.observations c.loop-i.i o = c.index-observations-i.is ∙ ap (λ (os : List Observed). get_or os c.loop-i.i o) all in
    (ends_read c.args.sites.now _ _ _ _ _ c.args.vertices.now.of_places.items c.args.vertices.now.count c.loop-i.i o sited c.as_slice-ends.ensures.value c.as_slice-heights.ensures.value c.requires within here).1.within

pub offset_bounds-heights-target : goal.offset_bounds-heights-target
offset_bounds-heights-target c =
    let sited = subst (λ (own : Looked). AreSites own c.sites.inside.points.names.keys c.sites.inside.points.ends.items c.sites.inside.heights.items) c.sites.view_is c.sites.invariant in
    let all = ap (λ (own : Looked). own.observations) c.sites.view_is in
    let within : c.loop-i.i < length c.args.sites.now.observations = omega (arith, ap length all, c.loop-i-test.true) in
    let o = c.index-observations-i.result in
    let here : o ≡ get_or c.args.sites.now.observations c.loop-i.i o = c.index-observations-i.is ∙ ap (λ (os : List Observed). get_or os c.loop-i.i o) all in
    let place : (get_or c.as_slice-ends.result.now c.loop-i.i (0, 0)).1 < length c.as_slice-heights.result.now =
    (ends_read c.args.sites.now _ _ _ _ _ c.args.vertices.now.of_places.items c.args.vertices.now.count c.loop-i.i o sited c.as_slice-ends.ensures.value c.as_slice-heights.ensures.value c.requires within here).1.within in
    omega (arith, place, ap length c.as_slice-heights.ensures.value, c.sites.inside.heights.small)

pub index-requires : goal.index-requires
index-requires c =
    let sited = subst (λ (own : Looked). AreSites own c.sites.inside.points.names.keys c.sites.inside.points.ends.items c.sites.inside.heights.items) c.sites.view_is c.sites.invariant in
    let all = ap (λ (own : Looked). own.observations) c.sites.view_is in
    let within : c.loop-i.i < length c.args.sites.now.observations = omega (arith, ap length all, c.loop-i-test.true) in
    let o = c.index-observations-i.result in
    let here : o ≡ get_or c.args.sites.now.observations c.loop-i.i o = c.index-observations-i.is ∙ ap (λ (os : List Observed). get_or os c.loop-i.i o) all in
    let place : (get_or c.as_slice-ends.result.now c.loop-i.i (0, 0)).0 < length c.args.vertices.now.of_places.items =
    (ends_read c.args.sites.now _ _ _ _ _ c.args.vertices.now.of_places.items c.args.vertices.now.count c.loop-i.i o sited c.as_slice-ends.ensures.value c.as_slice-heights.ensures.value c.requires within here).0.vertex.0 in
    omega (arith, place, c.args.vertices.now.of_places.ok.0)

pub index-requires-in-loop-i : goal.index-requires-in-loop-i
index-requires-in-loop-i c =
    let sited = subst (λ (own : Looked). AreSites own c.sites.inside.points.names.keys c.sites.inside.points.ends.items c.sites.inside.heights.items) c.sites.view_is c.sites.invariant in
    let all = ap (λ (own : Looked). own.observations) c.sites.view_is in
    let within : c.loop-i.i < length c.args.sites.now.observations = omega (arith, ap length all, c.loop-i-test.true) in
    let o = c.index-observations-i.result in
    let here : o ≡ get_or c.args.sites.now.observations c.loop-i.i o = c.index-observations-i.is ∙ ap (λ (os : List Observed). get_or os c.loop-i.i o) all in
    let place : (get_or c.as_slice-ends.result.now c.loop-i.i (0, 0)).1 < length c.args.vertices.now.of_places.items =
    (ends_read c.args.sites.now _ _ _ _ _ c.args.vertices.now.of_places.items c.args.vertices.now.count c.loop-i.i o sited c.as_slice-ends.ensures.value c.as_slice-heights.ensures.value c.requires within here).1.vertex.0 in
    omega (arith, place, c.args.vertices.now.of_places.ok.0)

pub overflow_sub-o-inside : goal.overflow_sub-o-inside
overflow_sub-o-inside c =
    let sited = subst (λ (own : Looked). AreSites own c.sites.inside.points.names.keys c.sites.inside.points.ends.items c.sites.inside.heights.items) c.sites.view_is c.sites.invariant in
    let all = ap (λ (own : Looked). own.observations) c.sites.view_is in
    let within : c.loop-i.i < length c.args.sites.now.observations = omega (arith, ap length all, c.loop-i-test.true) in
    let o = c.index-observations-i.result in
    let here : o ≡ get_or c.args.sites.now.observations c.loop-i.i o = c.index-observations-i.is ∙ ap (λ (os : List Observed). get_or os c.loop-i.i o) all in
    let read = ends_read c.args.sites.now _ _ _ _ _ c.args.vertices.now.of_places.items c.args.vertices.now.count c.loop-i.i o sited c.as_slice-ends.ensures.value c.as_slice-heights.ensures.value c.requires within here in
    sum_fits c.o.inside.diff c.unwrap_or-from.result c.unwrap_or-to.result c.o.invariant.in_range
    (subst (λ (z : ℤ). unsigned_abs z ≤ max_len) (sym c.unwrap_or-from.ensures) read.0.small)
    (subst (λ (z : ℤ). unsigned_abs z ≤ max_len) (sym c.unwrap_or-to.ensures) read.1.small)

pub loop-i-preserved : goal.loop-i-preserved
loop-i-preserved c =
    let looked = c.args.sites.now in
    let sited = subst (λ (own : Looked). AreSites own c.sites.inside.points.names.keys c.sites.inside.points.ends.items c.sites.inside.heights.items) c.sites.view_is c.sites.invariant in
    let all = ap (λ (own : Looked). own.observations) c.sites.view_is in
    let within : c.loop-i.i < length looked.observations = omega (arith, ap length all, c.loop-i-test.true) in
    let o = c.index-observations-i.result in
    let here : o ≡ get_or looked.observations c.loop-i.i o = c.index-observations-i.is ∙ ap (λ (os : List Observed). get_or os c.loop-i.i o) all in
    let read = ends_read looked _ _ _ _ _ c.args.vertices.now.of_places.items c.args.vertices.now.count c.loop-i.i o sited c.as_slice-ends.ensures.value c.as_slice-heights.ensures.value c.requires within here in
    let d = c.o.inside.diff in
    let f = c.unwrap_or-from.result in
    let t = c.unwrap_or-to.result in
    let small_f = subst (λ (z : ℤ). unsigned_abs z ≤ max_len) (sym c.unwrap_or-from.ensures) read.0.small in
    let small_t = subst (λ (z : ℤ). unsigned_abs z ≤ max_len) (sym c.unwrap_or-to.ensures) read.1.small in
    let own : d ≡ o.difference = ap (λ (o : Observed). o.difference) c.o.view_is in
    let from : f ≡ base looked.benchmarks o.station = c.unwrap_or-from.ensures ∙ ap (λ (h : Option ℤ). unwrap_or h (pos 0)) read.0.height in
    let to : t ≡ base looked.benchmarks o.target = c.unwrap_or-to.ensures ∙ ap (λ (h : Option ℤ). unwrap_or h (pos 0)) read.1.height in
    let exact = sum_exact d f t c.o.invariant.in_range small_f small_t in
    let diff = exact ∙ ap (λ z. z +ℤ f -ℤ t) own ∙ ap (λ z. o.difference +ℤ z -ℤ t) from ∙ ap (λ z. o.difference +ℤ base looked.benchmarks o.station -ℤ z) to in
    linked_more looked.observations looked.benchmarks c.loop-i.i o _ _ _ within here
    (read.0.vertex.1 c.index.result.now c.index.ensures) (read.1.vertex.1 c.index-in-loop-i.result.now c.index-in-loop-i.ensures)
    diff (subst (λ (z : ℤ). unsigned_abs z ≤ largest_link_difference) (sym exact) (sum_small d f t c.o.invariant.in_range small_f small_t))
    (subst IsBetweenPoints c.o.view_is c.o.invariant) c.in_ok-push.ensures.items c.loop-i.invariant
