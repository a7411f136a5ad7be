use Rattle.std.proofs.Common.{◌≡◌, ◌<◌, ℤ, List, [], Option, Some, None, length, map, get_or, slice_get, is_some, sym, ap, ◌∙◌, subst, arith}
use Rattle.std.proofs.lemmas.List.{get_or-map, length-map}
use Rattle.std.proofs.lemmas.Option.{slice_get-get_or}
use Rattle.th_tables.specs.Rows.{height_of}
use Rattle.th_points.specs.Points.{points}
use Rattle.th_network.specs.Inside.Sites.{AreSites, Looked}
use Rattle.th_network.proofs.SiteLemmas.{heights_of_points}
use Rattle.th_network.proofs.VertexLemmas.{numbered_on, numbered_fixed, numbered_free, numbered_all}
use Rattle.th_network.proofs.vertices.Vertices.of.Goals as goal
use Rattle.th_network.proofs.vertices.Vertices.of.Goals.{then-fixed+in_ok-push, else-fixed+in_ok-push-2}

pub loop-height-preserved : goal.loop-height-preserved
loop-height-preserved c =
    let looked = c.args.sites.now in
    let names = points looked.observations looked.benchmarks in
    let i = c.loop-height.height-index in
    let sited = subst (λ (own : Looked). AreSites own c.sites.inside.points.names.keys c.sites.inside.points.ends.items c.sites.inside.heights.items) c.sites.view_is c.sites.invariant in
    let all : c.as_slice-heights.result.now ≡ map (height_of looked.benchmarks) names = c.as_slice-heights.ensures.value ∙ heights_of_points looked _ _ _ sited in
    let within : i < length names = omega (arith, ap length all, length-map names (height_of looked.benchmarks), c.loop-height-test.true) in
    let here : slice_get names i ≡ Some (get_or names i []) = slice_get-get_or names i [] within in
    let fixed : c.is_some-fixed.result ≡ is_some (height_of looked.benchmarks (get_or names i [])) =
    c.is_some-fixed.ensures ∙ ap (λ (hs : List (Option ℤ)). is_some (get_or hs i None)) all ∙ ap is_some (get_or-map (height_of looked.benchmarks) names i [] None within) in
    elim c.if-fixed.branch [
      | then-fixed+in_ok-push w ↦ numbered_on (sym w.count-is) (numbered_fixed _ _ _ _ _ _ _ here (sym fixed ∙ w.if-fixed.true) (ap (λ v. v.items) w.of_places-is ∙ w.in_ok-push.ensures.items) c.loop-height.invariant)
      | else-fixed+in_ok-push-2 w ↦ numbered_on (sym w.count-is) (numbered_free _ _ _ _ _ _ _ here (sym fixed ∙ w.if-fixed.false) (ap (λ v. v.items) w.of_places-is ∙ w.in_ok-push-2.ensures.items) c.loop-height.invariant)
    ]

pub returns : goal.returns
returns c =
    let looked = c.args.sites.now in
    let names = points looked.observations looked.benchmarks in
    let sited = subst (λ (own : Looked). AreSites own c.sites.inside.points.names.keys c.sites.inside.points.ends.items c.sites.inside.heights.items) c.sites.view_is c.sites.invariant in
    let all : c.as_slice-heights.result.now ≡ map (height_of looked.benchmarks) names = c.as_slice-heights.ensures.value ∙ heights_of_points looked _ _ _ sited in
    numbered_all _ _ _ _ _ (omega (arith, ap length all, length-map names (height_of looked.benchmarks))) c.loop-height.invariant
