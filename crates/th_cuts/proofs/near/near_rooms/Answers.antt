use Rattle.std.proofs.Common.{◌≡◌, ℕ, ◌+◌, ◌<◌, ap, sym, subst, ◌∙◌, Global, Vec, length, arith}
use Rattle.std.proofs.lemmas.Grind.{get_or_default_zero}
use Rattle.th_cuts.specs.Inside.CutTrees.{IsSame}
use Rattle.th_cuts.specs.Drains.{room_at}
use Rattle.th_cuts.proofs.NearLemmas.{AreNearTo, near_more, near_skip, same_through}
use Rattle.th_cuts.proofs.near.near_rooms.Goals as goal
use Rattle.th_cuts.proofs.near.near_rooms.Goals.{then-index-top, else-index-top}

pub loop-other-preserved : goal.loop-other-preserved
loop-other-preserved c =
    let graph = c.args.graph.now in
    let edges = graph.edges.items in
    let most = c.args.most in
    let vertex = c.args.vertex in
    let other = c.loop-other.other in
    let tops = c.in_ok-tops.tops.items in
    let each = c.in_ok-tops.ensures.each in
    let within : other < length tops = omega (arith, c.len-other-end.ensures, c.loop-other-test.true) in
    let few = c.requires.few in
    let has = c.requires.vertex in
    let here : c.index-top.result.now ≡ room_at tops vertex = c.index-top.ensures ∙ get_or_default_zero tops vertex _ (omega arith) in
    let there : c.index.result.now ≡ room_at tops other = c.index.ensures ∙ get_or_default_zero tops other _ within in
    elim c.if-index-top.branch [
      | then-index-top w ↦
          let same = sym there ∙ w.if-index-top.true ∙ here in
          let is = same_through edges most other vertex (room_at tops vertex) (subst (IsSame edges most other) same (c.in_ok-tops.ensures.tops other within)) (c.in_ok-tops.ensures.tops vertex (omega arith)) in
          subst (λ (r : Vec ℕ Global). AreNearTo graph.vertices edges most vertex (other + 1) r.items) (sym w.rooms-is) (near_more graph.vertices edges most vertex other c.loop-other.rooms.items c.loop-other.invariant (omega arith) is)
      | else-index-top w ↦
          subst (λ (r : Vec ℕ Global). AreNearTo graph.vertices edges most vertex (other + 1) r.items) (sym w.rooms-is) (near_skip graph.vertices edges most vertex other c.loop-other.rooms.items c.loop-other.invariant (λ e. w.if-index-top.false (there ∙ ap (room_at tops) e ∙ sym here)))
    ]
