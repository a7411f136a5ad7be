use Rattle.std.proofs.Common.{◌≡◌, ◌<◌, ◌≤◌, ℕ, Bool, Global, Option, Vec, length, true, subst, arith}
use Rattle.std.specs.Prelude.{IfNone, IfSome}
use Rattle.th_cuts.specs.Drains.{IsLeastDrain, drain, on_side}
use Rattle.th_cuts.proofs.CutTreeLemmas.{separated}
use Rattle.th_cuts.proofs.NearLemmas.{near_least, near_out, near_weighs}
use Rattle.th_cuts.proofs.cuts.cut_between.Goals as goal

pub lone_cut-requires-clause-least : goal.lone_cut-requires-clause-least
lone_cut-requires-clause-least c =
    let graph = c.args.graph.now in
    let drains = subst (λ (o : Option (ℕ × Vec Bool Global)). IfNone o ((inside : ℕ → Bool) → inside c.args.source ≡ true → c.args.most ≤ drain graph.edges.items c.args.rooms.now inside)) c.in-None.is c.in_ok-value.ensures.none in
    near_least graph.vertices graph.edges.items c.args.source c.args.sink c.args.most c.args.most c.args.rooms.now drains c.requires.near (omega arith)

pub returns-in-Some : goal.returns-in-Some
returns-in-Some c =
    let graph = c.args.graph.now in
    let side = c.in-Some.side in
    let near = c.requires.near in
    let each = subst (λ (o : Option (ℕ × Vec Bool Global)). IfSome o (λ set. length set.1.items ≡ graph.vertices)) c.in-Some.is c.in_ok-value.ensures.side in
    let less = subst (λ (o : Option (ℕ × Vec Bool Global)). IfSome o (λ set. set.0 < c.args.most)) c.in-Some.is c.in_ok-value.ensures.less in
    let least = subst (λ (o : Option (ℕ × Vec Bool Global)). IfSome o (λ set. IsLeastDrain graph.edges.items c.args.rooms.now c.args.source set.0 set.1.items)) c.in-Some.is c.in_ok-value.ensures.least in
    record {
      each = each;
      apart = separated (on_side side.items) c.args.source c.args.sink least.holds (near_out graph.vertices graph.edges.items c.args.source c.args.sink c.args.most c.in-Some.value c.args.rooms.now side.items least near less);
      weighs = near_weighs graph.vertices graph.edges.items c.args.source c.args.sink c.args.most c.in-Some.value c.args.rooms.now side.items least near less;
      least = near_least graph.vertices graph.edges.items c.args.source c.args.sink c.args.most c.in-Some.value c.args.rooms.now least.least near (omega arith);
    }
