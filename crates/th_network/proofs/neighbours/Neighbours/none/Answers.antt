use Rattle.std.proofs.Common.{ℕ, Vec, Global, ◌∙◌, arith}
use Rattle.std.proofs.lemmas.List.{length-map}
use Rattle.th_network.proofs.NeighbourLemmas.{joined_none, none_listed}
use Rattle.th_network.proofs.neighbours.Neighbours.none.Goals as goal

pub returns : goal.returns
returns c =
    let seen = λ (list : Vec ℕ Global). list.items in
    record {
      size = length-map c.loop.lists.items seen ∙ omega arith;
      joined = joined_none _ (none_listed seen c.loop.lists.items c.loop.invariant.1);
    }
