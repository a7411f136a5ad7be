use Rattle.std.proofs.Common.{ℕ, Vec, Global}
use Rattle.th_network.proofs.NeighbourLemmas.{listed_push}
use Rattle.th_network.proofs.neighbours.Neighbours.add.Goals as goal

pub returns-clause-added : goal.returns-clause-added
returns-clause-added c =
    listed_push (λ (list : Vec ℕ Global). list.items) c.self.inside.lists.items c.args.place c.args.other c.index_mut.result.now c.push.new.self _ c.self.view_is c.requires c.index_mut.ensures.value c.in_ok-push.ensures.items
