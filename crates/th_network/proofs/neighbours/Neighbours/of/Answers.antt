use Rattle.std.proofs.Common.{◌∙◌, ℕ, List, subst, arith}
use Rattle.std.proofs.lemmas.List.{take_all}
use Rattle.th_network.specs.Inside.Neighbours.{AreNeighbours}
use Rattle.th_network.proofs.NeighbourLemmas.{neighbours_more}
use Rattle.th_network.proofs.neighbours.Neighbours.of.Goals as goal

pub loop-station-preserved : goal.loop-station-preserved
loop-station-preserved c = record {
  size = c.in_ok-add-2.ensures.size ∙ c.in_ok-add.ensures.size ∙ c.loop-station.invariant.size;
  joined = neighbours_more c.args.ends.now c.loop-station.station-index (0, 0) _ _ _ (omega arith) c.loop-station.invariant.joined c.in_ok-add.ensures.added c.in_ok-add-2.ensures.added;
}

pub returns : goal.returns
returns c =
    subst (λ (done : List (ℕ × ℕ)). AreNeighbours c.args.count done c.loop-station.neighbours) (take_all c.loop-station.station-index c.args.ends.now (omega arith)) c.loop-station.invariant
