use Rattle.th_reliability.proofs.MoveLemmas.{blames, least_moved}
use Rattle.th_reliability.proofs.OneLemmas.{one_least}
use Rattle.th_reliability.proofs.WordLemmas.{found, movable}
use Rattle.th_reliability.proofs.laws.mistake_moves_a_least_set.Goals as goal

pub returns : goal.returns
returns c = record {
  least = least_moved;
  blames = blames;
  found = found;
  unshown = movable;
  one = λ survey group o control inside only. one_least survey group o only control inside;
}
