use Rattle.std.proofs.Common.{◌≡◌, [], length, All}
use Rattle.th_network.proofs.neighbours.Neighbours.none.Given as goal

abbrev pub invariant-loop : goal.invariant-loop
invariant-loop l = (length l.lists.items ≡ l.counter) × All (λ list. list.items ≡ []) l.lists.items
