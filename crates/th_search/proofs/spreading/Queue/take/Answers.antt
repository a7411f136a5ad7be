use Rattle.std.proofs.Common.{ℕ, ℤ, ◌<◌}
use Rattle.th_search.proofs.QueueLemmas.{all_left, one_taken}
use Rattle.th_search.proofs.spreading.Queue.take.Goals as goal

pub invariant_of-self : goal.invariant_of-self
invariant_of-self c = record {
  within = all_left (λ (entry : ℕ × ℤ). entry.0 < c.args.self.now.vertices) _ _ _ c.pop_front.ensures.items c.args.self.now.within;
}

pub returns-clause-vertex : goal.returns-clause-vertex
returns-clause-vertex c = one_taken (λ (entry : ℕ × ℤ). entry.0 < c.args.self.now.vertices) _ _ _ c.pop_front.ensures.items c.args.self.now.within
