use Rattle.std.proofs.Common.{ℕ, ℤ, ◌<◌}
use Rattle.th_search.proofs.QueueLemmas.{all_first}
use Rattle.th_search.proofs.spreading.Queue.add_first.Goals as goal

pub invariant_of-self : goal.invariant_of-self
invariant_of-self c = record {
  within = all_first (λ (entry : ℕ × ℤ). entry.0 < c.args.self.now.vertices) _ _ _ _ c.push_front.ensures.items c.requires c.args.self.now.within;
}
