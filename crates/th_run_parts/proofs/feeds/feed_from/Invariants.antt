use Rattle.std.proofs.Common.{◌≡◌, ◌+◌, ◌-◌, ◌≤◌}
use Rattle.th_run_parts.proofs.FeedLemmas.{IsFedFrom}
use Rattle.th_run_parts.proofs.feeds.feed_from.Given as goal

abbrev pub invariant-pieces : goal.invariant-pieces
invariant-pieces g l = record {
  taken : IsFedFrom g.F.Feed.has_taken l.initial.feed l.feed ((g.S.Source.state l.initial.book).left) ((g.S.Source.state l.book).left) l.done;
  within : l.done ≤ l.most;
  calls : (g.S.Source.state l.book).counts.calls ≤ (g.S.Source.state l.initial.book).counts.calls + l.done;
  failures : (g.S.Source.state l.book).counts.failures ≡ (g.S.Source.state l.initial.book).counts.failures;
  may_fail : (g.S.Source.state l.book).may_fail ≡ (g.S.Source.state l.initial.book).may_fail;
}

abbrev pub decreases-pieces : goal.decreases-pieces
decreases-pieces g l = l.most - l.done
