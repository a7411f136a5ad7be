use Rattle.std.proofs.Common.{◌≡◌, ◌≤◌, ◌+◌, ◌++◌, ℕ, List, length, take, rules, arith}
use Rattle.std.proofs.lemmas.Grind.{common_steps}
use Rattle.std.proofs.lemmas.List.{length-take, take-append-le}
use Rattle.th_book.specs.Limits.{max_book}
use Rattle.th_run_parts.proofs.FeedLemmas.{fed_more, fed_stands_more, fed_to_end, fed_to_limit}
use Rattle.th_run_parts.proofs.feeds.feed_from.Goals as goal

pub returns-then-count-eq0-clause-fed : goal.returns-then-count-eq0-clause-fed
returns-then-count-eq0-clause-fed g c =
    fed_to_end _ _ _ _ _ _ (max_book + 1) c.pieces.invariant.taken (c.in-Ok.ensures.gives.end (search rules) (search rules)) (omega (arith, c.limit_of.ensures))

pub returns-in_err-take-clause-book : goal.returns-in_err-take-clause-book
returns-in_err-take-clause-book g c =
    let within : c.in-Ok.count ≤ c.min-asked.result = grind (arith, common_steps, c.in-Ok.ensures.gives.within) in
    let size : length (take c.in-Ok.count c.read.new.into) ≡ c.in-Ok.count = grind (arith, common_steps, c.in-Ok.ensures.gives.within, c.read.auto.into, length-take) in
    record {
      read = record {
        failed = search rules;
        may_fail = search rules;
        often = search rules;
        far = fed_stands_more _ _ _ _ _ _ _ _ _ _ c.pieces.invariant.taken c.in-Ok.ensures.gives.taken size (omega (arith, within, c.limit_of.ensures));
      };
      untouched = search rules;
    }

pub pieces-preserved : goal.pieces-preserved
pieces-preserved g c =
    let within : c.in-Ok.count ≤ c.min-asked.result = grind (arith, common_steps, c.in-Ok.ensures.gives.within) in
    let size : length (take c.in-Ok.count c.read.new.into) ≡ c.in-Ok.count = grind (arith, common_steps, c.in-Ok.ensures.gives.within, c.read.auto.into, length-take) in
    let inside : c.in-Ok.count ≤ length c.read.new.into = grind (arith, common_steps, c.in-Ok.ensures.gives.within, c.read.auto.into) in
    let step : (start : g.F.Feed.Start) (later : List ℕ) → g.F.Feed.has_taken start (take c.in-Ok.count c.read.new.into ++ later) c.pieces.feed → g.F.Feed.has_taken start later c.take.new.self =
    rw take-append-le at c.in_ok-take.ensures in
    record {
      taken = fed_more _ _ _ _ _ _ _ _ _ _ c.pieces.invariant.taken c.in-Ok.ensures.gives.taken size step;
      within = search rules;
      calls = search rules;
      failures = search rules;
      may_fail = search rules;
    }

pub returns-clause-fed : goal.returns-clause-fed
returns-clause-fed g c = fed_to_limit _ _ _ _ _ _ (max_book + 1) c.pieces.invariant.taken (omega (arith, c.limit_of.ensures))
