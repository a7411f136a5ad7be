use Rattle.std.proofs.Common.{◌≡◌, [], take}
use Rattle.std.specs.List.{enumerate_from}
use Rattle.th_names.specs.Names.{AreReadingsAt}
use Rattle.th_names.proofs.JoinLemmas.{AreJoined}
use Rattle.th_names.proofs.names.readings_of_rows.Given as goal

abbrev pub invariant-loop-place : goal.invariant-loop-place
invariant-loop-place l = record {
  found : AreJoined (AreReadingsAt l.own.network.now l.own.kinds.now.entries.now l.own.limit) (take l.place (enumerate_from 0 l.rows)) [] l.readings.items;
  case : l.sieve.case.now ≡ l.fn.sieve.case.now;
}
