use Rattle.std.proofs.Common.{◌≡◌, take}
use Rattle.std.specs.List.{AllZip}
use Rattle.th_answer.specs.Others.{IsSaid}
use Rattle.th_answer.proofs.telling.others_of.Given as goal

abbrev pub invariant-loop-place : goal.invariant-loop-place
invariant-loop-place l = record {
  said : AllZip (IsSaid l.fn.sieve.case.now.network.now) (take l.place l.fn.sieve.case.now.network.now.benchmarks) l.others.items;
  case : l.sieve.case.now ≡ l.fn.sieve.case.now;
}
