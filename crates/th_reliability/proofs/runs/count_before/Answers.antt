use Rattle.std.proofs.Common.{rules}
use Rattle.std.proofs.lemmas.List.Sorted.{IsPartitionPoint-from_clause}
use Rattle.th_reliability.specs.Inside.Runs.{is_before}
use Rattle.th_reliability.proofs.RunLemmas.{parted}
use Rattle.th_reliability.proofs.runs.count_before.Goals as goal

pub returns-clause-split : goal.returns-clause-split
returns-clause-split c =
    IsPartitionPoint-from_clause (is_before c.args.book c.args.line) c.args.observations.now c.partition_point.result c.partition_point.ensures.partitioned
    (parted c.args.observations.now c.args.book c.args.line c.requires) (λ a r q k. search rules)
