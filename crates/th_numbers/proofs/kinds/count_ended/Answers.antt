use Rattle.std.proofs.Common.{rules}
use Rattle.std.proofs.lemmas.List.Sorted.{IsPartitionPoint-from_clause}
use Rattle.th_numbers.specs.Inside.Kinds.{is_ended}
use Rattle.th_numbers.proofs.KindLemmas.{ended_first}
use Rattle.th_numbers.proofs.kinds.count_ended.Goals as goal

pub returns-clause-split : goal.returns-clause-split
returns-clause-split c =
    IsPartitionPoint-from_clause (is_ended c.args.book c.args.line) c.args.entries.now c.partition_point.result c.partition_point.ensures.partitioned
    (ended_first c.args.entries.now c.args.book c.args.line c.requires) (λ a r q k. search rules)
