use Rattle.std.proofs.Common.{◌≡◌, ◌++◌, drop}
use Rattle.std.specs.List.{filter}
use Rattle.th_numbers.specs.Inside.Kinds.{is_of}
use Rattle.th_numbers.proofs.kinds.of_kind.Given as goal

abbrev pub invariant-loop-entry : goal.invariant-loop-entry
invariant-loop-entry l = l.own.items ++ filter (is_of l.kind) (drop l.entry-index l.entries) ≡ filter (is_of l.kind) l.entries
