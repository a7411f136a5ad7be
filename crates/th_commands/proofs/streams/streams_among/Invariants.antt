use Rattle.std.proofs.Common.{◌≡◌, ◌≤◌, take}
use Rattle.std.specs.List.{count_by}
use Rattle.th_commands.specs.Streams.{is_stream}
use Rattle.th_commands.proofs.streams.streams_among.Given as goal

abbrev pub invariant-loop-name : goal.invariant-loop-name
invariant-loop-name l = record {
  counted : l.count ≡ count_by (λ name. is_stream name.now) (take l.name-index l.names);
  small : l.count ≤ l.name-index;
}
