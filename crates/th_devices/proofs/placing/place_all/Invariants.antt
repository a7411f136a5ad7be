use Rattle.std.proofs.Common.{◌≡◌, ◌+◌, ◌++◌, length, map}
use Rattle.std.specs.Vec.Iter.{into_iter_items, into_iter_len}
use Rattle.th_devices.proofs.PlacingLemmas.{HaveCome}
use Rattle.th_devices.proofs.placing.place_all.Given as goal

abbrev pub invariant-loop-sink : goal.invariant-loop-sink
invariant-loop-sink g l =
    let folder = g.F.Folder in
    (l.number + into_iter_len l.sink-iterator ≡ into_iter_len l.initial.sink-iterator)
    × (l.number ≡ length l.yielded)
    × (l.fn.sinks.items ≡ l.yielded ++ into_iter_items l.sink-iterator)
    × ((folder.failing l.folder).writing ≡ (folder.failing l.fn.folder).writing)
    × HaveCome folder.tells folder.held folder.has_failed folder.failing (map g.F.Out.Sink.state l.fn.sinks.items) (map g.F.Out.Sink.state l.yielded)
    l.fn.folder l.folder l.answer
