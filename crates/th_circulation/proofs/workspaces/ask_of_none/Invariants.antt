use Rattle.std.proofs.Common.{◌≡◌, ◌+◌}
use Rattle.th_circulation.proofs.workspaces.ask_of_none.Given as goal

abbrev pub invariant-times : goal.invariant-times
invariant-times g l =
    (g.S.Search.calls l.search ≡ g.S.Search.calls l.fn.search + l.time)
    × (g.S.Search.refusals l.search ≡ g.S.Search.refusals l.fn.search)
    × (g.S.Search.cycles l.search ≡ g.S.Search.cycles l.fn.search)
