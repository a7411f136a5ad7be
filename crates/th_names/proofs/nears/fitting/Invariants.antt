use Rattle.std.proofs.Common.{take}
use Rattle.th_names.specs.Nears.{AreNear, sign_nears}
use Rattle.th_names.proofs.JoinLemmas.{AreJoined}
use Rattle.th_names.proofs.nears.fitting.Given as goal

abbrev pub invariant-loop-naming : goal.invariant-loop-naming
invariant-loop-naming l =
    AreJoined (AreNear l.own.network.now l.own.limit) (take l.naming-index l.naming-items) (sign_nears l.own.network.now l.own.kinds.now.entries.now l.own.limit l.freed l.doubt) l.nears.items
