use Rattle.std.proofs.Common.{◌≡◌, ◌++◌, drop}
use Rattle.std.specs.List.{flat_map}
use Rattle.th_explain_texts.specs.Tables.{spaced}
use Rattle.th_explain_texts.proofs.tables.write_spaced.Given as goal

abbrev pub invariant-loop-own : goal.invariant-loop-own
invariant-loop-own l = l.page ++ flat_map spaced (drop l.own-index l.named) ≡ l.fn.page ++ flat_map spaced l.named
