-- What circulations say of a number before, with and behind the one that leaves nothing of what flows through it.
use Rattle.std.specs.Prelude.{ℕ}
use Rattle.th_network.specs.Networks.{Survey}
use Rattle.th_changes.specs.Lines.{IsLine}
use Rattle.th_changes.specs.declared.numbers.Number.{Number}
use Rattle.th_explain.specs.declared.turns.Turn.{Turn}

pub record AreLines (survey : Survey) (number : Number) (cost : ℕ) (turn : Turn) : Type 0 where
  pub before : IsLine survey number cost turn.before
  pub flat : IsLine survey number cost turn.flat
  pub behind : IsLine survey number cost turn.behind
