use Rattle.std.proofs.Common.{[], refl}
use Rattle.th_meant.specs.Inside.Nearest.{either_of, with_offers}
use Rattle.th_meant.proofs.NamedLemmas.{are_named}
use Rattle.th_meant.proofs.laws.computed_are_named.Goals as goal

pub returns : goal.returns
returns c = λ typed others proposed. are_named typed others proposed (record { proposed = proposed; given = typed.given }) (with_offers (record { proposed = proposed; given = typed.given }) [] (either_of typed others)) refl refl refl
