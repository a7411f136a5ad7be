use Rattle.std.proofs.Common.{List, sym, subst, to_z, of_z, w64, ◌∙◌, ap, map}
use Rattle.th_observations.specs.Observed.{Observed}
use Rattle.th_network.specs.Networks.{HaveSameEnds}
use Rattle.th_changes.specs.Tilted.{tilted_observation}
use Rattle.th_changes.proofs.TiltLemmas.{same_ends_tilted}
use Rattle.th_changes.proofs.tilting.tilted.Goals as goal

pub with_differences-requires : goal.with_differences-requires
with_differences-requires c =
    let observations : List Observed = c.args.network.now.observations in
    subst (HaveSameEnds observations) (sym (c.in_ok-observations.ensures ∙ ap (map (tilted_observation c.args.number.now (to_z w64 (of_z w64 c.args.change)))) c.observations.ensures.observations))
    (same_ends_tilted c.args.number.now (to_z w64 (of_z w64 c.args.change)) observations)
