use Rattle.std.proofs.Common.{refl}
use Rattle.th_reliability.proofs.SightLemmas.{one_of_none, one_of_some}
use Rattle.th_reliability.proofs.sights.Sights.are_of_one_station.Goals as goal

pub returns-in-Some : goal.returns-in-Some
returns-in-Some c =
    rw (← c.observations-observations.ensures.observations) (one_of_some c.observations-observations.result.now c.args.self.now c.in-Some.station c.are_from.result c.in-Some.ensures.some c.are_from.ensures.yes c.are_from.ensures.no)

pub returns-in-None : goal.returns-in-None
returns-in-None c =
    rw (← c.observations-observations.ensures.observations) (one_of_none c.observations-observations.result.now c.args.self.now (c.in-None.ensures.none refl))
