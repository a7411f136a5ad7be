use Rattle.std.proofs.Common.{◌<◌, []}
use Rattle.std.proofs.lemmas.List.Elements.{All-nil}
use Rattle.th_observations.specs.Observed.{Observed}
use Rattle.th_entries.proofs.SeveralLemmas.{one-of-several}
use Rattle.th_entries.proofs.laws.entry_of_several_books_has_one_station.Goals as goal

pub returns : goal.returns
returns c = λ number texts observations entry are among.
    one-of-several (record {
      observed = c.observation_is_of_a_sight.ensures.book;
      entered = c.entry_has_one_station.ensures.book;
      station = c.entry_has_one_station.ensures.station;
    }) texts number [] observations entry are (All-nil (λ (o : Observed). o.book < number)) among
