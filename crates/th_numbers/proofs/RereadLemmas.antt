-- A book that is read from mark to mark: the ends of its sights are the same.
use Rattle.std.proofs.Common.{ℕ, List, [], ◌∷◌, map, refl, ap}
use Rattle.th_observations.specs.Observed.{Observed}
use Rattle.th_entries.specs.declared.entries.Entry.{Entry}
use Rattle.th_network.specs.Networks.{HaveSameEnds, points_between}
use Rattle.th_numbers.specs.Readings.{read_observation}

pub same_ends_read : (entries : List Entry) (book : ℕ) (observations : List Observed) → HaveSameEnds observations (map (read_observation entries book) observations)
same_ends_read entries book [] = refl
same_ends_read entries book (o ∷ observations) = ap (λ ends. points_between o ∷ ends) (same_ends_read entries book observations)
