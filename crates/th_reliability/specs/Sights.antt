use Rattle.std.specs.Prelude.{◌≡◌, ℕ, Bool, true, ◌&&◌, ◌==◌, nat_le, List, All}
use Rattle.th_observations.specs.Observed.{Observed}
use Rattle.th_reliability.specs.declared.sights.Sights.{Sights}

-- an observation is one of the sights: it is from their book, and its line is from the first to the last of theirs
abbrev pub in_sights : Sights → Observed → Bool
in_sights sights o = o.book == sights.book && (nat_le sights.first o.line && nat_le o.line sights.last)

-- all of the sights are from one station
abbrev pub IsOfOneStation : List Observed → Sights → Type 0
IsOfOneStation observations sights = (station : List ℕ) × All (λ o. in_sights sights o ≡ true → o.station ≡ station) observations
