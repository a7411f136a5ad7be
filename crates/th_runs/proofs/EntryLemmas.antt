-- The sights of entries, and what a mistake that they share would do.
use Rattle.std.proofs.Common.{◌≡◌, ◌&&◌, Bool, true, false, List, [], ◌∷◌, refl}
use Rattle.std.proofs.lemmas.Bool.{eqb-true, leb-true}
use Rattle.std.proofs.lemmas.List.Elements.{All-contains_itself, All-map, All-weaker}
use Rattle.std.specs.List.{All, AllZip, Contains}
use Rattle.std.specs.Prelude.{map}
use Rattle.th_observations.specs.Observed.{Observed}
use Rattle.th_entries.specs.Stations.{HasOneStation}
use Rattle.th_entries.specs.declared.entries.Entry.{Entry}
use Rattle.th_network.specs.Networks.{Survey}
use Rattle.th_reliability.specs.Effects.{IsEffect}
use Rattle.th_reliability.specs.Sights.{IsOfOneStation, in_sights}
use Rattle.th_reliability.specs.declared.effects.Effect.{Effect}
use Rattle.th_review_rows.specs.Entries.{sights_of}

both : (first second : Bool) → (first && second) ≡ true → (first ≡ true) × (second ≡ true)
both true second holds = (refl, holds)
both false second holds = absurd (cc holds)

-- the sights of an entry are of its station
one_station : (observations : List Observed) (entry : Entry) → HasOneStation observations entry → IsOfOneStation observations (sights_of entry)
one_station observations entry own = (
  entry.station,
  All-weaker (Contains observations) (λ (o : Observed). in_sights (sights_of entry) o ≡ true → o.station ≡ entry.station) among observations (All-contains_itself observations),
)
  where
    among : (o : Observed) → Contains observations o → in_sights (sights_of entry) o ≡ true → o.station ≡ entry.station
    among o holds inside =
        let book = both _ _ inside in
        let lines = both _ _ book.1 in
        own o holds (eqb-true _ _ book.0) (leb-true _ _ lines.0) (leb-true _ _ lines.1)

pub all_of_one_station : (observations : List Observed) (entries : List Entry) → All (HasOneStation observations) entries
    → All (IsOfOneStation observations) (map sights_of entries)
all_of_one_station observations entries all =
    All-map (IsOfOneStation observations) sights_of entries
    (All-weaker (HasOneStation observations) (λ (entry : Entry). IsOfOneStation observations (sights_of entry)) (one_station observations) entries all)

-- what the sights of entries share, the entries do
pub of_entries : (survey : Survey) (entries : List Entry) (effects : List Effect)
    → AllZip (λ sights effect. IsEffect survey (in_sights sights) effect) (map sights_of entries) effects
    → AllZip (λ entry effect. IsEffect survey (in_sights (sights_of entry)) effect) entries effects
of_entries survey [] [] all = tt
of_entries survey [] (effect ∷ effects) all = absurd all
of_entries survey (entry ∷ entries) [] all = absurd all
of_entries survey (entry ∷ entries) (effect ∷ effects) all = (all.0, of_entries survey entries effects all.1)
