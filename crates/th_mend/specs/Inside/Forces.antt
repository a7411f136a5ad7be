-- The entries that are in force behind a line, as they are found line by line.
use Rattle.std.specs.Prelude.{◌≡◌, ◌==◌, ℕ, ℤ, Bool, false, List, Option, Some, None, if◌then◌else◌, is_some, map, option_and_then}
use Rattle.std.specs.Ordering.{int_eq}
use Rattle.gsi_word.specs.Words.{Parts}
use Rattle.th_book.specs.Lines.{ParsedLine}
use Rattle.th_book.specs.Places.{last_below, setup_of}
use Rattle.th_book.specs.declared.entries.Entered.{Entered}
use Rattle.th_book.specs.declared.setups.Setup.{Setup}
use Rattle.th_entries.specs.Entries.{begins_from, index_of}
use Rattle.th_entries.specs.declared.entries.HeightKind.{HeightKind}
use Rattle.th_entries.specs.declared.entries.HeightKind.TheVariants.{Reflector, Instrument}
use Rattle.th_mend.specs.declared.changes.What.{What}
use Rattle.th_mend.specs.declared.changes.What.TheVariants.{Height}
use Rattle.th_mend.specs.declared.changes.Change.{Change}
use Rattle.th_mend.specs.Reached.{are_one, own_fault, place_of, spot_below}
use Rattle.th_mend.specs.declared.forces.Forces.{Forces}
use Rattle.th_mend.specs.declared.sought.Locating.{Locating}
use Rattle.th_mend.specs.declared.sought.Sought.{Sought}
use Rattle.th_mend.specs.declared.spots.Spot.{Spot}

-- the line of the entry that is in force behind the lines below a place
abbrev pub force_at : ℕ → List ParsedLine → ℕ → Option ℕ
force_at index parsed n = option_and_then (λ from. last_below (begins_from parsed index from) n) (setup_of parsed n)

-- both of them are known
pub record AreForces (parsed : List ParsedLine) (n : ℕ) (forces : Forces) : Type 0 where
  pub reflector : forces.reflector ≡ force_at (index_of Reflector) parsed n
  pub instrument : forces.instrument ≡ force_at (index_of Instrument) parsed n

-- the last height of a kind in a setup
abbrev pub height_of : HeightKind → Setup → Option ℤ
height_of Reflector setup = setup.reflector
height_of Instrument setup = setup.instrument

-- a length repeats the last height in a setup, if there is one
abbrev pub is_same : Option ℤ → ℤ → Bool
is_same None length = false
is_same (Some last) length = int_eq last length

-- the entry in force behind a line with this length, which is in this setup
abbrev pub force_with : HeightKind → Option Setup → Option ℤ → ℕ → Option ℕ → Option ℕ
force_with kind None length n before = before
force_with kind (Some setup) None n before = before
force_with kind (Some setup) (Some length) n before = if is_same (height_of kind setup) length then before else Some n

-- the setup of a line, before its heights: the one that it begins at a station, or else the running one
abbrev pub setup_on : Option Setup → Option (List ℕ) → Option Setup
setup_on running None = running
setup_on running (Some station) = Some (record { station = station; instrument = None; reflector = None })

abbrev pub none_if : Bool → Option ℕ → Option ℕ
none_if begins before = if begins then None else before

-- the entries in force behind a line that enters this
abbrev pub forces_with : Option Setup → Entered → ℕ → Forces → Forces
forces_with running entered n forces = record {
  reflector = force_with Reflector (setup_on running entered.station) entered.reflector n (none_if (is_some entered.station) forces.reflector);
  instrument = force_with Instrument (setup_on running entered.station) entered.instrument n (none_if (is_some entered.station) forces.instrument);
}

-- the entry of a kind that is in force
abbrev pub force_of : HeightKind → Forces → Option ℕ
force_of Reflector forces = forces.reflector
force_of Instrument forces = forces.instrument

-- the home of a line for something that changes
abbrev pub home_in : What → ℕ → Forces → Option ℕ
home_in (Height kind reach own) n forces = force_of kind forces
home_in other n forces = Some n

-- what is known of a change at its own line
abbrev pub spot_here : What → List Parts → Option ℕ → ℕ → Spot
spot_here what words home n = record { fault = own_fault what words home; home = home; last = if are_one home home then Some n else None }

-- what is known of a change behind a later line
abbrev pub spot_later : Option ℕ → ℕ → Option Spot → Option Spot
spot_later home n None = None
spot_later home n (Some spot) = Some (record spot { last = if are_one spot.home home then Some n else spot.last })

-- a change of which nothing is known
abbrev pub unknown : Change → Sought
unknown change = record { change = change; spot = None }

-- what is known of a change behind a line with these words
abbrev pub seen_one : ℕ → Forces → List Parts → Sought → Sought
seen_one n forces words sought =
    let home = home_in sought.change.what n forces in
    record {
      change = sought.change;
      spot = if place_of sought.change == n then Some (spot_here sought.change.what words home n) else spot_later home n sought.spot;
    }

-- and of several
abbrev pub seen_all : ℕ → Forces → List Parts → List Sought → List Sought
seen_all n forces words sought = map (seen_one n forces words) sought

-- the changes behind the lines below a place, each with what is known of it
abbrev pub sought_below : List ParsedLine → ℕ → Change → Sought
sought_below parsed n change = record { change = change; spot = spot_below change parsed n }

-- the lines below a place were seen: each change has what is known of it, and so have the entries in force
pub record IsLocating (changes : List Change) (number : ℕ) (parsed : List ParsedLine) (n : ℕ) (locating : Locating) : Type 0 where
  pub place : locating.place ≡ n
  pub forces : AreForces parsed n locating.forces
  pub sought : locating.sought.items ≡ map (sought_below parsed n) changes
