-- How the names that a block mentions are recorded.
use Rattle.std.specs.Prelude.{ℕ, ◌++◌, List, [], ◌∷◌, Option, None, option_map, option_to_list}
use Rattle.std.specs.Option.{option_or}
use Rattle.gsi_word.specs.Words.{Parts}
use Rattle.th_book.specs.declared.entries.Entered.{Entered}
use Rattle.th_entries.specs.Spellings.{Mention, without_zeros}
use Rattle.th_entries.specs.Seen.{AreKnownIn, AreSeenIn}
use Rattle.th_entries.specs.declared.seen.SeenNames.{SeenNames}

-- a mention, if there is one, was recorded after any mentions recorded before
abbrev pub IsSeenNext : Option Mention → SeenNames → SeenNames → Type 0
IsSeenNext mention old new = (before : List Mention) → AreSeenIn before old → AreSeenIn (before ++ option_to_list mention) new

-- one more mention became known, after any mentions known before
abbrev pub IsKnownNext : Mention → SeenNames → SeenNames → Type 0
IsKnownNext mention old new = (before : List Mention) → AreKnownIn before old → AreKnownIn (before ++ mention ∷ []) new

-- the mention of a block, given what the block enters: its target or else its station
abbrev pub mention_by : ℕ → ℕ → Entered → List Parts → Option Mention
mention_by book line entered [] = None
mention_by book line entered (word ∷ words) =
    option_map (λ name. record { here = record { book = book; line = line; name = name }; bytes = without_zeros word.body }) (option_or entered.target entered.station)
