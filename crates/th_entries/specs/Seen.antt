-- What is known of the names that books mention.
use Rattle.std.specs.Prelude.{◌≡◌, ℕ, ◌++◌, min, List, [], ◌∷◌, Option, if◌then◌else◌, find, length, option_map}
use Rattle.std.specs.BTreeMap.{get}
use Rattle.std.specs.Cmp.Lexicographic.{slice_cmp}
use Rattle.std.specs.List.{list_any}
use Rattle.std.specs.Ordering.{nat_cmp}
use Rattle.th_book.specs.Lines.{ParsedLine}
use Rattle.th_entries.specs.Limits.{max_mentions}
use Rattle.th_entries.specs.Listed.{IsListed}
use Rattle.th_entries.specs.Spellings.{Mention, compared, differing, is_of, mentions_of, spellings_in}
use Rattle.th_entries.specs.declared.seen.SeenNames.{SeenNames}
use Rattle.th_entries.specs.declared.seen.Spelled.{Spelled}
use Rattle.th_entries.specs.declared.seen.Spelled.TheVariants.{Alike, Otherwise}

-- how mentions spell a name: in more than one way, or always like the first mention, whose data are kept; none if no mention is of it
abbrev pub spelled_in : List Mention → List ℕ → Option Spelled
spelled_in mentions name =
    option_map (λ first. if list_any (is_of name) (differing mentions) then Otherwise else Alike (record { items = first.bytes })) (find (is_of name) mentions)

-- how a name is spelled so far; the map orders names by their bytes
abbrev pub spelled_at : SeenNames → List ℕ → Option Spelled
spelled_at names name = get (slice_cmp nat_cmp) names.spelled name

-- the names hold exactly what these mentions say
pub record AreKnownIn (mentions : List Mention) (names : SeenNames) : Type 0 where
  pub found : IsListed (spellings_in mentions) names.found
  pub spelled : (name : List ℕ) → spelled_at names name ≡ spelled_in mentions name

-- the names hold exactly what those of these mentions say that are compared
pub record AreSeenIn (mentions : List Mention) (names : SeenNames) : Type 0 where
  pub known : AreKnownIn (compared mentions) names
  pub taken : names.taken ≡ min (length mentions) max_mentions

-- the names hold exactly what these books mention
abbrev pub AreSeenInBooks : List (ℕ × List ParsedLine) → SeenNames → Type 0
AreSeenInBooks books names = AreSeenIn (mentions_of books) names

-- one more book was read, after any books read before
abbrev pub AddsBook : ℕ → List ParsedLine → SeenNames → SeenNames → Type 0
AddsBook number parsed old new =
    (before : List (ℕ × List ParsedLine)) → AreSeenInBooks before old → AreSeenInBooks (before ++ (number, parsed) ∷ []) new
