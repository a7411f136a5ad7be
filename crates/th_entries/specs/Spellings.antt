-- Names that are spelled in more than one way.
use Rattle.std.specs.Prelude.{ℕ, ◌+◌, ◌||◌, not, Bool, false, List, [], ◌∷◌, Option, None, if◌then◌else◌, bytes_eq, drop, filter, find, flat_map, length, map, option_map, option_to_list, take}
use Rattle.std.specs.List.{prefix_len}
use Rattle.std.specs.Option.{option_map_or}
use Rattle.gsi_word.specs.Bytes.{is_zero}
use Rattle.gsi_word.specs.Words.{Parts}
use Rattle.gsi_word.specs.Names.{name_of, same_name}
use Rattle.th_book.specs.Lines.{ParsedLine, is_setup, is_sight}
use Rattle.th_book.specs.Places.{words_at}
use Rattle.th_entries.specs.Below.{all_below}
use Rattle.th_entries.specs.Limits.{max_mentions}
use Rattle.th_entries.specs.declared.spellings.Spelling.{Spelling}

-- data without their leading zeros, which pad them to the width of their block
abbrev pub without_zeros : List ℕ → List ℕ
without_zeros bytes = drop (prefix_len is_zero bytes) bytes

-- a name that a line mentions, and the data that spell it there, without leading zeros
pub record Mention : Type 0 where
  pub here : Spelling
  pub bytes : List ℕ

-- what some words mention: a setup its station, a sight its target, other words nothing
abbrev pub mention_in : ℕ → ℕ → List Parts → Option Mention
mention_in book line [] = None
mention_in book line (word ∷ words) =
    if is_sight (word ∷ words) || is_setup (word ∷ words)
    then option_map (λ name. record { here = record { book = book; line = line; name = name }; bytes = without_zeros word.body }) (name_of word.body)
    else None

-- the mention of the line at a place, if it has one
abbrev pub mentions_at : ℕ → List ParsedLine → ℕ → List Mention
mentions_at book parsed place = option_to_list (mention_in book (place + 1) (words_at parsed place))

-- the mentions of books, in the order of books and lines
abbrev pub mentions_of : List (ℕ × List ParsedLine) → List Mention
mentions_of books = flat_map (λ book. all_below (mentions_at book.0 book.1) (length book.1)) books

-- a mention is of this name
abbrev pub is_of : List ℕ → Mention → Bool
is_of name mention = same_name name mention.here.name

-- a mention spells its name with other data than the first mention of that name
abbrev pub differs : List Mention → Mention → Bool
differs mentions mention =
    option_map_or (λ first. not (bytes_eq first.bytes mention.bytes)) (find (is_of mention.here.name) mentions) false

-- the mentions that differ from the first mention of their name
abbrev pub differing : List Mention → List Mention
differing mentions = filter (differs mentions) mentions

-- the first mention of each name
abbrev pub firsts : List Mention → List Mention
firsts [] = []
firsts (mention ∷ mentions) = mention ∷ filter (λ later. not (is_of mention.here.name later)) (firsts mentions)

-- for each name that is spelled in more than one way, its first mention that differs from the first one
abbrev pub spellings_in : List Mention → List Spelling
spellings_in mentions = map (λ mention. mention.here) (firsts (differing mentions))

-- the mentions whose names are compared: the first ones
abbrev pub compared : List Mention → List Mention
compared mentions = take max_mentions mentions

-- the same for books with their numbers, and the mentions of theirs that are compared
abbrev pub spellings_of : List (ℕ × List ParsedLine) → List Spelling
spellings_of books = spellings_in (compared (mentions_of books))
