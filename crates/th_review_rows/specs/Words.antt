-- The words and marks of a review.
use Rattle.std.specs.Prelude.{ℕ, Bool, true, false, List, [], Option, None, Some, codes, decimal}
use Rattle.th_entries.specs.declared.entries.HeightKind.{HeightKind}
use Rattle.th_entries.specs.declared.entries.HeightKind.TheVariants.{Reflector, Instrument}
use Rattle.th_reliability.specs.declared.blames.Blame.{Blame}
use Rattle.th_reliability.specs.declared.mistakes.Mistake.{Mistake}
use Rattle.th_reliability.specs.declared.mistakes.Mistake.TheVariants as mistake
use Rattle.th_reliability.specs.declared.mistakes.SharedMistake.{SharedMistake}
use Rattle.th_reliability.specs.declared.mistakes.SharedMistake.TheVariants as shared

-- the word for what a mistake in an observation would do
abbrev pub mistake_word : Mistake → List ℕ
mistake_word mistake.Shows = codes "shows"
mistake_word mistake.Ties = codes "ties"
mistake_word mistake.Hides = codes "hides"
mistake_word mistake.Unchecked = codes "unchecked"

-- the word for what a mistake in an entry would do
abbrev pub shared_mistake_word : SharedMistake → List ℕ
shared_mistake_word shared.Shows = codes "shows"
shared_mistake_word shared.Ties = codes "ties"
shared_mistake_word shared.Drags = codes "drags"
shared_mistake_word shared.Unchecked = codes "unchecked"

-- the index of the word that gives a height of this kind
abbrev pub kind_word : HeightKind → List ℕ
kind_word Reflector = codes "87"
kind_word Instrument = codes "88"

-- the mark of an observation: two spaces and a sign, or nothing if a mistake shows
abbrev pub mistake_mark : Mistake → List ℕ
mistake_mark mistake.Shows = []
mistake_mark mistake.Ties = codes "  ="
mistake_mark mistake.Hides = codes "  <"
mistake_mark mistake.Unchecked = codes "  0"

-- the mark of an entry
abbrev pub shared_mistake_mark : SharedMistake → List ℕ
shared_mistake_mark shared.Shows = []
shared_mistake_mark shared.Ties = codes "  ="
shared_mistake_mark shared.Drags = codes "  <"
shared_mistake_mark shared.Unchecked = codes "  0"

-- the word for what a wrong height of a benchmark would do; nothing if no observation has an end there
abbrev pub benchmark_word : Option SharedMistake → List ℕ
benchmark_word None = []
benchmark_word (Some mistake) = shared_mistake_word mistake

-- the mark of a benchmark
abbrev pub benchmark_mark : Option SharedMistake → List ℕ
benchmark_mark None = []
benchmark_mark (Some mistake) = shared_mistake_mark mistake

-- the mark of a point, given whether one observation alone holds it and whether its best heights differ
abbrev pub point_mark : Bool → Bool → List ℕ
point_mark true true = codes "  1="
point_mark true false = codes "  1"
point_mark false true = codes "  ="
point_mark false false = []

-- how many points a mistake would move, how many observations would be blamed for it, and the number of the heaviest of these; none if it shows
abbrev pub moves_of : Option Blame → Option ℕ
moves_of None = None
moves_of (Some blame) = Some blame.moves

abbrev pub blames_of : Option Blame → Option ℕ
blames_of None = None
blames_of (Some blame) = Some blame.blames

abbrev pub blamed_of : Option Blame → Option ℕ
blamed_of None = None
blamed_of (Some blame) = blame.blamed

-- a number that may be missing, for people: its digits, or a dash
abbrev pub number_or_dash : Option ℕ → List ℕ
number_or_dash None = codes "-"
number_or_dash (Some number) = decimal number
