-- Kinds of numbers, and the words for them.
use Rattle.std.specs.Prelude.{ℕ, Bool, true, false, List, [], codes}
use Rattle.th_entries.specs.declared.entries.HeightKind.{HeightKind}
use Rattle.th_entries.specs.declared.entries.HeightKind.TheVariants as height
use Rattle.th_explain_texts.specs.declared.rows.Kind.{Kind}
use Rattle.th_explain_texts.specs.declared.rows.Kind.TheVariants.{Instrument, Reflector, InstrumentSince, ReflectorSince, Sight, Benchmark, Book}

-- the name of a kind
abbrev pub kind_word : Kind → List ℕ
kind_word Instrument = codes "instrument"
kind_word Reflector = codes "reflector"
kind_word InstrumentSince = codes "instrument since"
kind_word ReflectorSince = codes "reflector since"
kind_word Sight = codes "sight"
kind_word Benchmark = codes "benchmark"
kind_word Book = codes "book"

-- the index of the word that a number is; none for a sight and a benchmark
abbrev pub word_index : Kind → List ℕ
word_index Instrument = codes "88"
word_index Reflector = codes "87"
word_index InstrumentSince = codes "88"
word_index ReflectorSince = codes "87"
word_index Sight = []
word_index Benchmark = []
word_index Book = codes "33"

-- what follows the line of a change that was forgotten
abbrev pub since_mark : Kind → List ℕ
since_mark Instrument = []
since_mark Reflector = []
since_mark InstrumentSince = codes "  since"
since_mark ReflectorSince = codes "  since"
since_mark Sight = []
since_mark Benchmark = []
since_mark Book = []

-- the number is the difference of a sight
abbrev pub is_sight : Kind → Bool
is_sight Instrument = false
is_sight Reflector = false
is_sight InstrumentSince = false
is_sight ReflectorSince = false
is_sight Sight = true
is_sight Benchmark = false
is_sight Book = false

-- the height is that of the reflector
abbrev pub is_pole : HeightKind → Bool
is_pole height.Reflector = true
is_pole height.Instrument = false
