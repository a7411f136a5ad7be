-- The words for kinds of heights, and for kinds of numbers that explain.
use Rattle.std.specs.Prelude.{ℕ, List, codes}
use Rattle.th_entries.specs.declared.entries.HeightKind.{HeightKind}
use Rattle.th_entries.specs.declared.entries.HeightKind.TheVariants.{Reflector, Instrument}
use Rattle.th_explain_texts.specs.declared.rows.Kind.{Kind}
use Rattle.th_explain_texts.specs.declared.rows.Kind.TheVariants as kind

-- which height an entry gives
abbrev pub entry_words : HeightKind → List ℕ
entry_words Reflector = codes "reflector"
entry_words Instrument = codes "instrument"

-- which number explains
abbrev pub number_words : Kind → List ℕ
number_words kind.Instrument = codes "instrument height"
number_words kind.Reflector = codes "reflector height"
number_words kind.InstrumentSince = codes "instrument height since"
number_words kind.ReflectorSince = codes "reflector height since"
number_words kind.Sight = codes "sight"
number_words kind.Benchmark = codes "benchmark"
number_words kind.Book = codes "word 33 of the book"
