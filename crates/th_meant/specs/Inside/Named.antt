use Rattle.std.specs.Prelude.{ℤ, List, map}
use Rattle.std.specs.List.{flat_map}
use Rattle.th_entries.specs.declared.entries.Entry.{Entry}
use Rattle.th_explain_texts.specs.declared.rows.Named.{Named}
use Rattle.th_explain_texts.specs.declared.rows.Row.{Row}
use Rattle.th_meant.specs.Inside.Nearest.{meant_in}
use Rattle.th_meant.specs.Keyed.{keyed_in, tolerance_of}
use Rattle.th_meant.specs.Named.{named_with, others_of, poles_first, typed_of}
use Rattle.th_meant.specs.declared.keyed.Keyed.{Keyed}

-- what may have been meant by one height, given those that are in force elsewhere
abbrev pub named_for : Keyed → List ℤ → List Named
named_for keyed others = map (named_with keyed others) (meant_in (typed_of keyed.entry) others keyed.proposed)

abbrev pub named_by : List Entry → Keyed → List Named
named_by entries keyed = named_for keyed (others_of entries keyed)

-- the heights that may have been meant
abbrev pub named_in : List Entry → ℤ → List Row → List Named
named_in entries limit rows = poles_first (flat_map (named_by entries) (keyed_in entries (tolerance_of limit) rows))
