-- What may have been meant by the heights that rows doubt.
use Rattle.std.specs.Prelude.{◌≡◌, ℤ, ◌==◌, ◌&&◌, not, Bool, List, [], ◌∷◌, filter, if◌then◌else◌, map}
use Rattle.std.specs.List.{AllZip, flat_map}
use Rattle.th_entries.specs.declared.entries.Entry.{Entry}
use Rattle.th_explain_texts.specs.Words.{is_pole}
use Rattle.th_explain_texts.specs.declared.rows.Named.{Named}
use Rattle.th_explain_texts.specs.declared.rows.Row.{Row}
use Rattle.th_meant.specs.Meant.{AreNamed, is_among}
use Rattle.th_meant.specs.declared.typed.Typed.{Typed}
use Rattle.th_numbers.specs.Lists.{is_kind}
use Rattle.th_meant.specs.Keyed.{keyed_in, tolerance_of}
use Rattle.th_meant.specs.declared.keyed.Keyed.{Keyed}

-- two entries of a kind are the same one
abbrev pub is_same : Entry → Entry → Bool
is_same own entry = own.book == entry.book && own.line == entry.line

-- an entry of the same kind that sights use which the number does not have
abbrev pub is_elsewhere : Keyed → Entry → Bool
is_elsewhere keyed entry = is_kind entry.kind keyed.entry.kind && not (keyed.whole && is_same keyed.entry entry)

abbrev pub other_at : Keyed → Entry → List ℤ
other_at keyed entry = if is_elsewhere keyed entry then entry.length ∷ [] else []

-- the heights of the same kind that sights use which the number does not have
abbrev pub others_of : List Entry → Keyed → List ℤ
others_of entries keyed = flat_map (other_at keyed) entries

-- a height as it was keyed in
abbrev pub typed_of : Entry → Typed
typed_of entry = record { given = entry.length; unit = entry.unit }

-- a height that may have been meant, given those that are in force elsewhere
abbrev pub named_with : Keyed → List ℤ → ℤ → Named
named_with keyed others meant = record {
  row = keyed.row;
  height = keyed.entry.kind;
  typed = keyed.entry.length;
  meant = meant;
  elsewhere = is_among meant others;
  whole = keyed.whole;
}

-- what may have been meant by one height
abbrev pub AreNamedBy : List Entry → Keyed → List Named → Type 0
AreNamedBy entries keyed named =
    (heights : List ℤ) × AreNamed (typed_of keyed.entry) (others_of entries keyed) keyed.proposed heights × (named ≡ map (named_with keyed (others_of entries keyed)) heights)

-- the poles among them that are in force elsewhere; if there are none, all
abbrev pub is_pole_elsewhere : Named → Bool
is_pole_elsewhere named = is_pole named.height && named.elsewhere

abbrev pub first_of : List Named → List Named → List Named
first_of [] all = all
first_of (pole ∷ poles) all = pole ∷ poles

abbrev pub poles_first : List Named → List Named
poles_first all = first_of (filter is_pole_elsewhere all) all

-- lists one after another
abbrev pub joined : List (List Named) → List Named
joined each = flat_map (λ own. own) each

-- The heights that may have been meant, of a survey with these entries: those of the rows with number 1; but if there are poles among them that
-- are in force elsewhere, these alone.
abbrev pub AreNamedIn : List Entry → ℤ → List Row → List Named → Type 0
AreNamedIn entries limit rows named =
    (each : List (List Named)) × AllZip (AreNamedBy entries) (keyed_in entries (tolerance_of limit) rows) each × (named ≡ poles_first (joined each))
