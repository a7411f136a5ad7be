-- What a height that is named stands for.
use Rattle.std.specs.Prelude.{◌≡◌, ℕ, true, List, Contains, Some, slice_get}
use Rattle.th_entries.specs.declared.entries.Entry.{Entry}
use Rattle.th_explain_texts.specs.declared.rows.Named.{Named}
use Rattle.th_explain_texts.specs.declared.rows.Row.{Row}
use Rattle.th_explain_texts.specs.declared.rows.Values.{Values}
use Rattle.th_meant.specs.Meant.{IsCandidate}
use Rattle.th_meant.specs.Keyed.{heights_of, is_in_force, keyed_with}
use Rattle.th_meant.specs.Named.{named_with, others_of, typed_of}
use Rattle.th_meant.specs.declared.keyed.Keyed.{Keyed}

-- A row doubts a height that was keyed in: it has number 1, and the entry is in force in its line.
pub record IsDoubted (entries : List Entry) (tolerance : ℕ) (rows : List Row) (keyed : Keyed) : Type 0 where
  pub row : Row
  pub there : slice_get rows keyed.row ≡ Some row
  pub first : row.number ≡ 1
  pub kind : Contains (heights_of row.kind) keyed.entry.kind
  pub entered : Contains entries keyed.entry
  pub in_force : is_in_force row.book row.line keyed.entry ≡ true
  pub values : Values
  pub given : row.values ≡ Some values
  pub fitting : keyed ≡ keyed_with tolerance row keyed.row keyed.entry values

-- a height may have been meant where a row doubts another one
pub record IsMeant (entries : List Entry) (tolerance : ℕ) (rows : List Row) (named : Named) : Type 0 where
  pub keyed : Keyed
  pub doubted : IsDoubted entries tolerance rows keyed
  pub same : named ≡ named_with keyed (others_of entries keyed) named.meant
  pub candidate : IsCandidate (typed_of keyed.entry) (others_of entries keyed) keyed.proposed named.meant
