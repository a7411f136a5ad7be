-- The changes of a table can be read back: lengths are within the limit, and names are names.
use Rattle.std.proofs.Common.{◌≡◌, ℕ, ℤ, ◌+◌, ◌≤◌, ◌==◌, Bool, true, false, cond, List, [], ◌∷◌, Option, Some, None, Result, Ok, Err, bytes_eq, codes, length, nat_lt, unsigned_abs, refl, subst}
use Rattle.std.specs.Option.{ok_or}
use Rattle.std.specs.Prelude.{nat_le}
use Rattle.std.proofs.lemmas.Bool.{leb-true}
use Rattle.th_units.specs.Limits.{max_len}
use Rattle.th_units.specs.Metres.{value}
use Rattle.th_units.specs.declared.faults.LenFault.{LenFault}
use Rattle.gsi_word.specs.Names.{name_of}
use Rattle.gsi_word.specs.Words.{result_map}
use Rattle.th_csv.specs.Records.{Fields, records_of}
use Rattle.th_entries.specs.declared.entries.HeightKind.{HeightKind}
use Rattle.th_mend.specs.Fields.{change_in, change_of, height_named, height_or, is_header, length_in, line_in, name_in, other_in, sighted_in, sign_in, what_in, within_limit}
use Rattle.th_mend.specs.Limits.{max_changes}
use Rattle.th_mend.specs.Tables.{bad_header, change_first, changes_from, changes_in, changes_of, too_long}
use Rattle.th_mend.specs.declared.changes.Change.{Change}
use Rattle.th_mend.specs.declared.changes.Reach.{Reach}
use Rattle.th_mend.specs.declared.changes.What.{What}
use Rattle.th_mend.specs.declared.changes.What.TheVariants.{Height, LeftOut, OtherSign, Sighted, Station, Target}
use Rattle.th_mend.specs.declared.change_faults.ChangeFault.{ChangeFault}
use Rattle.th_mend.specs.declared.change_faults.ChangeKind.{ChangeKind}
use Rattle.th_mend.specs.declared.change_faults.ChangeKind.TheVariants.{BadLength, BadName, BadWord, GivenValue}
use Rattle.th_explain_laws.proofs.EditLemmas.{AreReadable, IsReadable}

-- what a length that was read becomes
length_small : (text : List ℕ) (own : ℤ) → length_in text ≡ Ok own → unsigned_abs own ≤ max_len
length_small text own h = by (value text) h
  where
    from : (read : ℤ) (small : Bool) → nat_le (unsigned_abs read) max_len ≡ small → ◌≡◌ {A = Result ℤ ChangeKind} (cond small (Ok read) (Err BadLength)) (Ok own) → unsigned_abs own ≤ max_len
    from read true e h =
        let same : read ≡ own = cc h in
        subst (λ own. unsigned_abs own ≤ max_len) same (leb-true (unsigned_abs read) max_len e)
    from read false e h = absurd (cc h)

    by : (read : Result ℤ LenFault) → within_limit read ≡ Ok own → unsigned_abs own ≤ max_len
    by (Ok read) h = from read (nat_le (unsigned_abs read) max_len) refl h
    by (Err fault) h = absurd (cc h)

-- what a mapped length or name becomes
mapped_small : (made : ℤ → What) (text : List ℕ) (what : What) → ((own : ℤ) → unsigned_abs own ≤ max_len → IsReadable (made own)) → result_map made (length_in text) ≡ Ok what → IsReadable what
mapped_small made text what readable h = by (length_in text) refl h
  where
    by : (read : Result ℤ ChangeKind) → length_in text ≡ read → result_map made read ≡ Ok what → IsReadable what
    by (Err kind) e h = absurd (cc h)
    by (Ok own) e h = let same : made own ≡ what = cc h in subst IsReadable same (readable own (length_small text own e))

-- that the name of a name is itself
abbrev pub NamesAreNames : Type 0
NamesAreNames = (bytes name : List ℕ) → name_of bytes ≡ Some name → name_of name ≡ Some name

mapped_name : NamesAreNames → (made : List ℕ → What) (text : List ℕ) (what : What) → ((name : List ℕ) → name_of name ≡ Some name → IsReadable (made name)) → result_map made (name_in text) ≡ Ok what → IsReadable what
mapped_name law made text what readable h = by (name_of text) refl h
  where
    by : (name : Option (List ℕ)) → name_of text ≡ name → result_map made (ok_or name BadName) ≡ Ok what → IsReadable what
    by None e h = absurd (cc h)
    by (Some name) e h = let same : made name ≡ what = cc h in subst IsReadable same (readable name (law text name e))

-- what a word changes can be read
other_readable : NamesAreNames → (word text : List ℕ) (what : What) → other_in word text ≡ Ok what → IsReadable what
other_readable law word text what h = by (bytes_eq word (codes "33")) (bytes_eq word (codes "sign")) (bytes_eq word (codes "to")) (bytes_eq word (codes "from")) h
  where
    sighted : (none : Bool) → cond none (Ok LeftOut) (result_map Sighted (length_in text)) ≡ Ok what → IsReadable what
    sighted true h = let same : LeftOut ≡ what = cc h in subst IsReadable same tt
    sighted false h = mapped_small Sighted text what (λ own small. small) h

    signed : (none : Bool) → ◌≡◌ {A = Result What ChangeKind} (cond none (Ok OtherSign) (Err GivenValue)) (Ok what) → IsReadable what
    signed true h = let same : OtherSign ≡ what = cc h in subst IsReadable same tt
    signed false h = absurd (cc h)

    by : (a b c d : Bool) → cond a (sighted_in text) (cond b (sign_in text) (cond c (result_map Target (name_in text)) (cond d (result_map Station (name_in text)) (Err BadWord)))) ≡ Ok what → IsReadable what
    by true b c d h = sighted (length text == 0) h
    by false true c d h = signed (length text == 0) h
    by false false true d h = mapped_name law Target text what (λ name is. is) h
    by false false false true h = mapped_name law Station text what (λ name is. is) h
    by false false false false h = absurd (cc h)

what_readable : NamesAreNames → (word text : List ℕ) (what : What) → what_in word text ≡ Ok what → IsReadable what
what_readable law word text what h = by (height_named word) h
  where
    by : (height : Option (HeightKind × Reach)) → height_or height text (other_in word text) ≡ Ok what → IsReadable what
    by None h = other_readable law word text what h
    by (Some height) h = mapped_small (Height height.0 height.1) text what (λ own small. small) h

change_readable : NamesAreNames → (this : Fields) (change : Change) → change_in this ≡ Ok change → IsReadable change.what
change_readable law [] change h = absurd (cc h)
change_readable law (line ∷ []) change h = absurd (cc h)
change_readable law (line ∷ word ∷ []) change h = absurd (cc h)
change_readable law (line ∷ word ∷ text ∷ []) change h = by (line_in line) (what_in word text) refl h
  where
    by : (number : Result ℕ ChangeKind) (what : Result What ChangeKind) → what_in word text ≡ what → change_of number what ≡ Ok change → IsReadable change.what
    by (Err kind) what e h = absurd (cc h)
    by (Ok number) (Err kind) e h = absurd (cc h)
    by (Ok number) (Ok what) e h =
        let made : Change = record { line = number; what = what } in
        let same : made ≡ change = cc h in
        subst (λ (change : Change). IsReadable change.what) same (what_readable law word text what e)
change_readable law (line ∷ word ∷ text ∷ more ∷ rest) change h = absurd (cc h)

from_readable : NamesAreNames → (number : ℕ) (records : List Fields) (changes : List Change) → changes_from number records ≡ Ok changes → AreReadable changes
from_readable law number [] changes h = let none : [] ≡ changes = cc h in subst AreReadable none tt
from_readable law number (this ∷ later) changes h = by (change_in this) (changes_from (number + 1) later) refl refl h (from_readable law (number + 1) later)
  where
    by : (first : Result Change ChangeKind) (rest : Result (List Change) ChangeFault) → change_in this ≡ first → changes_from (number + 1) later ≡ rest → change_first number first rest ≡ Ok changes
        → ((changes : List Change) → changes_from (number + 1) later ≡ Ok changes → AreReadable changes) → AreReadable changes
    by (Err kind) rest a b h more = absurd (cc h)
    by (Ok change) (Err fault) a b h more = absurd (cc h)
    by (Ok change) (Ok others) a b h more =
        let same : change ∷ others ≡ changes = cc h in
        subst AreReadable same (change_readable law this change a, more others b)

-- the changes of a table
pub table_readable : NamesAreNames → (table : List ℕ) (changes : List Change) → changes_of table ≡ Ok changes → AreReadable changes
table_readable law table changes h = by (nat_lt max_changes (length table)) h
  where
    from : (records : List Fields) → changes_in records ≡ Ok changes → AreReadable changes
    from [] h = absurd (cc h)
    from (first ∷ rest) h = headed (is_header first) h
      where
        headed : (header : Bool) → cond header (changes_from 2 rest) (Err bad_header) ≡ Ok changes → AreReadable changes
        headed true h = from_readable law 2 rest changes h
        headed false h = absurd (cc h)

    by : (long : Bool) → cond long (Err too_long) (changes_in (records_of table)) ≡ Ok changes → AreReadable changes
    by true h = absurd (cc h)
    by false h = from (records_of table) h
