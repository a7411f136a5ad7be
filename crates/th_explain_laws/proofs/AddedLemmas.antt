-- The words that a block gets.
use Rattle.std.proofs.Common.{◌≡◌, ℕ, ℤ, ◌%◌, ◌≤◌, ◌==◌, ◌&&◌, Bool, true, false, not, cond, List, [], ◌∷◌, ◌++◌, Option, Some, None, Ok, unsigned_abs, refl, sym, ap, subst, ◌∙◌}
use Rattle.std.specs.Int.{is_negative}
use Rattle.std.specs.List.{find}
use Rattle.std.specs.Option.{option_map_or, option_or}
use Rattle.std.specs.Prelude.{All, slice_index}
use Rattle.std.specs.Result.{result_ok}
use Rattle.std.proofs.lemmas.Bool.{eqb-true, true≢false}
use Rattle.std.proofs.lemmas.List.Elements.{All-head, All-tail}
use Rattle.th_units.specs.Limits.{max_len}
use Rattle.th_units.specs.Units.{step}
use Rattle.th_units.specs.declared.units.Unit.TheVariants.{HundredthMm, TenMilliFoot}
use Rattle.gsi_word.specs.Values.{length_of}
use Rattle.gsi_word.specs.Words.{Parts, data_len, parts}
use Rattle.gsi_word.specs.declared.words.Width.{Width}
use Rattle.gsi_block.specs.Blocks.{BlockParts}
use Rattle.th_book.specs.Lines.{counts_for, holds}
use Rattle.th_entries.specs.Entries.{index_of}
use Rattle.th_entries.specs.declared.entries.HeightKind.{HeightKind}
use Rattle.th_mend.specs.declared.changes.Reach.TheVariants.{Since, Whole}
use Rattle.th_mend.specs.declared.changes.What.{What}
use Rattle.th_mend.specs.declared.changes.What.TheVariants.{Height, LeftOut, OtherSign, Sighted, Station, Target}
use Rattle.th_mend.specs.NewWords.{added_in, added_word, info_of, length_data}
use Rattle.th_mend.proofs.LengthLemmas.{added_word_read}
use Rattle.th_mend.specs.MendedLines.{NewWords, added_by, added_words, made}
use Rattle.th_mend.specs.declared.edits.Edit.{Edit}
use Rattle.th_explain_laws.proofs.EditLemmas.{IsReadable}
use Rattle.th_explain_laws.proofs.WordLemmas.{AreBoth, both_parts, made_one, mapped}

-- the length that an edit adds at a place for an index
abbrev pub adding_by : ℕ → ℕ → Edit → What → Option ℤ
adding_by index place edit (Height kind Since own) = cond ((edit.first == place) && (index_of kind == index)) (Some own) None
adding_by index place edit (Height kind Whole own) = None
adding_by index place edit (Sighted own) = None
adding_by index place edit LeftOut = None
adding_by index place edit OtherSign = None
adding_by index place edit (Target name) = None
adding_by index place edit (Station name) = None

-- the first length that some edit adds there
abbrev pub first_adding : ℕ → ℕ → List Edit → Option ℤ
first_adding index place [] = None
first_adding index place (edit ∷ edits) = option_or (adding_by index place edit edit.what) (first_adding index place edits)

-- added words have this length for an index, or none
abbrev pub IsAdded : ℕ → Option ℤ → List Parts → Type 0
IsAdded index None added = find (counts_for index) added ≡ None
IsAdded index (Some own) added = (word : Parts) × (find (counts_for index) added ≡ Some word) × (length_of word ≡ Ok own)

-- an added word has the index that it is added for
dot_first : (word : Parts) (index other : ℕ) → word.index ≡ other → slice_index word.info 0 ≡ 46 → counts_for index word ≡ (other == index)
dot_first word index other is dot =
    ap (λ first. option_map_or (λ own. own == index) (cond (first == 46) (Some word.index) None) false) dot ∙ ap (λ own. own == index) is

pub added_counts : (width : Width) (other : ℕ) (own : ℤ) (word : Parts) (index : ℕ) → added_word width other own ≡ Ok word → counts_for index word ≡ (other == index)
added_counts width other own word index h = by (unsigned_abs own % step HundredthMm == 0) h
  where
    by : (whole : Bool) → added_in width other own (cond whole HundredthMm TenMilliFoot) ≡ Ok word → counts_for index word ≡ (other == index)
    by true h =
        let found = mapped (parts other (info_of HundredthMm) (is_negative own)) (length_data (data_len width) own HundredthMm) word (ap result_ok h) in
        dot_first word index other (ap (λ (own : Parts). own.index) found.2) (ap (λ (own : Parts). slice_index own.info 0) found.2)
    by false h =
        let found = mapped (parts other (info_of TenMilliFoot) (is_negative own)) (length_data (data_len width) own TenMilliFoot) word (ap result_ok h) in
        dot_first word index other (ap (λ (own : Parts). own.index) found.2) (ap (λ (own : Parts). slice_index own.info 0) found.2)

-- no words before others
rest_alone : (index : ℕ) (found : Option ℤ) (front back : List Parts) → ◌≡◌ {A = NewWords} (Ok []) (Ok front) → IsAdded index found back → IsAdded index found (front ++ back)
rest_alone index found front back h rest = let none : [] ≡ front = cc h in subst (λ front. IsAdded index found (front ++ back)) none rest

-- a word that does not count before others
rest_found : (index : ℕ) (found : Option ℤ) (word : Parts) (back : List Parts) → counts_for index word ≡ false → IsAdded index found back → IsAdded index found (word ∷ back)
rest_found index None word back other rest = ap (λ own. cond own (Some word) (find (counts_for index) back)) other ∙ rest
rest_found index (Some own) word back other (first, is, reads) = (first, ap (λ own. cond own (Some word) (find (counts_for index) back)) other ∙ is, reads)

-- what is added, where the block has no word of an index that is added
pub added_found : (index place : ℕ) (block : BlockParts) (edits : List Edit) (added : List Parts) → ((kind : HeightKind) → (index_of kind == index) ≡ true → holds index block.words ≡ false) → All (λ (edit : Edit). IsReadable edit.what) edits
    → added_words edits place block ≡ Ok added → IsAdded index (first_adding index place edits) added
added_found index place block [] added lacks readable h = let none : [] ≡ added = cc h in subst (IsAdded index None) none refl
added_found index place block (edit ∷ edits) added lacks readable h =
    subst (IsAdded index (first_adding index place (edit ∷ edits))) (sym both.both)
    (one edit.what (All-head (λ (edit : Edit). IsReadable edit.what) edit edits readable) both.first_is (added_found index place block edits both.back lacks (All-tail (λ (edit : Edit). IsReadable edit.what) edit edits readable) both.later_is))
  where
    both : AreBoth (added_by edit edit.what place block) (added_words edits place block) added
    both = both_parts (added_by edit edit.what place block) (added_words edits place block) added h

    later : Option ℤ
    later = first_adding index place edits

    with : (kind : HeightKind) (own : ℤ) (here held same : Bool) → holds (index_of kind) block.words ≡ held → (index_of kind == index) ≡ same → unsigned_abs own ≤ max_len
        → cond (here && not held) (made edit.row (added_word block.width (index_of kind) own)) (Ok []) ≡ Ok both.front → IsAdded index later both.back
        → IsAdded index (option_or (cond (here && same) (Some own) None) later) (both.front ++ both.back)
    with kind own false held same is e small h rest = rest_alone index later both.front both.back h rest
    with kind own true true false is e small h rest = rest_alone index later both.front both.back h rest
    with kind own true true true is e small h rest =
        absurd (true≢false (sym is ∙ ap (λ index. holds index block.words) (eqb-true (index_of kind) index e) ∙ lacks kind e))
    with kind own true false same is e small h rest =
        let new = made_one edit.row (added_word block.width (index_of kind) own) both.front h in
        let counts : counts_for index new.0 ≡ same = added_counts block.width (index_of kind) own new.0 index new.1 ∙ e in
        subst (λ front. IsAdded index (option_or (cond same (Some own) None) later) (front ++ both.back)) (sym new.2) (by same new.0 counts new.1)
      where
        by : (same : Bool) (word : Parts) → counts_for index word ≡ same → added_word block.width (index_of kind) own ≡ Ok word → IsAdded index (option_or (cond same (Some own) None) later) (word ∷ both.back)
        by false word counts new = rest_found index later word both.back counts rest
        by true word counts new = (word, ap (λ own. cond own (Some word) (find (counts_for index) both.back)) counts, added_word_read block.width (index_of kind) own word small new)

    one : (what : What) → IsReadable what → added_by edit what place block ≡ Ok both.front → IsAdded index later both.back
        → IsAdded index (option_or (adding_by index place edit what) later) (both.front ++ both.back)
    one (Height kind Since own) small h rest = with kind own (edit.first == place) (holds (index_of kind) block.words) (index_of kind == index) refl refl small h rest
    one (Height kind Whole own) small h rest = rest_alone index later both.front both.back h rest
    one (Sighted own) small h rest = rest_alone index later both.front both.back h rest
    one LeftOut small h rest = rest_alone index later both.front both.back h rest
    one OtherSign small h rest = rest_alone index later both.front both.back h rest
    one (Target name) small h rest = rest_alone index later both.front both.back h rest
    one (Station name) small h rest = rest_alone index later both.front both.back h rest
