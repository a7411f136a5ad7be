-- A line of a mended book: the words of its reading, with their edits. Places count lines from 0.
use Rattle.std.specs.Prelude.{ℕ, ◌+◌, ◌*◌, ◌-◌, ◌==◌, ◌&&◌, not, Bool, true, false, List, [], ◌∷◌, ◌++◌, Option, Some, None, Result, Ok, Err, drop, find, if◌then◌else◌, length, take}
use Rattle.gsi_word.specs.Words.{Parts, result_map, spelling_len}
use Rattle.gsi_block.specs.Blocks.{BlockParts, block_at, mark}
use Rattle.gsi_block.specs.Writing.{block_line}
use Rattle.th_book.specs.Lines.{ParsedLine, counts_for, holds}
use Rattle.th_entries.specs.Entries.{index_of}
use Rattle.th_mend.specs.declared.changes.Reach.TheVariants.{Since, Whole}
use Rattle.th_mend.specs.declared.changes.What.{What}
use Rattle.th_mend.specs.declared.changes.What.TheVariants.{Height, LeftOut, OtherSign, Sighted, Station, Target}
use Rattle.th_mend.specs.NewWords.{added_word, with_length, with_name, with_other_sign}
use Rattle.th_mend.specs.declared.misfits.Misfit.{Misfit}
use Rattle.th_mend.specs.declared.misfits.Misfit.TheVariants as misfit
use Rattle.th_mend.specs.Edits.{covers, index_changed, is_named}
use Rattle.th_mend.specs.declared.edits.Edit.{Edit}
use Rattle.th_mend.specs.declared.faults.MendKind.{MendKind}
use Rattle.th_mend.specs.declared.faults.MendKind.TheVariants.{LongName, NotWhole, NoUnit, TooManyDigits}
use Rattle.th_mend.specs.declared.faults.RowFault.{RowFault}

-- the words that become of a word or of a line, or the fault of the record that changes them
abbrev pub NewWords : Type 0
NewWords = Result (List Parts) RowFault

abbrev pub kind_of : Misfit → MendKind
kind_of misfit.NoUnit = NoUnit
kind_of misfit.NotWhole = NotWhole
kind_of misfit.TooManyDigits = TooManyDigits
kind_of misfit.LongName = LongName

-- a word that a record makes, or why it cannot
abbrev pub made : ℕ → Result Parts Misfit → NewWords
made row (Ok word) = Ok (word ∷ [])
made row (Err fault) = Err (record { row = row; kind = kind_of fault })

-- the words that become of a word by an edit of it: one, or none if its sight is left out
abbrev pub changed_by : Edit → What → Parts → NewWords
changed_by edit (Height kind reach length) word = made edit.row (with_length length word)
changed_by edit (Sighted length) word = made edit.row (with_length length word)
changed_by edit LeftOut word = Ok []
changed_by edit OtherSign word = Ok (with_other_sign word ∷ [])
changed_by edit (Target name) word = made edit.row (with_name name word)
changed_by edit (Station name) word = made edit.row (with_name name word)

abbrev pub changed : Option Edit → Parts → NewWords
changed None word = Ok (word ∷ [])
changed (Some edit) word = changed_by edit edit.what word

-- something changes the name that a line begins with
abbrev pub is_name : What → Bool
is_name (Target name) = true
is_name (Station name) = true
is_name other = false

-- something changes a word wherever it is in its line
abbrev pub is_of_word : Parts → What → Bool
is_of_word word what = not (is_name what) && counts_for (index_changed what) word

-- the edit of a word at a place, if there is one; no two edits clash, so there is at most one
abbrev pub word_edit : List Edit → ℕ → Parts → Option Edit
word_edit edits place word = find (λ edit. covers place edit && is_of_word word edit.what) edits

-- the edit of the name at a place
abbrev pub name_edit : List Edit → ℕ → Option Edit
name_edit edits place = find (λ edit. covers place edit && is_name edit.what) edits

abbrev pub or_else : Option Edit → Option Edit → Option Edit
or_else (Some edit) other = Some edit
or_else None other = other

-- new words and those behind them; the first fault comes first
abbrev pub and_then : NewWords → NewWords → NewWords
and_then (Err fault) later = Err fault
and_then (Ok words) (Err fault) = Err fault
and_then (Ok words) (Ok later) = Ok (words ++ later)

-- the words behind the first
abbrev pub later_words : List Edit → ℕ → List Parts → NewWords
later_words edits place [] = Ok []
later_words edits place (word ∷ words) = and_then (changed (word_edit edits place word) word) (later_words edits place words)

-- the words of a block, the first of which may hold a name
abbrev pub own_words : List Edit → ℕ → List Parts → NewWords
own_words edits place [] = Ok []
own_words edits place (word ∷ words) =
    and_then (changed (or_else (name_edit edits place) (word_edit edits place word)) word) (later_words edits place words)

-- the word that a block gets by an edit: a height that changes since its line, if the block has no word of it
abbrev pub added_by : Edit → What → ℕ → BlockParts → NewWords
added_by edit (Height kind Since length) place block =
    if (edit.first == place) && not (holds (index_of kind) block.words) then made edit.row (added_word block.width (index_of kind) length) else Ok []
added_by edit (Height kind Whole length) place block = Ok []
added_by edit other place block = Ok []

-- the words that a block gets, in the order of records
abbrev pub added_words : List Edit → ℕ → BlockParts → NewWords
added_words [] place block = Ok []
added_words (edit ∷ edits) place block = and_then (added_by edit edit.what place block) (added_words edits place block)

-- the words of a mended block
abbrev pub mended_words : List Edit → ℕ → BlockParts → NewWords
mended_words edits place block = and_then (own_words edits place block.words) (added_words edits place block)

-- bytes without the last one
abbrev pub without_last : List ℕ → List ℕ
without_last bytes = take (length bytes - 1) bytes

-- how many bytes the words of a block take in their line, with its mark and a space between two words
abbrev pub row_len : BlockParts → ℕ
row_len block = length (mark block.width) + length block.words * (spelling_len block.width + 1) - 1

-- the line of these words in place of those of a block: what is behind the last word stays
abbrev pub line_with : BlockParts → List ℕ → List Parts → List ℕ
line_with block line words =
    without_last (block_line (record { width = block.width; words = words })) ++ drop (row_len block) line

-- a line that was parsed, at a place that some edit reaches
abbrev pub mended_parsed : List Edit → ℕ → List ℕ → ParsedLine → Result (List ℕ) RowFault
mended_parsed edits place line (Ok (Some block)) = result_map (line_with block line) (mended_words edits place block)
mended_parsed edits place line (Ok None) = Ok line
mended_parsed edits place line (Err fault) = Ok line

-- the mended line at a place; a line that no edit reaches is itself
abbrev pub mended_line : List Edit → ℕ → List ℕ → Result (List ℕ) RowFault
mended_line edits place line = if is_named edits place then mended_parsed edits place line (block_at line) else Ok line
