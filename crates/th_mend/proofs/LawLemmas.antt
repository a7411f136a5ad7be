-- What the laws of mended texts need.
use Rattle.std.proofs.Common.{◌≡◌, ℕ, ◌+◌, ◌&&◌, Bool, true, false, cond, List, [], ◌∷◌, ◌++◌, Result, Ok, Err, refl, sym, ap, ◌∙◌, subst, arith}
use Rattle.std.specs.Prelude.{slice_index}
use Rattle.std.proofs.lemmas.Bool.Decides.{nat_tests}
use Rattle.th_book.specs.Books.{book_answer}
use Rattle.th_observations.specs.Observed.{Observed}
use Rattle.gsi_block.specs.Lines.{is_carriage_return, is_end_byte, is_line_feed}
use Rattle.th_mend.specs.Edits.{is_named}
use Rattle.th_mend.specs.Ends.{Ended, ended_lines, onto_end, onto_line}
use Rattle.th_mend.specs.Laws.{AreMended, joined}
use Rattle.th_mend.specs.MendedBooks.{checked, if_faultless, mended, mended_from, mended_text, then_text, unless_faulty}
use Rattle.th_mend.specs.MendedLines.{mended_line, mended_parsed}
use Rattle.gsi_block.specs.Blocks.{block_at}
use Rattle.th_mend.specs.declared.edits.Edit.{Edit}
use Rattle.th_mend.specs.declared.faults.RowFault.{RowFault}

-- a byte in front of a line is a byte in front of the text
joined-line : (byte : ℕ) (lines : List Ended) → joined (onto_line byte lines) ≡ byte ∷ joined lines
joined-line byte [] = refl
joined-line byte (line ∷ lines) = refl

-- two values that are given are one
same_Ok : (one other : List ℕ) → ◌≡◌ {A = Result (List ℕ) RowFault} (Ok one) (Ok other) → one ≡ other
same_Ok one other h = cc h

-- no edit reaches a line
unnamed : (edits : List Edit) (place : ℕ) (line : List ℕ) → is_named edits place ≡ false → mended_line edits place line ≡ Ok line
unnamed edits place line none = ap (λ named. cond named (mended_parsed edits place line (block_at line)) (Ok line)) none

-- each line of a mended text was mended by itself
pub all_mended : (edits : List Edit) (place : ℕ) (lines : List Ended) (text : List ℕ) → mended_from edits place lines ≡ Ok text
    → (own : List Ended) × (text ≡ joined own) × AreMended edits place lines own
all_mended edits place [] text h = ([], sym (cc h), tt)
all_mended edits place (line ∷ lines) text h = by (mended_line edits place line.0) (mended_from edits (place + 1) lines) refl h (all_mended edits (place + 1) lines)
  where
    by : (first : Result (List ℕ) RowFault) (later : Result (List ℕ) RowFault) → mended_line edits place line.0 ≡ first → then_text first line.1 later ≡ Ok text
        → ((behind : List ℕ) → later ≡ Ok behind → (own : List Ended) × (behind ≡ joined own) × AreMended edits (place + 1) lines own)
        → (own : List Ended) × (text ≡ joined own) × AreMended edits place (line ∷ lines) own
    by (Err fault) later is h more = cc h
    by (Ok first) (Err fault) is h more = cc h
    by (Ok first) (Ok behind) is h more =
        let whole : (first ++ line.1) ++ behind ≡ text = cc h in
        let rest = more behind refl in
        let same : is_named edits place ≡ false → first ≡ line.0 = λ none. same_Ok first line.0 (sym is ∙ unnamed edits place line.0 none) in
        ((first, line.1) ∷ rest.0, sym whole ∙ ap (λ behind. (first ++ line.1) ++ behind) rest.1, (record { line = is; end = refl; same = same }, rest.2))

-- with no edits each line stays
pub none_mended : (place : ℕ) (lines : List Ended) → mended_from [] place lines ≡ Ok (joined lines)
none_mended place [] = refl
none_mended place (line ∷ lines) = ap (then_text (Ok line.0) line.1) (none_mended (place + 1) lines)

-- the first of some lines is empty, if there is one
abbrev FirstEmpty : List Ended → Type 0
FirstEmpty [] = Unit {0}
FirstEmpty (line ∷ lines) = line.0 ≡ []

-- a byte in front of the end of an empty line is a byte in front of the text
joined-end : (byte : ℕ) (lines : List Ended) → FirstEmpty lines → joined (onto_end byte lines) ≡ byte ∷ joined lines
joined-end byte [] first = refl
joined-end byte (line ∷ lines) first =
    ap (λ own. (own ++ byte ∷ line.1) ++ joined lines) first ∙ sym (ap (λ own. byte ∷ ((own ++ line.1) ++ joined lines)) first)

-- a text that begins with an LF begins with an empty line
starts-empty : (bytes : List ℕ) → is_line_feed (slice_index bytes 0) ≡ true → FirstEmpty (ended_lines bytes)
unfolding ended_lines
starts-empty [] h = absurd (cc h)
starts-empty (next ∷ more) h =
    let feed : is_line_feed next ≡ true = h in
    let no : (is_carriage_return next && is_line_feed (slice_index more 0)) ≡ false = grind (arith, nat_tests) in
    let ends : is_end_byte next ≡ true = grind (arith, nat_tests) in
    subst FirstEmpty
    (sym (ap (λ both. cond both (onto_end next (ended_lines more)) (cond (is_end_byte next) (([], next ∷ []) ∷ ended_lines more) (onto_line next (ended_lines more)))) no
    ∙ ap (λ own. cond own (([], next ∷ []) ∷ ended_lines more) (onto_line next (ended_lines more))) ends))
    refl

-- the lines of a text and their ends are the text
pub joined_lines : (bytes : List ℕ) → joined (ended_lines bytes) ≡ bytes
unfolding ended_lines
joined_lines [] = refl
joined_lines (byte ∷ bytes) = by (is_carriage_return byte) (is_line_feed (slice_index bytes 0)) (is_end_byte byte) refl (joined_lines bytes)
  where
    by : (return feed end : Bool) → is_line_feed (slice_index bytes 0) ≡ feed → joined (ended_lines bytes) ≡ bytes
        → joined (cond (return && feed) (onto_end byte (ended_lines bytes)) (cond end (([], byte ∷ []) ∷ ended_lines bytes) (onto_line byte (ended_lines bytes)))) ≡ byte ∷ bytes
    by true true end is rest = joined-end byte (ended_lines bytes) (starts-empty bytes is) ∙ ap (λ more. byte ∷ more) rest
    by true false true is rest = ap (λ more. byte ∷ more) rest
    by true false false is rest = joined-line byte (ended_lines bytes) ∙ ap (λ more. byte ∷ more) rest
    by false feed true is rest = ap (λ more. byte ∷ more) rest
    by false feed false is rest = joined-line byte (ended_lines bytes) ∙ ap (λ more. byte ∷ more) rest

-- a book that nothing changes
pub none_changed : (bytes : List ℕ) (observations : List Observed) → book_answer 1 bytes ≡ Ok observations → mended [] bytes ≡ Ok bytes
none_changed bytes observations is =
    let text : mended_text [] bytes ≡ Ok bytes = none_mended 0 (ended_lines bytes) ∙ ap Ok (joined_lines bytes) in
    ap (λ own. unless_faulty own (checked (mended_text [] bytes))) is
    ∙ ap checked text
    ∙ ap (λ own. if_faultless own bytes) is
