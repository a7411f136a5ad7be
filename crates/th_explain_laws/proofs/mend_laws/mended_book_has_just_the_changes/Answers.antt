use Rattle.th_explain_laws.proofs.MendedLemmas.{corrected_answer, mended_parts}
use Rattle.th_explain_laws.proofs.PairLemmas.{Laws}
use Rattle.th_explain_laws.proofs.TableLemmas.{table_readable}
use Rattle.th_explain_laws.proofs.mend_laws.mended_book_has_just_the_changes.Goals as goal

pub returns : goal.returns
returns c = λ table bytes text changes number read h.
    let laws : Laws = record {
      words = c.word_at_reads_spellings.ensures;
      blocks = c.block_at_reads_blocks.ensures;
      blanks = c.block_at_passes_spaces.ensures;
      spelling = c.spelling_of_is_the_spelling.ensures;
    } in
    let is = mended_parts changes bytes text h in
    (is.edits, is.found, corrected_answer laws changes (table_readable c.name_of_name_is_itself.ensures table changes read) bytes text is number)
