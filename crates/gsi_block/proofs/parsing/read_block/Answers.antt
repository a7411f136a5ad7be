use Rattle.std.proofs.Common.{◌≡◌, Some, Ok, sym, ◌∙◌, ap, option_map, arith}
use Rattle.std.proofs.lemmas.List.{length-map}
use Rattle.gsi_word.specs.Words.{parts_of, result_map}
use Rattle.gsi_block.specs.Blocks.{IsBlock, block_at, block_with}
use Rattle.gsi_block.proofs.BlocksLaw.{block_read}
use Rattle.gsi_block.proofs.RowsLaw.{row_some}
use Rattle.gsi_block.proofs.WrittenBlocks.{AreSpelled-row}
use Rattle.gsi_block.proofs.parsing.read_block.Goals as goal

pub invariant_of-result : goal.invariant_of-result
invariant_of-result c =
    let words = c.read_words.new.words.items in
    let block = block_with words c.in-Ok-Some.width in
    let read : block_at c.args.line.now ≡ Ok (Some block) = sym c.read_words.ensures ∙ ap (result_map (option_map (block_with words))) (c.in-Ok-Some.is ∙ ap Ok c.in-Ok-Some.field-0-is) in
    let is : IsBlock c.args.line.now block = block_read c.word_at_reads_spellings.ensures c.args.line.now block read in
    record {
      some = omega (arith, row_some block.width block.words is.row.0 is.row.2, length-map words parts_of);
      few = omega (arith, is.few, length-map words parts_of);
      spelled = AreSpelled-row c.spelling_of_is_the_spelling.ensures block.width block.words is.row.0 is.row.2;
    }
