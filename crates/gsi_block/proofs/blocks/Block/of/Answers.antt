use Rattle.std.proofs.Common.{◌≡◌, ◌+◌, ◌<◌, ◌≤◌, ◌++◌, List, option_map, subst, [], Some, length, map, slice_get, sym, ◌∙◌, ap, arith}
use Rattle.std.proofs.lemmas.Bool.Decides.{nat_tests}
use Rattle.std.proofs.lemmas.List.{length-map}
use Rattle.std.proofs.lemmas.Option.{slice_get-map, slice_get_within}
use Rattle.gsi_word.specs.Words.{Parts, parts_of}
use Rattle.gsi_block.specs.Blocks.{block_with}
use Rattle.gsi_block.specs.Spelled.{AreSpelled}
use Rattle.gsi_block.specs.Writing.{block_line}
use Rattle.gsi_block.proofs.Successes.{at_ok}
use Rattle.gsi_block.proofs.WrittenBlocks.{IsBlock-block_line, no_block}
use Rattle.gsi_block.proofs.blocks.Block.of.Goals as goal

pub returns-then-not-are_spelled-clause-none : goal.returns-then-not-are_spelled-clause-none
returns-then-not-are_spelled-clause-none c = λ none block is.
    let words = c.args.words.now in
    let first = c.in_ok-first.field-0.now in
    let at : Some first ≡ slice_get words 0 = c.in_ok-first.ensures.value in
    let not : ¬ AreSpelled c.width-width.result (map parts_of words) = λ are. grind (arith, c.are_spelled.ensures.1 are) in
    no_block c.spelling_of_is_the_spelling.ensures c.width-width.result (map parts_of words) (parts_of first) (slice_get-map parts_of words 0 ∙ ap (option_map parts_of) (sym at)) c.width-width.ensures.spelled not block is

pub returns-clause-some : goal.returns-clause-some
returns-clause-some c =
    let words = c.args.words.now in
    let none : c.new-kept.result.items ≡ [] = c.new-kept.ensures in
    let fits : length c.new-kept.result.items + length words ≤ 64 = omega (arith, ap length none) in
    let added : c.try_extend_from_slice.new.self.items ≡ c.new-kept.result.items ++ words = at_ok c.try_extend_from_slice.result (c.try_extend_from_slice.ensures.variant.1 fits) c.try_extend_from_slice.ensures.ok in
    let kept : c.try_extend_from_slice.new.self.items ≡ words = added ∙ ap (λ front. front ++ words) none in
    let block = block_with c.try_extend_from_slice.new.self.items c.width-width.result in
    let same : block.words ≡ map parts_of words = ap (map parts_of) kept in
    let some : 0 < length words = slice_get_within words 0 c.in_ok-first.field-0.now (sym c.in_ok-first.ensures.value) in
    let InWidth : List Parts → Type 0 = λ words. AreSpelled c.width-width.result words in
    let spelled : AreSpelled c.width-width.result (map parts_of words) = c.are_spelled.ensures.0 (grind (arith, nat_tests, c.if-not-are_spelled.false)) in
    (same, (block_line block, IsBlock-block_line block (omega (arith, ap length same, length-map words parts_of)) (omega (arith, ap length same, length-map words parts_of)) (subst InWidth (sym same) spelled)))
