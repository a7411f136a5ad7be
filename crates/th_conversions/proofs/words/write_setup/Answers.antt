use Rattle.std.proofs.Common.{◌≡◌, ◌++◌, List, ℕ, [], ◌∷◌, OnOk, codes, false, pos, subst, ap, ◌∙◌}
use Rattle.th_units.specs.Metres.{last_digits}
use Rattle.gsi_word.specs.Words.{Parts, parts, parts_of}
use Rattle.gsi_word.specs.declared.words.Width.TheVariants.{Sixteen}
use Rattle.gsi_block.specs.Blocks.{BlockParts, block_parts}
use Rattle.gsi_block.specs.Writing.{block_text}
use Rattle.th_report.specs.Gsi.{number_word}
use Rattle.th_conversions.specs.Books.{length_word, setup_block, zero_easting}
use Rattle.th_conversions.proofs.words.write_setup.Goals as goal

-- the block of four words
abbrev four : Parts → Parts → Parts → Parts → BlockParts
four first second third fourth = record { width = Sixteen; words = first ∷ second ∷ third ∷ fourth ∷ [] }

pub returns : goal.returns
unfolding number_word
returns c =
    let number = c.args.number in
    let station = c.args.station.now in
    let zeros = c.last_digits-zeros.ensures.value in
    let first : parts_of c.number_word.result ≡ number_word number station = c.number_word.ensures.parts ∙ ap (λ (body : List ℕ). parts 11 (last_digits 4 number) false body) c.padded_name-name.ensures.value in
    let second : parts_of c.word_of.result ≡ zero_easting = c.word_of.ensures.parts ∙ ap (λ (digits : List ℕ). parts 84 (codes "..40") false digits) zeros in
    let third : parts_of c.word_of-2.result ≡ length_word 87 (pos 0) = c.word_of-2.ensures.parts ∙ ap (λ (digits : List ℕ). parts 87 (codes "..48") false digits) zeros in
    let fourth : parts_of c.word_of-3.result ≡ length_word 88 (pos 0) = c.word_of-3.ensures.parts ∙ ap (λ (digits : List ℕ). parts 88 (codes "..48") false digits) zeros in
    let block : block_parts c.block_of-block.result ≡ setup_block number station =
    c.block_of-block.ensures
    ∙ ap (λ (word : Parts). four word (parts_of c.word_of.result) (parts_of c.word_of-2.result) (parts_of c.word_of-3.result)) first
    ∙ ap (λ (word : Parts). four (number_word number station) word (parts_of c.word_of-2.result) (parts_of c.word_of-3.result)) second
    ∙ ap (λ (word : Parts). four (number_word number station) zero_easting word (parts_of c.word_of-3.result)) third
    ∙ ap (four (number_word number station) zero_easting (length_word 87 (pos 0))) fourth in
    subst (λ (block : BlockParts). OnOk c.write_block.result (c.write_block.new.out.items ≡ c.args.text.now.items ++ block_text block)) block c.write_block.ensures.ok
