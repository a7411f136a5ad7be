use Rattle.std.proofs.Common.{◌≡◌, ◌++◌, ◌/◌, Bool, List, ℕ, [], ◌∷◌, OnOk, codes, false, unsigned_abs, subst, ap, ◌∙◌, arith}
use Rattle.std.specs.Int.{is_negative}
use Rattle.th_units.specs.Metres.{last_digits}
use Rattle.gsi_word.specs.Words.{Parts, parts, parts_of}
use Rattle.gsi_word.specs.declared.words.Width.TheVariants.{Sixteen}
use Rattle.gsi_block.specs.Blocks.{BlockParts, block_parts}
use Rattle.gsi_block.specs.Writing.{block_text}
use Rattle.th_report.specs.Gsi.{number_word}
use Rattle.th_blunders.proofs.HeightLemmas.{same_units}
use Rattle.th_conversions.specs.Limits.{hundredth}
use Rattle.th_conversions.specs.Books.{length_word, sight_block}
use Rattle.th_conversions.proofs.words.write_sight.Goals as goal

-- the block of two words
abbrev two : Parts → Parts → BlockParts
two first second = record { width = Sixteen; words = first ∷ second ∷ [] }

pub returns : goal.returns
unfolding number_word
returns c =
    let number = c.args.number in
    let row = c.args.row.now in
    let units = same_units row.difference (omega (arith, c.requires)) in
    let first : parts_of c.number_word.result ≡ number_word number row.to = c.number_word.ensures.parts ∙ ap (λ (body : List ℕ). parts 11 (last_digits 4 number) false body) c.padded_name-name.ensures.value in
    let second : parts_of c.word_of.result ≡ length_word 33 row.difference =
    c.word_of.ensures.parts
    ∙ ap (λ (minus : Bool). parts 33 (codes "..48") minus c.last_digits-digits.result) (c.is_negative.ensures ∙ ap is_negative units)
    ∙ ap (λ (digits : List ℕ). parts 33 (codes "..48") (is_negative row.difference) digits) (c.last_digits-digits.ensures.value ∙ ap (λ size. last_digits 16 (size / hundredth)) (c.unsigned_abs.ensures.value ∙ ap unsigned_abs units)) in
    let block : block_parts c.block_of-block.result ≡ sight_block number row =
    c.block_of-block.ensures
    ∙ ap (λ (word : Parts). two word (parts_of c.word_of.result)) first
    ∙ ap (two (number_word number row.to)) second in
    subst (λ (block : BlockParts). OnOk c.write_block.result (c.write_block.new.out.items ≡ c.args.text.now.items ++ block_text block)) block c.write_block.ensures.ok
