use Rattle.std.proofs.Common.{◌≡◌, ◌++◌, Bool, List, ℕ, false, codes, OnOk, subst, ap, ◌∙◌, arith}
use Rattle.th_units.specs.Metres.{last_digits}
use Rattle.gsi_word.specs.Words.{Parts, parts, parts_of}
use Rattle.gsi_block.specs.Blocks.{BlockParts, block_parts}
use Rattle.gsi_block.specs.Writing.{block_text}
use Rattle.th_report.specs.Gsi.{has_minus, height_word, hundredths, number_word, point_block}
use Rattle.th_blunders.proofs.HeightLemmas.{same_units}
use Rattle.th_report.proofs.WordLemmas.{block_of_two}
use Rattle.th_report.proofs.gsi.write_point.Goals as goal

pub returns : goal.returns
unfolding number_word height_word
returns c =
    let number = c.args.number in
    let name = c.args.name.now in
    let height = c.args.height in
    let units = same_units height (omega (arith, c.requires)) in
    let first : parts_of c.number_word.result ≡ number_word number name = c.number_word.ensures.parts ∙ ap (λ (body : List ℕ). parts 11 (last_digits 4 number) false body) c.padded_name-padded.ensures.value in
    let second : parts_of c.height_word.result ≡ height_word height =
    c.height_word.ensures.parts
    ∙ ap (λ (minus : Bool). parts 83 (codes "..48") minus c.last_digits-digits.result) (c.has_minus.ensures ∙ ap has_minus units)
    ∙ ap (λ (digits : List ℕ). parts 83 (codes "..48") (has_minus height) digits) (c.last_digits-digits.ensures.value ∙ ap (last_digits 16) (c.hundredths.ensures ∙ ap hundredths units)) in
    let block : block_parts c.block_of-block.result ≡ point_block number name height =
    c.block_of-block.ensures
    ∙ ap (λ (word : Parts). block_of_two word (parts_of c.height_word.result)) first
    ∙ ap (block_of_two (number_word number name)) second in
    subst (λ (block : BlockParts). OnOk c.write_block.result (c.write_block.new.out.items ≡ c.args.text.now.items ++ block_text block)) block c.write_block.ensures.ok
