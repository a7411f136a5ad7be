-- Words that are spelled in one width are a block of that width.
use Rattle.std.proofs.Common.{◌≡◌, ◌<◌, ◌≤◌, List, [], ◌∷◌, length, refl, subst, ap, ◌∙◌, arith}
use Rattle.gsi_word.specs.Words.{Parts, data_len}
use Rattle.gsi_word.specs.declared.words.Width.{Width}
use Rattle.gsi_word.specs.declared.words.Width.TheVariants.{Eight, Sixteen}
use Rattle.gsi_block.specs.Blocks.{BlockParts, IsBlockOf}
use Rattle.gsi_block.specs.Spelled.{AreSpelled}
use Rattle.gsi_block.specs.Writing.{block_line}
use Rattle.gsi_block.proofs.WrittenBlocks.{AreSpelled-row, IsBlock-block_line, WordHasOneSpelling}

abbrev with_words : Width → List Parts → BlockParts
with_words width words = record { width = width; words = words }

-- 1 to 64 of them are a block
pub block_there : (width : Width) (words : List Parts) → 0 < length words → length words ≤ 64 → AreSpelled width words → IsBlockOf words (record { width = width; words = words })
block_there width words some few are =
    let block : BlockParts = record { width = width; words = words } in
    (refl, (block_line block, IsBlock-block_line block some few are))

same_data : (one other : Width) → data_len one ≡ data_len other → one ≡ other
same_data Eight Eight e = refl
same_data Eight Sixteen e = absurd (omega (arith, e))
same_data Sixteen Eight e = absurd (omega (arith, e))
same_data Sixteen Sixteen e = refl

-- words have one width
same_width : (one other : Width) (words : List Parts) → 0 < length words → AreSpelled one words → AreSpelled other words → one ≡ other
same_width one other [] some first second = absurd (omega (arith, some))
same_width one other (word ∷ words) some first second = same_data one other (omega (arith, first.0.length, second.0.length))

-- and no other block has them
pub block_only : WordHasOneSpelling → (width : Width) (words : List Parts) (block : BlockParts) → 0 < length words → AreSpelled width words → IsBlockOf words block
    → block ≡ record { width = width; words = words }
block_only one width words block some are (same, (line, is)) =
    let own = subst (AreSpelled block.width) same (AreSpelled-row one block.width block.words is.row.0 is.row.2) in
    ap (with_words block.width) same ∙ ap (λ (w : Width). with_words w words) (same_width block.width width words some own are)
