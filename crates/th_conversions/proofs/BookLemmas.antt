-- The text of a book as it is printed row by row.
use Rattle.std.proofs.Common.{◌≡◌, ◌+◌, ℕ, true, false, List, ◌∷◌, ◌++◌, Option, Some, if◌then◌else◌, sym, ap, ◌∙◌, append_assoc}
use Rattle.std.specs.List.{flat_map}
use Rattle.gsi_block.specs.Blocks.{BlockParts}
use Rattle.gsi_block.specs.Writing.{block_text}
use Rattle.th_conversions.specs.Books.{blocks_from, setup_block, sight_block, stands_at}
use Rattle.th_conversions.specs.declared.rows.Row.{Row}

-- the text of some blocks
text_of : List BlockParts → List ℕ
text_of blocks = flat_map block_text blocks

-- a row whose station is that of the running setup: its sight is printed
pub stays : (running running' : Option (List ℕ)) (number number' : ℕ) (row : Row) (rows left : List Row) (text text' text'' all : List ℕ)
    → left ≡ row ∷ rows → stands_at running row.from ≡ true → running' ≡ running → number' ≡ number → text' ≡ text → text'' ≡ text' ++ block_text (sight_block number' row)
    → text ++ flat_map block_text (blocks_from running number left) ≡ all
    → text'' ++ flat_map block_text (blocks_from running' (number' + 1) rows) ≡ all
unfolding text_of
stays running running' number number' row rows left text text' text'' all first at runs counts same written so_far =
    let sight = block_text (sight_block number row) in
    let printed : text'' ≡ text ++ sight = written ∙ ap (λ front. front ++ block_text (sight_block number' row)) same ∙ ap (λ n. text ++ block_text (sight_block n row)) counts in
    ap (λ front. front ++ text_of (blocks_from running' (number' + 1) rows)) printed
    ∙ ap (λ runs. (text ++ sight) ++ text_of (blocks_from runs (number' + 1) rows)) runs
    ∙ ap (λ n. (text ++ sight) ++ text_of (blocks_from running (n + 1) rows)) counts
    ∙ append_assoc text sight (text_of (blocks_from running (number + 1) rows))
    ∙ ap (λ here. text ++ text_of (if here then sight_block number row ∷ blocks_from running (number + 1) rows else setup_block number row.from ∷ sight_block (number + 1) row ∷ blocks_from (Some row.from) (number + 2) rows)) (sym at)
    ∙ ap (λ left. text ++ text_of (blocks_from running number left)) (sym first)
    ∙ so_far

-- a row with another station: its setup is printed, and then its sight
pub begins : (running running' : Option (List ℕ)) (number number' next : ℕ) (row : Row) (rows left : List Row) (text text' text'' all : List ℕ)
    → left ≡ row ∷ rows → stands_at running row.from ≡ false → running' ≡ Some row.from → number' ≡ number + 1 → next ≡ number + 2
    → text' ≡ text ++ block_text (setup_block number row.from) → text'' ≡ text' ++ block_text (sight_block number' row)
    → text ++ flat_map block_text (blocks_from running number left) ≡ all
    → text'' ++ flat_map block_text (blocks_from running' next rows) ≡ all
unfolding text_of
begins running running' number number' next row rows left text text' text'' all first at runs counts nexts begun written so_far =
    let setup = block_text (setup_block number row.from) in
    let sight = block_text (sight_block (number + 1) row) in
    let later = text_of (blocks_from (Some row.from) (number + 2) rows) in
    let printed : text'' ≡ (text ++ setup) ++ sight = written ∙ ap (λ front. front ++ block_text (sight_block number' row)) begun ∙ ap (λ n. (text ++ setup) ++ block_text (sight_block n row)) counts in
    ap (λ front. front ++ text_of (blocks_from running' next rows)) printed
    ∙ ap (λ runs. ((text ++ setup) ++ sight) ++ text_of (blocks_from runs next rows)) runs
    ∙ ap (λ n. ((text ++ setup) ++ sight) ++ text_of (blocks_from (Some row.from) n rows)) nexts
    ∙ append_assoc (text ++ setup) sight later
    ∙ append_assoc text setup (sight ++ later)
    ∙ ap (λ here. text ++ text_of (if here then sight_block number row ∷ blocks_from running (number + 1) rows else setup_block number row.from ∷ sight_block (number + 1) row ∷ blocks_from (Some row.from) (number + 2) rows)) (sym at)
    ∙ ap (λ left. text ++ text_of (blocks_from running number left)) (sym first)
    ∙ so_far
