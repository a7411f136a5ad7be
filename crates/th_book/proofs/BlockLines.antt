-- What a line that is a block leaves is what its words leave.
use Rattle.std.proofs.Common.{◌≡◌, List, ℕ, map, Option, None, sym, subst}
use Rattle.gsi_word.specs.Words.{parts_of}
use Rattle.gsi_word.specs.declared.words.Word.{Word}
use Rattle.gsi_block.specs.Blocks.{block_at}
use Rattle.th_book.specs.Lines.{ParsedLine, words_in}
use Rattle.th_book.specs.Entered.{entered_by}
use Rattle.th_book.specs.Faults.{first_applying, own_faults}
use Rattle.th_book.specs.Inside.Entries.{setup_by}
use Rattle.th_book.specs.Inside.Effects.{IsBlockLine, IsLeft, block_fault, entry_fault, line_fault}
use Rattle.th_book.specs.declared.entries.Entered.{Entered}
use Rattle.th_book.specs.declared.setups.Setup.{Setup}
use Rattle.th_book.specs.declared.faults.BookKind.{BookKind}
use Rattle.th_book.proofs.EffectLemmas.{entered_fault, entered_left}

pub fault_of_block : (setup : Option Setup) (words : List Word) (line : List ℕ) (kind : Option BookKind) → IsBlockLine words line → kind ≡ block_fault setup (map parts_of words) → kind ≡ line_fault setup (block_at line)
fault_of_block setup words line kind is own = subst (λ (parsed : ParsedLine). kind ≡ line_fault setup parsed) (sym is.1) own

-- an entry stands for a line in a setup: it has the line's fault there, and leaves what the line leaves
pub record StandsFor (setup : Option Setup) (line : List ℕ) (entry : Entered) : Type 0 where
  pub fault : entry_fault (setup_by entry setup) entry ≡ line_fault setup (block_at line)
  pub left : IsLeft setup (words_in (block_at line)) entry

-- what a block without a fault of its own words enters stands for its line
pub stands_for_line : (setup : Option Setup) (words : List Word) (line : List ℕ) (entry : Entered) → IsBlockLine words line → None ≡ first_applying (own_faults (map parts_of words)) → entry ≡ entered_by (map parts_of words) → StandsFor setup line entry
stands_for_line setup words line entry is fine enters = record {
  fault = fault_of_block setup words line _ is (sym (entered_fault (map parts_of words) setup entry (sym fine) enters));
  left = subst (λ (parsed : ParsedLine). IsLeft setup (words_in parsed) entry) (sym is.1) (entered_left (map parts_of words) setup entry (sym fine) enters);
}
