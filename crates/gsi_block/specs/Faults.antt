use Rattle.std.specs.Prelude.{ℕ, List, ◌++◌, codes}
use Rattle.std.specs.Fmt.{decimal}
use Rattle.gsi_word.specs.Words.{fault_text as word_fault_text}
use Rattle.gsi_block.specs.declared.faults.BlockFault.{BlockFault}
use Rattle.gsi_block.specs.declared.faults.BlockFault.TheVariants.{BadWord, TooManyWords, LineTooLong, BadSeparator}

-- the text of a fault, or its beginning, which the number of a word follows
abbrev pub fault_beginning : BlockFault → List ℕ
fault_beginning (BadWord k fault) = codes "word "
fault_beginning TooManyWords = codes "too many words"
fault_beginning LineTooLong = codes "line too long"
fault_beginning (BadSeparator k) = codes "no space after word "

-- the text of a fault; words count from 1
abbrev pub fault_text : BlockFault → List ℕ
fault_text (BadWord k fault) = fault_beginning (BadWord k fault) ++ decimal k ++ codes ": " ++ word_fault_text fault
fault_text (BadSeparator k) = fault_beginning (BadSeparator k) ++ decimal k
fault_text other = fault_beginning other
