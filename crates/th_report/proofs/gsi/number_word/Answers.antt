use Rattle.std.proofs.Common.{false, List, ℕ, subst, sym}
use Rattle.gsi_word.specs.Words.{Spells, parts, spelling_of}
use Rattle.gsi_word.specs.declared.words.Width.TheVariants.{Sixteen}
use Rattle.th_report.proofs.WordLemmas.{spelled_number}
use Rattle.th_report.proofs.gsi.number_word.Goals as goal

pub word_of-requires : goal.word_of-requires
word_of-requires c =
    let name = c.args.name.now in
    subst (λ (info : List ℕ). Spells (parts 11 info false name) (spelling_of (parts 11 info false name)) Sixteen) (sym c.last_digits.ensures.value) (spelled_number c.args.number name c.told-name c.requires)
