use Rattle.gsi_word.proofs.NameLemmas.{IsPaddedName-of}
use Rattle.gsi_word.proofs.names.Name.of.Goals as goal

pub invariant_of-result : goal.invariant_of-result
invariant_of-result c = rw c.copy_from_slice.ensures.after (IsPaddedName-of c.args.name.now c.requires)
