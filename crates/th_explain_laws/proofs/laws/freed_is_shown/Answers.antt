use Rattle.th_changes.proofs.Bounds.{shown_by_value, shown_each}
use Rattle.th_explain_laws.proofs.WrongLemmas.{explains_nothing}
use Rattle.th_explain_laws.proofs.laws.freed_is_shown.Goals as goal

pub returns : goal.returns
returns c = record { value = shown_by_value; each = shown_each; nothing = explains_nothing }
