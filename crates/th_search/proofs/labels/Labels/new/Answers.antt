use Rattle.std.proofs.Common.{ℕ, ◌≡◌, length, pos, None, arith}
use Rattle.std.proofs.lemmas.Grind.{common_steps}
use Rattle.th_search.specs.Potentials.{value_at}
use Rattle.th_search.specs.Inside.Entries.{entry_at}
use Rattle.th_search.proofs.LowerLemmas.{labels_first}
use Rattle.th_search.proofs.labels.Labels.new.Goals as goal

pub returns-clause-labels : goal.returns-clause-labels
returns-clause-labels c arcs =
    let size : length c.in_ok-entries.entries.items ≡ length c.in_ok-values.values.items = grind (arith, common_steps) in
    let zeros : (v : ℕ) → value_at c.in_ok-values.values.items v ≡ pos 0 = λ v. grind (arith, common_steps) in
    let none : (v : ℕ) → entry_at c.in_ok-entries.entries.items v ≡ None = λ v. grind (arith, common_steps) in
    labels_first arcs _ _ size zeros none
