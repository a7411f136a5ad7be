use Rattle.std.proofs.Common.{◌∙◌, ℕ, ap}
use Rattle.std.specs.Prelude.{min}
use Rattle.th_commands.proofs.StreamLemmas.{streams_are}
use Rattle.th_commands.proofs.streams.streams_in.Goals as goal

pub returns-in-Some-clause-count : goal.returns-in-Some-clause-count
returns-in-Some-clause-count c =
    c.min.ensures ∙ ap (λ (count : ℕ). min count 2) c.streams_among.ensures ∙ streams_are c.in-Some.names.now _ (rw c.in-Some.is at c.values_of.ensures)
