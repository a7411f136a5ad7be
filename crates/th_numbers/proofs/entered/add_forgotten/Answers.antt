use Rattle.std.proofs.Common.{◌++◌, List, ap, ◌∙◌}
use Rattle.th_numbers.specs.Lists.{forgotten_at, is_used}
use Rattle.th_numbers.specs.declared.candidates.Candidate.{Candidate}
use Rattle.th_numbers.proofs.KindLemmas.{not_forgotten, same_made}
use Rattle.th_numbers.proofs.entered.add_forgotten.Goals as goal

pub returns : goal.returns
returns c =
    let observations = c.args.runs.now.observations.now in
    let kind = c.args.kind in
    let o = c.args.o.now in
    c.in_ok-add_among.ensures
    ∙ ap (λ (rest : List Candidate). c.args.candidates.now.items ++ rest) (same_made (is_used kind o) (forgotten_at observations kind o) (not_forgotten observations kind o) c.around-own.result.now c.args.kinds.now.entries.now c.around-own.ensures)
