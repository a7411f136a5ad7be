use Rattle.th_notes.proofs.PartLaws.{apart_in, joined_in}
use Rattle.th_notes.proofs.laws.parts_are_what_observations_join.Goals as goal

pub returns-clause-joined : goal.returns-clause-joined
returns-clause-joined c = joined_in

pub returns-clause-apart : goal.returns-clause-apart
returns-clause-apart c = apart_in
