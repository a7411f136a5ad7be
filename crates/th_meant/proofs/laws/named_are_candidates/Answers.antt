use Rattle.th_meant.proofs.LawLemmas.{named_candidate}
use Rattle.th_meant.proofs.laws.named_are_candidates.Goals as goal

pub returns : goal.returns
returns c = named_candidate
