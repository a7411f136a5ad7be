use Rattle.th_explain_laws.proofs.TieLemmas.{tied_back, tied_freed, tied_proposed, lengths_tied}
use Rattle.th_explain_laws.proofs.laws.ties_are_of_the_network.Goals as goal

pub returns : goal.returns
returns c = record { back = tied_back; freed = tied_freed; proposed = tied_proposed; lengths = lengths_tied }
