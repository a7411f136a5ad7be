use Rattle.th_network.proofs.Slackness.{slackness}
use Rattle.th_network.proofs.laws.circulation_shows_least.Goals as goal

pub returns : goal.returns
returns c = slackness
