use Rattle.th_certificate.proofs.StatementLemmas.{all_follow}
use Rattle.th_certificate.proofs.drafts.Draft.statement_of.Goals as goal

pub returns-clause-follows : goal.returns-clause-follows
returns-clause-follows c = all_follow c.args.self.now c.in_ok-kind.kind.now c.in_ok-kind.key.now c.in_ok-kind.number.now c.said.result c.said.ensures
