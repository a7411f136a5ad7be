use Rattle.th_entries.proofs.SeenLemmas.{seen-compared, seen-past}
use Rattle.th_entries.proofs.seen.SeenNames.take.Goals as goal

pub returns-in_ok-learn : goal.returns-in_ok-learn
returns-in_ok-learn c = λ before own.
    seen-compared before _ c.args.self.now c.learn.new.self own c.if-self-lt-MAX_MENTIONS.true c.in_ok-learn.ensures.taken
    (λ known. c.in_ok-learn.ensures.known before (record { found = known.found; spelled = known.spelled }))

pub returns-else-self-lt-MAX_MENTIONS : goal.returns-else-self-lt-MAX_MENTIONS
returns-else-self-lt-MAX_MENTIONS c = λ before own. seen-past before _ c.args.self.now own c.if-self-lt-MAX_MENTIONS.false
