use Rattle.std.proofs.Common.{subst, sym}
use Rattle.th_mend.proofs.BodyLemmas.{spelled_with}
use Rattle.th_mend.specs.Inside.Bodies.{IsBody}
use Rattle.th_mend.proofs.new_words.NewWord.word.Goals as goal

pub unreachable-requires : goal.unreachable-requires
unreachable-requires c =
    let own = c.self.invariant in
    let is : IsBody c.self.inside.body.items = record { long = own.1.1.1.0; printable = own.1.1.1.1 } in
    c.in-None.ensures (spelled_with _ _ _ _ own.0 own.1.0 own.1.1.0 (subst IsBody (sym c.as_slice.ensures.value) is))
