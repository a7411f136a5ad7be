use Rattle.std.proofs.Common.{arith}
use Rattle.th_mend.specs.Inside.Bodies.{IsBody}
use Rattle.th_mend.proofs.new_words.added_in.Goals as goal

pub invariant_of-result : goal.invariant_of-result
invariant_of-result c =
    let is : IsBody c.in_ok-body.body.items = c.in_ok-body.ensures.fits in
    (c.requires, (omega arith, (c.info_of.ensures.allowed, (is.long, is.printable))))
