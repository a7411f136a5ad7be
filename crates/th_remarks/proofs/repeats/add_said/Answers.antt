use Rattle.std.proofs.Common.{◌≡◌, ◌&&◌, ◌||◌, ◌∙◌, Bool, true, ap, sym, arith}
use Rattle.std.proofs.lemmas.Bool.Decides.{nat_tests}
use Rattle.th_remarks.specs.Inside.Said.{has_said, said}
use Rattle.th_remarks.specs.Repeats.{is_in, says_same}
use Rattle.th_remarks.proofs.SaidLemmas.{one_more_said}
use Rattle.th_remarks.proofs.repeats.add_said.Goals as goal

pub returns : goal.returns
returns c = λ own.
    let inside : is_in c.args.book c.args.o.now ≡ true = grind (arith, nat_tests, c.if-o-book.false) in
    one_more_said c.args.all.now c.insert.new.self c.said.result c.args.o.now own c.in_ok-insert.ensures.updates c.said.ensures
    ∙ ap (λ (is : Bool). has_said c.args.all.now (said own) || (is && says_same c.args.o.now own)) (sym inside)
