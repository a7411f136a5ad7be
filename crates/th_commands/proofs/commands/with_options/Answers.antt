use Rattle.std.proofs.lemmas.Result.{IfOk-weaker}
use Rattle.th_commands.proofs.CommandLemmas.{with_arg}
use Rattle.th_commands.proofs.commands.with_options.Goals as goal

pub returns : goal.returns
returns c = λ app bare.
    let one = with_arg _ _ _ _ _ c.in_ok-arg.ensures c.benchmarks.ensures bare in
    let two = with_arg _ _ _ _ _ c.in_ok-arg-2.ensures c.weights.ensures one in
    let three = with_arg _ _ _ _ _ c.in_ok-arg-3.ensures c.limit.ensures two in
    let four = with_arg _ _ _ _ _ c.in_ok-arg-4.ensures c.blunder.ensures three in
    let five = with_arg _ _ _ _ _ c.in_ok-arg-5.ensures c.out.ensures four in
    IfOk-weaker c.arg-6.result _ _ (λ command adds. with_arg _ _ _ _ _ adds c.books.ensures five) c.arg-6.ensures
