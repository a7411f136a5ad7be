use Rattle.std.proofs.Common.{◌≡◌, ◌∙◌, ap, codes}
use Rattle.std.proofs.lemmas.Result.{IfOk-weaker}
use Rattle.clap.specs.Words.{app_of, new_app}
use Rattle.clap.specs.Simple.{app_of_fields}
use Rattle.th_commands.specs.Inside.Arguments.{IsCommand}
use Rattle.th_commands.proofs.CommandLemmas.{with_arg}
use Rattle.th_commands.proofs.commands.explain_command.Goals as goal

pub returns : goal.returns
returns c =
    let named : app_of c.after_help.result ≡ new_app (codes "explain") =
    ap app_of_fields c.after_help.ensures ∙ ap app_of_fields c.about.ensures ∙ c.new.ensures.app in
    let bare : IsCommand (new_app (codes "explain")) c.after_help.result =
    (named, ap (λ f. f.has_globals) c.after_help.ensures ∙ ap (λ f. f.has_globals) c.about.ensures ∙ c.new.ensures.local) in
    let one = with_arg _ _ _ _ _ c.in_ok-arg.ensures c.benchmarks.ensures bare in
    let two = with_arg _ _ _ _ _ c.in_ok-arg-2.ensures c.weights.ensures one in
    let three = with_arg _ _ _ _ _ c.in_ok-arg-3.ensures c.limit.ensures two in
    let four = with_arg _ _ _ _ _ c.in_ok-arg-4.ensures c.blunder.ensures three in
    let five = with_arg _ _ _ _ _ c.in_ok-arg-5.ensures c.csv.ensures four in
    IfOk-weaker c.arg-6.result _ _ (λ command adds. with_arg _ _ _ _ _ adds c.books.ensures five) c.arg-6.ensures
