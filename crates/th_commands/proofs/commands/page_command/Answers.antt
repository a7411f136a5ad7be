use Rattle.std.proofs.Common.{◌≡◌, ◌∙◌, ap, codes}
use Rattle.clap.specs.Words.{app_of, new_app}
use Rattle.clap.specs.Simple.{app_of_fields}
use Rattle.th_commands.specs.Inside.Arguments.{IsCommand}
use Rattle.th_commands.proofs.CommandLemmas.{with_arg}
use Rattle.th_commands.proofs.commands.page_command.Goals as goal

pub returns : goal.returns
returns c =
    let named : app_of c.after_help.result ≡ new_app (codes "page") =
    ap app_of_fields c.after_help.ensures ∙ ap app_of_fields c.about.ensures ∙ c.new.ensures.app in
    let bare : IsCommand (new_app (codes "page")) c.after_help.result =
    (named, ap (λ f. f.has_globals) c.after_help.ensures ∙ ap (λ f. f.has_globals) c.about.ensures ∙ c.new.ensures.local) in
    c.with_options.ensures _ (with_arg _ _ _ _ _ c.in_ok-page.ensures c.title.ensures bare)
