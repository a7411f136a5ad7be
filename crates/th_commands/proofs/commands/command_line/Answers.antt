use Rattle.std.proofs.Common.{◌≡◌, ◌∙◌, ap, codes, true}
use Rattle.std.proofs.lemmas.Result.{IfOk-weaker}
use Rattle.clap.specs.Words.{App, app_of, new_app}
use Rattle.clap.specs.Simple.{app_of_fields}
use Rattle.th_commands.specs.Commands.{bare_program}
use Rattle.th_commands.proofs.CommandLemmas.{with_command}
use Rattle.th_commands.proofs.commands.command_line.Goals as goal

abbrev with_version : App → App
with_version app = record app { top = record app.top { has_version = true } }

abbrev with_required : App → App
with_required app = record app { top = record app.top { subcommand_required = true } }

pub returns : goal.returns
returns c =
    let version_is : app_of c.version.result ≡ with_version (new_app (codes "height_office")) =
    ap app_of_fields c.version.ensures ∙ ap with_version (ap app_of_fields c.about.ensures ∙ c.new.ensures.app) in
    let bare : app_of c.subcommand_required.result ≡ bare_program =
    ap app_of_fields c.subcommand_required.ensures
    ∙ ap with_required (ap app_of_fields c.after_help.ensures ∙ ap app_of_fields c.override_usage.ensures ∙ version_is) in
    let one = with_command _ _ _ _ _ c.in_ok-subcommand.ensures bare c.in_ok-list_command.ensures in
    let two = with_command _ _ _ _ _ c.in_ok-subcommand-2.ensures one c.in_ok-adjust_command.ensures in
    let three = with_command _ _ _ _ _ c.in_ok-subcommand-3.ensures two c.in_ok-review_command.ensures in
    let four = with_command _ _ _ _ _ c.in_ok-subcommand-4.ensures three c.in_ok-explain_command.ensures in
    let five = with_command _ _ _ _ _ c.in_ok-subcommand-5.ensures four c.in_ok-page_command.ensures in
    let six = with_command _ _ _ _ _ c.in_ok-subcommand-6.ensures five c.in_ok-check_command.ensures in
    let seven = with_command _ _ _ _ _ c.in_ok-subcommand-7.ensures six c.in_ok-book_command.ensures in
    IfOk-weaker c.subcommand-8.result _ _ (λ command adds. with_command _ _ _ _ _ adds seven c.in_ok-mend_command.ensures) c.subcommand-8.ensures
