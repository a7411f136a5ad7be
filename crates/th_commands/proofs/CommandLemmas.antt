use Rattle.std.proofs.Common.{◌≡◌, ◌∙◌, ◌||◌, ap, ap₂}
use Rattle.clap.specs.Words.{AddsArg, AddsSubcommand, App, Rule, app_of, with_rule, with_subcommand}
use Rattle.clap.specs.declared.builder.arg.Arg.{Arg}
use Rattle.clap.specs.declared.builder.command.Command.{Command}
use Rattle.th_commands.specs.Inside.Arguments.{IsArgument, IsCommand}

-- a command with one more argument
pub with_arg : (old new : Command) (arg : Arg) (app : App) (rule : Rule) → AddsArg old arg new → IsArgument rule arg
    → IsCommand app old → IsCommand (with_rule app rule) new
with_arg old new arg app rule adds is_rule is_app =
    (adds.shape is_rule.1 ∙ ap₂ with_rule is_app.0 is_rule.0, adds.globals ∙ ap₂ (λ a b. a || b) is_app.1 is_rule.1)

-- a command with one more command
pub with_command : (old sub new : Command) (app below : App) → AddsSubcommand old sub new → app_of old ≡ app → IsCommand below sub
    → app_of new ≡ with_subcommand app below.top
with_command old sub new app below adds is_app is_below =
    adds.shape is_below.1 ∙ ap₂ with_subcommand is_app (ap (λ (a : App). a.top) is_below.0)
