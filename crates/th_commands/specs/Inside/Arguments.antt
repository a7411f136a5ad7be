-- An argument and a command as functions promise them.
use Rattle.std.specs.Prelude.{◌≡◌, false}
use Rattle.clap.specs.Words.{App, Rule, app_of, rule_of}
use Rattle.clap.specs.declared.builder.arg.Arg.{Arg}
use Rattle.clap.specs.declared.builder.command.Command.{Command}
use Rattle.clap.specs.declared.builder.command.Command.TheViews.{out-Command}

-- the argument has this rule, and belongs to its command alone
abbrev pub IsArgument : Rule → Arg → Type 0
IsArgument rule argument = (rule_of argument ≡ rule) × (argument.global ≡ false)

-- the command is this one, and passes no argument on to subcommands
abbrev pub IsCommand : App → Command → Type 0
IsCommand app command = (app_of command ≡ app) × ((out-Command command).has_globals ≡ false)
