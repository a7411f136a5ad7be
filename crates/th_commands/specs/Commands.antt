-- The command line, as `clap` describes one.
use Rattle.std.specs.Prelude.{true, pos, Some, codes}
use Rattle.clap.specs.Lexer.{usize_max}
use Rattle.clap.specs.Words.{App, Rule, Text, new_app, new_rule, with_rule, with_subcommand}
use Rattle.clap.specs.declared.builder.action.ArgAction.TheVariants.{Append, SetTrue}
use Rattle.clap.specs.declared.builder.value_parser.ValueParser.TheVariants.{Signed}
use Rattle.th_commands.specs.Limits.{max_blunder}

-- the argument `BOOK`, and the argument `BOOK...`
abbrev pub book_rule : Rule
book_rule = record (new_rule (codes "book")) {
  required = true;
  value_names = 1;
}

abbrev pub books_rule : Rule
books_rule = record book_rule {
  action = Some Append;
  range = Some (record { start_inclusive = 1; end_inclusive = usize_max });
}

-- the file of `book`: a table, or a book with heights
abbrev pub table_rule : Rule
table_rule = record (new_rule (codes "table")) {
  required = true;
  value_names = 1;
}

-- the table of `mend`
abbrev pub changes_rule : Rule
changes_rule = record (new_rule (codes "changes")) {
  required = true;
  value_names = 1;
}

-- an option `--NAME VALUE`, and one that is required
abbrev pub option_rule : Text → Rule
option_rule name = record (new_rule name) {
  long = Some name;
  value_names = 1;
}

abbrev pub needed_rule : Text → Rule
needed_rule name = record (option_rule name) { required = true }

-- `--blunder MICROMETRES`, a whole number from 0 to `max_blunder`
abbrev pub blunder_rule : Rule
blunder_rule = record (option_rule (codes "blunder")) { parser = Some (Signed (pos 0) (pos max_blunder)) }

-- an option that takes no value
abbrev pub flag_rule : Text → Rule
flag_rule name = record (new_rule name) {
  long = Some name;
  action = Some SetTrue;
}

-- `list BOOK`
abbrev pub list_command : App
list_command = with_rule (new_app (codes "list")) book_rule

-- a command with the options of `adjust`, `review` and `page`: `--benchmarks FILE [--weights FILE] [--limit LENGTH | --blunder MICROMETRES] --out PREFIX BOOK...`
abbrev pub with_options : App → App
with_options app =
    with_rule (with_rule (with_rule (with_rule (with_rule (with_rule app (needed_rule (codes "benchmarks")))
    (option_rule (codes "weights"))) (option_rule (codes "limit"))) blunder_rule) (needed_rule (codes "out"))) books_rule

-- `adjust` and `review`
abbrev pub adjust_command : App
adjust_command = with_options (new_app (codes "adjust"))

abbrev pub review_command : App
review_command = with_options (new_app (codes "review"))

-- `page`, with `[--title TEXT]` and these options
abbrev pub page_command : App
page_command = with_options (with_rule (new_app (codes "page")) (option_rule (codes "title")))

-- `explain --benchmarks FILE [--weights FILE] [--limit LENGTH | --blunder MICROMETRES] [--csv] BOOK...`
abbrev pub explain_command : App
explain_command =
    with_rule (with_rule (with_rule (with_rule (with_rule (with_rule (new_app (codes "explain")) (needed_rule (codes "benchmarks")))
    (option_rule (codes "weights"))) (option_rule (codes "limit"))) blunder_rule) (flag_rule (codes "csv"))) books_rule

-- `check --benchmarks FILE [--weights FILE] --certificate FILE [--inputs] BOOK...`
abbrev pub check_command : App
check_command =
    with_rule (with_rule (with_rule (with_rule (with_rule (new_app (codes "check")) (needed_rule (codes "benchmarks")))
    (option_rule (codes "weights"))) (needed_rule (codes "certificate"))) (flag_rule (codes "inputs"))) books_rule

-- `book TABLE`, and `book --heights BOOK`
abbrev pub book_command : App
book_command = with_rule (with_rule (new_app (codes "book")) (flag_rule (codes "heights"))) table_rule

-- `mend CHANGES BOOK`
abbrev pub mend_command : App
mend_command = with_rule (with_rule (new_app (codes "mend")) changes_rule) book_rule

-- the program, with a version and a required command
abbrev pub bare_program : App
bare_program =
    let bare = new_app (codes "height_office") in
    record bare { top = record bare.top { has_version = true; subcommand_required = true } }

-- the command line, as `clap` describes one: `list`, `adjust`, `review`, `explain`, `page`, `check`, `book` or `mend` is required
abbrev pub command_line : App
command_line =
    with_subcommand (with_subcommand (with_subcommand (with_subcommand (with_subcommand (with_subcommand (with_subcommand (with_subcommand bare_program list_command.top)
    adjust_command.top) review_command.top) explain_command.top) page_command.top) check_command.top) book_command.top) mend_command.top
