use Rattle.std.specs.Prelude.{List, map}
use Rattle.clap.specs.Words.{Text}
use Rattle.th_commands.specs.declared.books.Books.{Books}

-- the names of the books, in order
abbrev pub names_in : Books → List Text
names_in books = map (λ name. name.now) books.names.items
