-- What a prefix of the outputs' names must be.
use Rattle.std.specs.Prelude.{◌&&◌, [], Bool, codes, not}
use Rattle.std.specs.Str.{bytes_eq}
use Rattle.clap.specs.Words.{Text}
use Rattle.th_columns.specs.FileNames.{last_part}

-- a prefix names files: its last part is not empty, nor `.`, nor `..`
abbrev pub names_files : Text → Bool
names_files prefix =
    let part = last_part prefix in
    not (bytes_eq part []) && not (bytes_eq part (codes ".")) && not (bytes_eq part (codes ".."))
