-- What a title must be.
use Rattle.std.specs.Prelude.{◌&&◌, ◌==◌, ℕ, Bool, length, nat_le, nat_lt, not}
use Rattle.std.specs.List.{count_by, list_all}
use Rattle.clap.specs.Words.{Text}
use Rattle.th_commands.specs.Limits.{max_title}

-- a byte begins a character of UTF-8
abbrev pub begins_character : ℕ → Bool
begins_character byte = not (nat_le 128 byte && nat_lt byte 192)

-- how many characters a text has
abbrev pub characters : Text → ℕ
characters text = count_by begins_character text

-- a byte is no control character of ASCII, so it ends no line
abbrev pub is_in_line : ℕ → Bool
is_in_line byte = nat_le 32 byte && not (byte == 127)

-- a title is one line of 1 to `max_title` characters
abbrev pub is_title : Text → Bool
is_title text = nat_lt 0 (length text) && (nat_le (characters text) max_title && list_all is_in_line text)
