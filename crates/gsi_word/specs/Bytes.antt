use Rattle.std.specs.Prelude.{ℕ, ◌==◌, ◌&&◌, ◌||◌, Bool, nat_le}
use Rattle.th_units.specs.Lengths.{is_digit}

-- a dot or a digit
abbrev pub is_info : ℕ → Bool
is_info byte = (byte == 46) || is_digit byte

-- a plus or a minus
abbrev pub is_sign : ℕ → Bool
is_sign byte = (byte == 43) || (byte == 45)

-- printable ASCII, from the space to the tilde
abbrev pub is_data : ℕ → Bool
is_data byte = nat_le 32 byte && nat_le byte 126

abbrev pub is_zero : ℕ → Bool
is_zero byte = byte == 48

abbrev pub is_space : ℕ → Bool
is_space byte = byte == 32

-- a zero or a space: what a name's data may begin with, but the name itself does not
abbrev pub is_padding : ℕ → Bool
is_padding byte = is_zero byte || is_space byte
