use Rattle.std.specs.Prelude.{◌≡◌, ℕ, ◌-◌, ◌≤◌, List, ◌++◌, length, Some, take, replicate}
use Rattle.gsi_word.specs.Names.{name_of}
use Rattle.gsi_word.specs.declared.limits.TheConstants.{MAX_NAME}

-- a name followed by zero bytes, sixteen bytes in all
abbrev pub padded : List ℕ → List ℕ
padded name = name ++ replicate (MAX_NAME - length name) 0

-- sixteen bytes: the first `len` are a name in reduced form, the rest are zero bytes
pub record IsPaddedName (bytes : List ℕ) (len : ℕ) : Type 0 where
  pub within : len ≤ MAX_NAME
  pub length : length (take len bytes) ≡ len
  pub padded : bytes ≡ padded (take len bytes)
  pub reduced : name_of (take len bytes) ≡ Some (take len bytes)
