-- What the data of a word are.
use Rattle.std.specs.Prelude.{◌≡◌, ◌==◌, ◌||◌, ℕ, true, List, length}
use Rattle.std.specs.List.{list_all}
use Rattle.gsi_word.specs.Bytes.{is_data}

-- bytes that may be the data of a word
pub record IsBody (body : List ℕ) : Type 0 where
  pub long : ((length body == 8) || (length body == 16)) ≡ true
  pub printable : list_all is_data body ≡ true
