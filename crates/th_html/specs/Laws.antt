-- Laws of the texts of a page.
use Rattle.std.specs.Prelude.{◌≡◌, ℕ, ◌==◌, ◌&&◌, Bool, true, false, List, Some, nat_lt, not}
use Rattle.std.specs.List.{list_all}
use Rattle.th_answer.specs.declared.answers.Moved.{Moved}
use Rattle.th_html.specs.Heights.{moved_row, row_of, staying_row}
use Rattle.th_html.specs.Shown.{is_moved}
use Rattle.th_html.specs.Texts.{escaped}
use Rattle.th_html.specs.declared.shown.ShownPoint.{ShownPoint}

-- a byte that makes no markup: no control byte, and none of `<`, `>`, `"` and `'`
abbrev pub is_plain : ℕ → Bool
is_plain byte = not (nat_lt byte 32) && not (byte == 127) && not (byte == 60) && not (byte == 62) && not (byte == 34) && not (byte == 39)

-- no byte of an escaped text makes markup
abbrev pub EscapedMakesNoMarkup : Type 0
EscapedMakesNoMarkup = (text : List ℕ) → list_all is_plain (escaped text) ≡ true

-- The height of a point is struck out exactly if the point is moved: then its row is that of its heights in its place, and else that of a height that stays.
pub record StruckOut (are_moved : Bool) (point : ShownPoint) : Type 0 where
  pub moved : is_moved point ≡ true → (moved : Moved) × (point.moved ≡ Some moved) × (row_of are_moved point.row point.moved ≡ moved_row point.row moved)
  pub stays : is_moved point ≡ false → row_of are_moved point.row point.moved ≡ staying_row are_moved point.row

abbrev pub MovedAreStruckOut : Type 0
MovedAreStruckOut = (are_moved : Bool) (point : ShownPoint) → StruckOut are_moved point
