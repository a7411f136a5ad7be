-- Heights of points that are moved are struck out.
use Rattle.std.proofs.Common.{◌≡◌, Bool, true, false, Option, Some, None, refl}
use Rattle.std.specs.Prelude.{is_some}
use Rattle.th_answer.specs.declared.answers.Moved.{Moved}
use Rattle.th_html.specs.Heights.{moved_row, row_of, staying_row}
use Rattle.th_html.specs.Laws.{MovedAreStruckOut}
use Rattle.th_review_rows.specs.declared.rows.PointRow.{PointRow}

struck : (are_moved : Bool) (row : PointRow) (moved : Option Moved) → is_some moved ≡ true
    → (own : Moved) × (moved ≡ Some own) × (row_of are_moved row moved ≡ moved_row row own)
struck are_moved row None is = absurd (let no : ⊥ = cc in no)
struck are_moved row (Some own) is = (own, refl, refl)

stays : (are_moved : Bool) (row : PointRow) (moved : Option Moved) → is_some moved ≡ false → row_of are_moved row moved ≡ staying_row are_moved row
stays are_moved row None is = refl
stays are_moved row (Some own) is = absurd (let no : ⊥ = cc in no)

pub struck_out : MovedAreStruckOut
struck_out are_moved point = record { moved = struck are_moved point.row point.moved; stays = stays are_moved point.row point.moved }
