-- The row of a number that alone is wrong.
use Rattle.std.specs.Prelude.{◌≡◌, ℤ, ◌+ℤ◌, neg_ℤ, List, Some, Contains}
use Rattle.th_explain_texts.specs.declared.rows.Row.{Row}

-- a row that explains all: its one proposed value is the given one without what it is wrong by
pub record IsMended (given wrong : ℤ) (rows : List Row) : Type 0 where
  pub row : Row
  pub printed : Contains rows row
  pub left : row.left ≡ 0
  pub values : row.values ≡ Some (record { given = given; low = given +ℤ neg_ℤ wrong; high = given +ℤ neg_ℤ wrong })
