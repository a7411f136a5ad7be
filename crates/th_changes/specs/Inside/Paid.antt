-- What shows that lines are nowhere below a cost.
use Rattle.std.specs.Prelude.{◌≡◌, ℕ, ◌+◌, ◌*◌, ◌<◌, ◌≤◌, ℤ, pos, ◌+ℤ◌, ◌*ℤ◌, ◌≤ℤ◌, unsigned_abs}
use Rattle.th_changes.specs.declared.lines.Line.{Line}

-- so many units of two lines are level together, and what they lose is at most what the cost is above another one for each
pub record ArePaid (line : Line) (own : ℕ) (other : Line) (others cost least : ℕ) : Type 0 where
  pub some : 0 < own + others
  pub level : pos own *ℤ line.net +ℤ pos others *ℤ other.net ≡ pos 0
  pub room : ℕ
  pub above : cost ≡ least + room
  pub paid : (own * unsigned_abs line.lost + others * unsigned_abs other.lost) ≤ (own + others) * room

-- where the number grows by more than the limit, the line rises by what is lost
pub record IsPaidAbove (limit : ℕ) (line : Line) : Type 0 where
  pub rises : pos 0 ≤ℤ line.net
  pub paid : line.lost ≤ℤ pos (limit * unsigned_abs line.net)

-- where it shrinks by more
pub record IsPaidBelow (limit : ℕ) (line : Line) : Type 0 where
  pub falls : line.net ≤ℤ pos 0
  pub paid : line.lost ≤ℤ pos (limit * unsigned_abs line.net)
