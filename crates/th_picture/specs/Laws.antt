-- Laws of the picture.
use Rattle.std.specs.Prelude.{◌≡◌, ◌≤◌, ◌<◌, ◌+◌, ◌*◌, ◌/◌, ℕ, true, All, List, count_by}
use Rattle.th_picture.specs.Curves.{bent, flatness}
use Rattle.th_picture.specs.Groups.{groups, is_in}
use Rattle.th_picture.specs.Names.{depth_of, is_written, turn_of}
use Rattle.th_picture.specs.Scales.{greatest_of, high_of, least_of, raised, scale_of, x_of, y_of}
use Rattle.th_picture.specs.declared.drawn.DrawnPoint.{DrawnPoint}
use Rattle.th_picture.specs.declared.drawn.DrawnSight.{DrawnSight}
use Rattle.th_picture.specs.declared.names.Turn.TheVariants.{Level}
use Rattle.th_picture.specs.declared.scales.Scale.{Scale}

-- each sight is in exactly one of the groups
abbrev pub EachSightOnce : Type 0
EachSightOnce = (sight : DrawnSight) → count_by (λ group. is_in group sight) groups ≡ 1

-- a raised height is between the lowest and the highest line of a scale
pub record IsOnScale (scale : Scale) (at : ℕ) : Type 0 where
  pub from : scale.low ≤ at
  pub upto : at < high_of scale

-- heights have their places on the scale
pub record IsInOrder : Type 0 where
  -- the heights at which points are drawn are on it
  pub covers : (points : List DrawnPoint) → All (λ point. IsOnScale (scale_of points) (raised point.height)) points
  -- its ten lines reach its highest one, if the heights are less than 4,000,000 km apart
  pub reaches : (points : List DrawnPoint) → greatest_of points < least_of points + 400000000000000000
      → high_of (scale_of points) ≤ (scale_of points).low + 9 * (scale_of points).step
  -- what is higher is not drawn lower
  pub higher : (scale : Scale) (at other : ℕ) → at ≤ other → y_of scale other ≤ y_of scale at
  -- heights on the scale are drawn between its lowest and its highest line, and what it does not reach beyond them
  pub on : (scale : Scale) (at : ℕ) → IsOnScale scale at → 400 ≤ y_of scale at
  pub upto : (scale : Scale) (at : ℕ) → IsOnScale scale at → y_of scale at ≤ 3400
  pub over : (scale : Scale) (at : ℕ) → high_of scale ≤ at → y_of scale at ≤ 400
  pub under : (scale : Scale) (at : ℕ) → scale.low < high_of scale → at ≤ scale.low → 3400 ≤ y_of scale at

-- every place is between the edges of the frame, whose names take 160 at least under 3560
pub record IsInsideFrame : Type 0 where
  pub right : (k n : ℕ) → 900 ≤ x_of k n
  pub left : (k n : ℕ) → x_of k n ≤ 7900
  pub below : (scale : Scale) (at : ℕ) → 300 ≤ y_of scale at
  pub above : (scale : Scale) (at : ℕ) → y_of scale at ≤ 3500
  pub names : (count longest : ℕ) → 160 ≤ depth_of (turn_of count longest) longest
  -- where curves between such places bend
  pub bends_below : (number y x u : ℕ) → 300 ≤ y → 900 ≤ x → x ≤ 7900 → 900 ≤ u → u ≤ 7900 → 80 ≤ bent y x u (flatness number)
  pub bends_above : (number y x u : ℕ) → y ≤ 3500 → 900 ≤ x → x ≤ 7900 → 900 ≤ u → u ≤ 7900 → bent y x u (flatness number) ≤ 3720

-- of two points whose names are written, the later one is far enough to the right
pub record NamesDoNotTouch : Type 0 where
  -- where fewer than twice so many are written: 116 for the names, room for a line of the largest letters, and 875 for places in the strip
  pub upright : (many n k other : ℕ) → 1 ≤ many → k < other → other < n → is_written n many k ≡ true → is_written n many other ≡ true
      → x_of k n + 3500 / many ≤ x_of other n
  -- level names have as much room as the longest takes: 90 for each byte
  pub level : (n k other longest : ℕ) → k < other → other < n → turn_of n longest ≡ Level → x_of k n + 90 * longest ≤ x_of other n
