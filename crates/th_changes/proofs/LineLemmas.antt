-- What two lines show of what a survey costs.
use Rattle.std.proofs.Common.{◌≡◌, ℕ, ◌+◌, ◌*◌, ◌<◌, ◌≤◌, ◌⊎◌, inl, inr, ℤ, pos, negsuc, ◌+ℤ◌, ◌-ℤ◌, ◌*ℤ◌, ◌≤ℤ◌, unsigned_abs, ap, ◌∙◌, arith, mul-le-mul_right}
use Rattle.std.proofs.lemmas.Int.{ints, unsigned_abs-mul}
use Rattle.std.proofs.Math.IntN.{*ℤ_comm, *ℤ-zero}
use Rattle.th_network.specs.Networks.{Survey}
use Rattle.th_network.proofs.Products.{times-plus, times-minus, times_swap, times-le}
use Rattle.th_changes.specs.declared.lines.Line.{Line}
use Rattle.th_changes.specs.declared.numbers.Number.{Number}
use Rattle.th_changes.specs.Freed.{cost_of}
use Rattle.th_changes.specs.Inside.Paid.{ArePaid, IsPaidAbove, IsPaidBelow}
use Rattle.th_changes.specs.Lines.{IsCostlyBeyond, IsLine, LeavesAtLeast}
use Rattle.th_changes.specs.Numbers.{changed}
use Rattle.th_changes.proofs.Bounds.{high_product}
use Rattle.th_changes.proofs.SlopeLemmas.{both_above, both_below}

-- what one line says, times a share
shared : (w room : ℕ) (g l x n : ℤ) → pos 0 ≤ℤ (g -ℤ pos room +ℤ l -ℤ x *ℤ n) → (pos w *ℤ pos room) ≤ℤ (pos w *ℤ g +ℤ pos w *ℤ l -ℤ x *ℤ (pos w *ℤ n))
shared w room g l x n over =
    let product = both_above (pos w) (g -ℤ pos room +ℤ l -ℤ x *ℤ n) (omega (arith, ints)) over in
    let a = times-minus (pos w) (g -ℤ pos room +ℤ l) (x *ℤ n) in
    let b = times-plus (pos w) (g -ℤ pos room) l in
    let c = times-minus (pos w) g (pos room) in
    let d = times_swap (pos w) x n in
    omega (arith, ints)

-- a number that is not below zero, times a share
gap_over : (s : ℕ) (g : ℤ) → 0 < s → pos 0 ≤ℤ (pos s *ℤ g) → pos 0 ≤ℤ g
gap_over s (pos n) some over = omega (arith, ints)
gap_over s (negsuc n) some over =
    let product = high_product (pos s) (pos 0 -ℤ negsuc n) (omega (arith, ints)) (omega (arith, ints)) in
    let a = times-minus (pos s) (pos 0) (negsuc n) in
    let b = *ℤ-zero (pos s) in
    absurd (omega (arith, ints))

-- a sum of shares, times
sum_times : (u v : ℕ) (z : ℤ) → pos (u + v) *ℤ z ≡ pos u *ℤ z +ℤ pos v *ℤ z
sum_times u v z =
    let p = *ℤ_comm (pos (u + v)) z in
    let q = times-plus z (pos u) (pos v) in
    let r = *ℤ_comm (pos u) z in
    let t = *ℤ_comm (pos v) z in
    omega (arith, ints)

-- two lines whose shares together neither rise nor fall
mixed : (u v room : ℕ) (g l m x n k : ℤ) → 0 < u + v → pos u *ℤ n +ℤ pos v *ℤ k ≡ pos 0 → (u * unsigned_abs l + v * unsigned_abs m) ≤ (u + v) * room → pos 0 ≤ℤ (g -ℤ pos room +ℤ l -ℤ x *ℤ n) → pos 0 ≤ℤ (g -ℤ pos room +ℤ m -ℤ x *ℤ k) → pos 0 ≤ℤ g
mixed u v room g l m x n k some level paid first second =
    let a = shared u room g l x n first in
    let b = shared v room g m x k second in
    let c = times-le (pos u) l u (omega (arith, ints)) in
    let d = times-le (pos v) m v (omega (arith, ints)) in
    let none = ap (λ z. x *ℤ z) level ∙ *ℤ-zero x in
    let rises = times-plus x (pos u *ℤ n) (pos v *ℤ k) in
    let e = sum_times u v (pos room) in
    let f = sum_times u v g in
    gap_over (u + v) g some (omega (arith, ints, a, b, c, d, none, rises, e, f, paid))

-- beyond a limit, the product of a change and a net on its side is at least the limit times the net
beyond : (limit : ℕ) (x n : ℤ) → limit < unsigned_abs x → pos 0 ≤ℤ (x *ℤ n) → pos (limit * unsigned_abs n) ≤ℤ (x *ℤ n)
beyond limit x n far over =
    let size = unsigned_abs-mul x n in
    let most : limit ≤ unsigned_abs x = omega (arith, far) in
    let more = mul-le-mul_right (unsigned_abs n) most in
    omega (arith, ints, size, more, over)

above : (limit : ℕ) (x : ℤ) (line : Line) → pos 0 ≤ℤ x → limit < unsigned_abs x → IsPaidAbove limit line → line.lost ≤ℤ (x *ℤ line.net)
above limit x line high far paid =
    let product = beyond limit x line.net far (both_above x line.net high paid.rises) in
    let less = paid.paid in
    omega (arith, ints, product, less)

below : (limit : ℕ) (x : ℤ) (line : Line) → x ≤ℤ pos 0 → limit < unsigned_abs x → IsPaidBelow limit line → line.lost ≤ℤ (x *ℤ line.net)
below limit x line low far paid =
    let product = beyond limit x line.net far (both_below x line.net low paid.falls) in
    let less = paid.paid in
    omega (arith, ints, product, less)

-- a cost that is nowhere below two lines, one of which is paid above, and one below
costly : (limit cost total : ℕ) (x : ℤ) (line other : Line) → limit < unsigned_abs x → IsPaidAbove limit line ⊎ IsPaidAbove limit other → IsPaidBelow limit line ⊎ IsPaidBelow limit other → (pos cost -ℤ line.lost +ℤ x *ℤ line.net) ≤ℤ pos total → (pos cost -ℤ other.lost +ℤ x *ℤ other.net) ≤ℤ pos total → cost ≤ total
costly limit cost total (pos a) line other far over under own others =
    elim over [
      | inl paid ↦ let gained = above limit (pos a) line (omega (arith, ints)) far paid in omega (arith, ints, gained, own)
      | inr paid ↦ let gained = above limit (pos a) other (omega (arith, ints)) far paid in omega (arith, ints, gained, others)
    ]
costly limit cost total (negsuc a) line other far over under own others =
    elim under [
      | inl paid ↦ let gained = below limit (negsuc a) line (omega (arith, ints)) far paid in omega (arith, ints, gained, own)
      | inr paid ↦ let gained = below limit (negsuc a) other (omega (arith, ints)) far paid in omega (arith, ints, gained, others)
    ]

pub costly_beyond : (survey : Survey) (number : Number) (cost limit : ℕ) (line other : Line) → IsPaidAbove limit line ⊎ IsPaidAbove limit other → IsPaidBelow limit line ⊎ IsPaidBelow limit other → IsLine survey number cost line → IsLine survey number cost other → IsCostlyBeyond survey number cost limit
costly_beyond survey number cost limit line other over under is_line is_other x heights far kept =
    costly limit cost (cost_of (changed number x survey) heights) x line other far over under (is_line x heights kept) (is_other x heights kept)

-- two lines that are paid
pub at_least : (survey : Survey) (number : Number) (cost least own others : ℕ) (line other : Line) → ArePaid line own other others cost least → IsLine survey number cost line → IsLine survey number cost other → LeavesAtLeast survey number least
at_least survey number cost least own others line other paid is_line is_other x heights kept =
    let total = cost_of (changed number x survey) heights in
    let above = paid.above in
    let first = is_line x heights kept in
    let second = is_other x heights kept in
    let gap = mixed own others paid.room (pos total -ℤ pos least) line.lost other.lost x line.net other.net paid.some paid.level paid.paid
    (omega (arith, ints, above, first)) (omega (arith, ints, above, second)) in
    omega (arith, ints, gap)
