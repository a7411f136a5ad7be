-- One number is wrong, and all else has small errors: its row is printed, and is ahead of those of numbers that a circulation tells apart.
use Rattle.std.proofs.Common.{◌≡◌, ◌≤◌, ◌<◌, ◌+◌, ◌*◌, ◌⊎◌, inl, inr, ℕ, ℤ, pos, ◌+ℤ◌, ◌≤ℤ◌, List, All, Contains, Bool, true, false, if◌then◌else◌, int_lt, length, unsigned_abs, refl, ap, mul-le-mul_left, arith}
use Rattle.std.proofs.lemmas.Bool.{cases_lt}
use Rattle.std.proofs.lemmas.Int.{ints}
use Rattle.th_entries.specs.declared.reviews.BookReview.{BookReview}
use Rattle.th_explain.specs.Explained.{IsExact, mildest}
use Rattle.th_changes.specs.Freed.{IsFreed, Keeps, cost_of}
use Rattle.th_changes.specs.Flows.{Circulates, net}
use Rattle.th_changes.specs.Numbers.{changed}
use Rattle.th_changes.specs.Reach.{reach_of}
use Rattle.th_explain.specs.declared.freed.Freed.{Freed}
use Rattle.th_changes.specs.declared.numbers.Number.{Number}
use Rattle.th_explain_texts.specs.Sentences.{most_rows}
use Rattle.th_explain_texts.specs.declared.rows.Row.{Row}
use Rattle.th_network.specs.Networks.{Survey}
use Rattle.th_review_rows.specs.Entries.{entries_of}
use Rattle.th_numbers.specs.Candidates.{number_of, whole_of}
use Rattle.th_numbers.specs.Lists.{in_order, listed_of}
use Rattle.th_explain_rows.specs.Explanations.{AreExplained}
use Rattle.th_explain_rows.specs.Rows.{IsRow, LeavesNoMore, Passes, beyond, limit_size}
use Rattle.th_explain_rows.proofs.SiftLemmas.{passes_each}
use Rattle.th_explain_rows.specs.declared.rows.Filter.{Filter}
use Rattle.th_numbers.specs.declared.candidates.Candidate.{Candidate}
use Rattle.th_explain_rows.specs.declared.findings.Explanations.{Explanations}
use Rattle.th_explain_laws.specs.Printed.{IsAmongRows, filter_of}
use Rattle.th_explain_laws.proofs.PrintedLemmas.{complete_printed}
use Rattle.th_explain_laws.proofs.WrongLemmas.{near, wrong_leads}

-- ---- sizes, each times a net
is_above : (limit wrong far gap n most : ℕ) → gap * n ≤ most → limit * n + most < wrong * n → wrong ≤ far + gap → limit < far
is_above limit wrong far gap n most little large parts = elim (cases_lt limit far) [
  | inl less ↦ less
  | inr small ↦
      let scaled = mul-le-mul_left n parts in
      let times = mul-le-mul_left n small in
      absurd (omega arith)
]

is_below : (reach wrong far gap n most : ℕ) → gap * n ≤ most → wrong * n + most < reach * n → far ≤ wrong + gap → far < reach
is_below reach wrong far gap n most little large parts = elim (cases_lt far reach) [
  | inl less ↦ less
  | inr more ↦
      let scaled = mul-le-mul_left n parts in
      let times = mul-le-mul_left n more in
      absurd (omega arith)
]

no_less : (wrong x : ℤ) → unsigned_abs wrong ≤ unsigned_abs x + unsigned_abs (wrong +ℤ x)
no_less wrong x = omega (arith, ints)

no_more : (wrong x : ℤ) → unsigned_abs x ≤ unsigned_abs wrong + unsigned_abs (wrong +ℤ x)
no_more wrong x = omega (arith, ints)

-- ---- none of the changes between two that are near the right one is mild
below_none : (x : ℤ) → int_lt (pos 0) x ≡ false → x ≤ℤ pos 0
below_none x e = grind (arith, ints)

above_none : (x : ℤ) → int_lt x (pos 0) ≡ false → pos 0 ≤ℤ x
above_none x e = grind (arith, ints)

one_side : (wrong low high : ℤ) → low ≤ℤ pos 0 → pos 0 ≤ℤ high → (unsigned_abs wrong ≤ unsigned_abs (wrong +ℤ low)) ⊎ (unsigned_abs wrong ≤ unsigned_abs (wrong +ℤ high))
one_side wrong low high down up = grind (arith, ints)

is_mildest : (limit n most : ℕ) (wrong low high : ℤ) → unsigned_abs (wrong +ℤ low) * n ≤ most → unsigned_abs (wrong +ℤ high) * n ≤ most → limit * n + most < unsigned_abs wrong * n → limit < mildest low high
is_mildest limit n most wrong low high first second large = by (int_lt (pos 0) low) (int_lt high (pos 0)) refl refl
  where
    none : (x : ℤ) → unsigned_abs (wrong +ℤ x) * n ≤ most → unsigned_abs wrong ≤ unsigned_abs (wrong +ℤ x) → ⊥
    none x little same = let scaled = mul-le-mul_left n same in absurd (omega arith)

    by : (up down : Bool) → int_lt (pos 0) low ≡ up → int_lt high (pos 0) ≡ down → limit < (if up then unsigned_abs low else (if down then unsigned_abs high else 0))
    by true down e f = is_above limit (unsigned_abs wrong) (unsigned_abs low) (unsigned_abs (wrong +ℤ low)) n most first large (no_less wrong low)
    by false true e f = is_above limit (unsigned_abs wrong) (unsigned_abs high) (unsigned_abs (wrong +ℤ high)) n most second large (no_less wrong high)
    by false false e f = elim (one_side wrong low high (below_none low e) (above_none high f)) [
      | inl h ↦ absurd (none low first h)
      | inr h ↦ absurd (none high second h)
    ]

-- ---- the row
module _ (right : Survey) (candidate : Candidate) (wrong : ℤ) (truth : List ℕ → ℤ) (flows : List ℤ) (circulation : Circulates right flows) (kept : Keeps right truth) where
  abbrev survey : Survey
  survey = changed (number_of candidate) wrong right

  abbrev through : ℕ
  through = unsigned_abs (net (number_of candidate) right flows)

  passes : (limit : ℤ) (freed : Freed) → IsExact survey (number_of candidate) freed → LeavesNoMore survey (whole_of candidate) freed.left
      → limit_size limit * through + 2 * cost_of right truth < unsigned_abs wrong * through → unsigned_abs wrong * through + 2 * cost_of right truth < reach_of (number_of candidate) survey.observations * through → Passes survey (beyond limit) candidate freed
  passes limit freed is no_more_left far within =
      let low = near right (number_of candidate) wrong freed.low truth flows circulation kept is.low in
      let high = near right (number_of candidate) wrong freed.high truth flows circulation kept is.high in
      record {
        explains = record {
          exact = is;
          far = is_mildest (limit_size limit) through (2 * cost_of right truth) wrong freed.low freed.high low high far;
          low_in_reach = is_below (reach_of (number_of candidate) survey.observations) (unsigned_abs wrong) (unsigned_abs freed.low) (unsigned_abs (wrong +ℤ freed.low)) through (2 * cost_of right truth) low within (no_more wrong freed.low);
          high_in_reach = is_below (reach_of (number_of candidate) survey.observations) (unsigned_abs wrong) (unsigned_abs freed.high) (unsigned_abs (wrong +ℤ freed.high)) through (2 * cost_of right truth) high within (no_more wrong freed.high);
        };
        leads = no_more_left;
      }

  pub wrong_printed : ((own : Survey) (number : Number) (first second : ℕ) → IsFreed own number first → IsFreed own number second → first ≡ second)
      → (reviews : List BookReview) (limit : ℤ) (explained : Explanations) (freed : Freed) (are : AreExplained survey reviews limit explained)
      → IsExact survey (number_of candidate) freed → LeavesNoMore survey (whole_of candidate) freed.left
      → limit_size limit * through + 2 * cost_of right truth < unsigned_abs wrong * through → unsigned_abs wrong * through + 2 * cost_of right truth < reach_of (number_of candidate) survey.observations * through
      → Contains (in_order (listed_of survey (entries_of reviews) are.tied)) candidate
      → IsAmongRows survey (cost_of survey are.heights) (filter_of are) candidate explained.rows.items ⊎ ((length explained.rows.items ≡ most_rows) × All (λ row. row.left ≤ freed.left) explained.rows.items)
  wrong_printed alone reviews limit explained freed are is no_more_left far within has =
      complete_printed survey reviews limit explained are alone candidate freed has (passes_each survey limit are.printed.best candidate freed (passes limit freed is no_more_left far within))

  pub ahead : (other : Candidate) (filter : Filter) (cost : ℕ) (own row : Row) → net (number_of other) right flows ≡ pos 0 → 2 * cost_of right truth < unsigned_abs wrong * through
      → IsRow survey cost filter candidate own → IsRow survey cost filter other row → own.left < row.left
  ahead other filter cost own row none large is_own is_row =
      let less = wrong_leads right (number_of candidate) (number_of other) wrong truth flows is_own.freed.left is_row.freed.left circulation none kept large is_own.passes.explains.exact.left is_row.passes.explains.exact.left in
      let a = ap (λ (r : Row). r.left) is_own.printed in
      let b = ap (λ (r : Row). r.left) is_row.printed in
      omega arith
