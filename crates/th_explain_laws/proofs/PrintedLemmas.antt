-- Rows that are printed: each is that of a number or of a book, and none that passes is missing.
use Rattle.std.proofs.Common.{◌≡◌, ◌≤◌, ◌+◌, ◌⊎◌, inl, inr, ℕ, zero, suc, ℤ, List, [], ◌∷◌, All, Bool, true, false, Contains, Option, None, Some, length, nat_le, refl, subst, sym, ap, ◌∙◌, arith}
use Rattle.std.specs.Prelude.{option_to_list}
use Rattle.std.specs.List.{AllZip, enumerate_from, flat_map}
use Rattle.std.proofs.lemmas.Bool.{cases_lt}
use Rattle.std.proofs.lemmas.List.Elements.{All-cons, All-nil, All-weaker, Contains-append_cases, Contains-append_left, Contains-append_right}
use Rattle.th_entries.specs.declared.reviews.BookReview.{BookReview}
use Rattle.th_changes.specs.Freed.{IsFreed, cost_of}
use Rattle.th_explain.specs.Explained.{mildest}
use Rattle.th_explain.specs.declared.freed.Freed.{Freed}
use Rattle.th_changes.specs.declared.numbers.Number.{Number}
use Rattle.th_explain_texts.specs.Ranks.{ranked, with_number}
use Rattle.th_explain_texts.specs.Sentences.{most_rows}
use Rattle.th_explain_texts.specs.declared.rows.Row.{Row}
use Rattle.th_network.specs.Networks.{Survey}
use Rattle.th_review_rows.specs.Entries.{entries_of}
use Rattle.th_numbers.specs.Candidates.{number_of}
use Rattle.th_explain_rows.specs.Explanations.{AreExplained, IsEnough, all_rows}
use Rattle.th_numbers.specs.Lists.{books_of, in_order, listed_of}
use Rattle.th_explain_laws.specs.Printed.{IsAmongRows, IsLed, IsOfBook, IsOfNumber, filter_of}
use Rattle.th_numbers.specs.Readings.{IsBookRowOrNone}
use Rattle.th_explain_rows.specs.Rows.{IsBehind, IsBestBeyond, IsRowOrBehind, Passes, beyond, half_of, limit_size, sifting}
use Rattle.th_explain_rows.proofs.SiftLemmas.{half_passes, is_no_more, passes_each, passes_whole}
use Rattle.th_numbers.specs.declared.candidates.Candidate.{Candidate}
use Rattle.th_explain_rows.specs.declared.findings.Explanations.{Explanations}
use Rattle.th_explain_rows.specs.declared.rows.Cutoff.{Cutoff}
use Rattle.th_explain_rows.specs.declared.rows.Filter.{Filter}
use Rattle.th_explain_laws.proofs.OrderLemmas.{complete_ranked, each_ranked, enough_ranked, small_all, small_append}

-- ---- rows that there are, of items that have one or none
module _ {X : Type 0} (R : X → Option Row → Type 0) where
  -- where a row comes from
  from_row : (xs : List X) (os : List (Option Row)) (row : Row) → AllZip R xs os → Contains (flat_map option_to_list os) row → (x : X) × Contains xs x × R x (Some row)
  from_row [] [] row all has = absurd (omega (arith, has.1))
  from_row [] (o ∷ os) row all has = absurd all
  from_row (x ∷ xs) [] row all has = absurd all
  from_row (x ∷ xs) (None ∷ os) row all has =
      let (y, (k, within, is), one) = from_row xs os row all.1 has in
      (y, (suc k, omega arith, is), one)
  from_row (x ∷ xs) (Some own ∷ os) row all (zero, within, is) = (x, (0, omega arith, refl), subst (λ (r : Row). R x (Some r)) is all.0)
  from_row (x ∷ xs) (Some own ∷ os) row all (suc j, within, is) =
      let (y, (k, inside, same), one) = from_row xs os row all.1 (j, omega arith, is) in
      (y, (suc k, omega arith, same), one)

  -- where the row of an item goes
  abbrev IsThere : List (Option Row) → Option Row → Type 0
  IsThere os None = Unit {0}
  IsThere os (Some row) = Contains (flat_map option_to_list os) row

  more_there : (first : Option Row) (os : List (Option Row)) (o : Option Row) → IsThere os o → IsThere (first ∷ os) o
  more_there first os None there = tt
  more_there first os (Some row) there = Contains-append_right (option_to_list first) (flat_map option_to_list os) row there

  first_there : (os : List (Option Row)) (o : Option Row) → IsThere (o ∷ os) o
  first_there os None = tt
  first_there os (Some row) = Contains-append_left (row ∷ []) (flat_map option_to_list os) row (0, omega arith, refl)

  to_row : (xs : List X) (os : List (Option Row)) (x : X) → AllZip R xs os → Contains xs x → (o : Option Row) × R x o × IsThere os o
  to_row [] os x all has = absurd (omega (arith, has.1))
  to_row (y ∷ xs) [] x all has = absurd all
  to_row (y ∷ xs) (o ∷ os) x all (zero, within, is) = (o, subst (λ (z : X). R z o) is all.0, first_there os o)
  to_row (y ∷ xs) (o ∷ os) x all (suc k, within, is) =
      let (found, one, there) = to_row xs os x all.1 (k, omega arith, is) in
      (found, one, more_there o os found there)

-- ---- numbers and their places
listed_at : {X : Type 0} (n : ℕ) (xs : List X) (numbered : ℕ × X) → Contains (enumerate_from n xs) numbered → Contains xs numbered.1
listed_at n [] numbered has = absurd (omega (arith, has.1))
listed_at n (x ∷ xs) numbered (zero, within, is) = (0, omega arith, ap (λ own. own.1) is)
listed_at n (x ∷ xs) numbered (suc k, within, is) =
    let (j, inside, same) = listed_at (n + 1) xs numbered (k, omega arith, is) in
    (suc j, omega arith, same)

place_of : {X : Type 0} (n : ℕ) (xs : List X) (x : X) → Contains xs x → (place : ℕ) × Contains (enumerate_from n xs) (place, x)
place_of n [] x has = absurd (omega (arith, has.1))
place_of {X = X} n (y ∷ xs) x (zero, within, is) = (n, (0, omega arith, ap {B = ℕ × X} (λ own. (n, own)) is))
place_of n (y ∷ xs) x (suc k, within, is) =
    let (place, (j, inside, same)) = place_of (n + 1) xs x (k, omega arith, is) in
    (place, (suc j, omega arith, same))

-- ---- rows that are ahead of a cutoff
no_more : (cutoff : Cutoff) (place left : ℕ) → ¬ IsBehind (Some cutoff) place left → left ≤ cutoff.left
no_more cutoff place left ahead = elim (cases_lt cutoff.left left) [
  | inl more ↦ absurd (ahead (inl more))
  | inr less ↦ less
]

no_less : (cutoff : Cutoff) (place left : ℕ) → IsBehind (Some cutoff) place left → cutoff.left ≤ left
no_less cutoff place left (inl more) = omega (arith, more)
no_less cutoff place left (inr (same, later)) = omega (arith, same)

module _ (survey : Survey) (cost : ℕ) (filter : Filter) (cutoff : Cutoff) where
  all_ahead : (xs : List (ℕ × Candidate)) (os : List (Option Row)) → AllZip (IsRowOrBehind survey cost filter (Some cutoff)) xs os → All (λ (row : Row). row.left ≤ cutoff.left) (flat_map option_to_list os)
  all_ahead [] [] all = All-nil (λ (row : Row). row.left ≤ cutoff.left)
  all_ahead [] (o ∷ os) all = absurd all
  all_ahead (x ∷ xs) [] all = absurd all
  all_ahead (x ∷ xs) (None ∷ os) all = all_ahead xs os all.1
  all_ahead (x ∷ xs) (Some row ∷ os) all = All-cons (λ (row : Row). row.left ≤ cutoff.left) row (flat_map option_to_list os) (no_more cutoff x.0 row.left all.0.1) (all_ahead xs os all.1)

-- ---- what is printed
module _ (survey : Survey) (reviews : List BookReview) (limit : ℤ) (explained : Explanations) (are : AreExplained survey reviews limit explained) where
  abbrev cost : ℕ
  cost = cost_of survey are.heights

  abbrev candidates : List Candidate
  candidates = in_order (listed_of survey (entries_of reviews) are.tied)

  abbrev IsOwnRow : ℕ × Candidate → Option Row → Type 0
  IsOwnRow = IsRowOrBehind survey cost (filter_of are) are.printed.cutoff

  pub each_printed : All (λ (row : Row). IsOfNumber survey cost (filter_of are) candidates row ⊎ IsOfBook survey (entries_of reviews) cost limit reviews row) explained.rows.items
  each_printed =
      subst (All (λ (row : Row). IsOfNumber survey cost (filter_of are) candidates row ⊎ IsOfBook survey (entries_of reviews) cost limit reviews row)) (sym are.printed.leading)
      (All-weaker (λ (row : Row). (own : Row) × Contains (all_rows are.printed.own are.printed.read) own × (row ≡ with_number own row.number)) (λ (row : Row). IsOfNumber survey cost (filter_of are) candidates row ⊎ IsOfBook survey (entries_of reviews) cost limit reviews row)
      by (ranked (all_rows are.printed.own are.printed.read)) (each_ranked (all_rows are.printed.own are.printed.read)))
    where
      by : (row : Row) → (own : Row) × Contains (all_rows are.printed.own are.printed.read) own × (row ≡ with_number own row.number) → IsOfNumber survey cost (filter_of are) candidates row ⊎ IsOfBook survey (entries_of reviews) cost limit reviews row
      by row (own, has, same) =
          elim (Contains-append_cases (flat_map option_to_list are.printed.own) (flat_map option_to_list are.printed.read) own has) [
            | inl h ↦
                let (numbered, listed, passes) = from_row IsOwnRow (enumerate_from 0 candidates) are.printed.own own are.printed.found.numbers h in
                inl (record { candidate = numbered.1; listed = listed_at 0 candidates numbered listed; own = own; passes = passes.0; same = same })
            | inr h ↦
                let (book, listed, fits) = from_row (IsBookRowOrNone survey (entries_of reviews) cost limit) (books_of reviews) are.printed.read own are.printed.found.books h in
                inr (record { book = book; listed = listed; own = own; fits = fits; same = same })
          ]

  pub complete_printed : ((own : Survey) (number : Number) (first second : ℕ) → IsFreed own number first → IsFreed own number second → first ≡ second)
      → (candidate : Candidate) (freed : Freed) → Contains candidates candidate → Passes survey (filter_of are) candidate freed
      → IsAmongRows survey cost (filter_of are) candidate explained.rows.items ⊎ ((length explained.rows.items ≡ most_rows) × All (λ (row : Row). row.left ≤ freed.left) explained.rows.items)
  complete_printed one candidate freed has passes =
      let (place, listed) = place_of 0 candidates candidate has in
      let (found, is, there) = to_row IsOwnRow (enumerate_from 0 candidates) are.printed.own (place, candidate) are.printed.found.numbers listed in
      by place found is there
    where
      nothing_less : (place : ℕ) (cutoff : Option Cutoff) → AllZip (IsRowOrBehind survey cost (filter_of are) cutoff) (enumerate_from 0 candidates) are.printed.own → IsEnough cutoff (length (flat_map option_to_list are.printed.own)) → IsBehind cutoff place freed.left
          → (length explained.rows.items ≡ most_rows) × All (λ (row : Row). row.left ≤ freed.left) explained.rows.items
      nothing_less place None all enough behind = absurd behind
      nothing_less place (Some cutoff) all enough behind =
          let own : List Row = flat_map option_to_list are.printed.own in
          let many = small_all cutoff.left own (all_ahead survey cost (filter_of are) cutoff (enumerate_from 0 candidates) are.printed.own all) in
          let more = small_append cutoff.left own (flat_map option_to_list are.printed.read) in
          let (long, less) = enough_ranked cutoff.left (all_rows are.printed.own are.printed.read) (omega (arith, enough, many, more)) in
          let least = no_less cutoff place freed.left behind in (
            ap length are.printed.leading ∙ long,
            subst (All (λ (row : Row). row.left ≤ freed.left)) (sym are.printed.leading)
                (All-weaker (λ (row : Row). row.left ≤ cutoff.left) (λ (row : Row). row.left ≤ freed.left) (λ row at. omega (arith, at, least)) (ranked (all_rows are.printed.own are.printed.read)) less),
          )

      by : (place : ℕ) (found : Option Row) → IsOwnRow (place, candidate) found → IsThere IsOwnRow are.printed.own found
          → IsAmongRows survey cost (filter_of are) candidate explained.rows.items ⊎ ((length explained.rows.items ≡ most_rows) × All (λ (row : Row). row.left ≤ freed.left) explained.rows.items)
      by place None none there = inr (nothing_less place are.printed.cutoff are.printed.found.numbers are.printed.enough (none freed passes))
      by place (Some own) (is, ahead) there =
          let left : own.left ≡ freed.left = ap (λ (row : Row). row.left) is.printed ∙ one survey (number_of candidate) is.freed.left freed.left is.passes.explains.exact.left passes.explains.exact.left in
          elim (complete_ranked (all_rows are.printed.own are.printed.read) own (Contains-append_left (flat_map option_to_list are.printed.own) (flat_map option_to_list are.printed.read) own there)) [
            | inl h ↦ inl (record { own = own; passes = is; number = h.0; printed = subst (λ (rows : List Row). Contains rows (with_number own h.0)) (sym are.printed.leading) h.1 })
            | inr h ↦ inr (ap length are.printed.leading ∙ h.0, subst (All (λ (row : Row). row.left ≤ freed.left)) (sym are.printed.leading) (subst (λ (n : ℕ). All (λ (row : Row). row.left ≤ n) (ranked (all_rows are.printed.own are.printed.read))) left h.1))
          ]

  -- ---- numbers beyond half of the limit
  pub beyond_passes : (candidate : Candidate) (freed : Freed) → Passes survey (beyond limit) candidate freed → Passes survey (filter_of are) candidate freed
  beyond_passes candidate freed passes = passes_each survey limit are.printed.best candidate freed passes

  led_passes : (best : Option ℕ) → IsBestBeyond survey limit candidates best → (candidate : Candidate) (freed : Freed) → Passes survey (beyond (half_of limit)) candidate freed → IsLed survey limit candidates freed.left
      → Passes survey (sifting limit best) candidate freed
  led_passes None none candidate freed passes led = absurd (none led.candidate led.freed led.listed led.passes)
  led_passes (Some best) is candidate freed passes led =
      let less = led.least is.candidate is.freed is.listed is.passes in
      half_passes survey limit best candidate freed (omega (arith, less, is.left)) passes

  pub half_of_limit_passes : (candidate : Candidate) (freed : Freed) → Passes survey (beyond (half_of limit)) candidate freed → IsLed survey limit candidates freed.left → Passes survey (filter_of are) candidate freed
  half_of_limit_passes candidate freed passes led = led_passes are.printed.best are.printed.is_best candidate freed passes led

  near_led : (best : Option ℕ) → IsBestBeyond survey limit candidates best → (candidate : Candidate) (freed : Freed) → Passes survey (sifting limit best) candidate freed → mildest freed.low freed.high ≤ limit_size limit → IsLed survey limit candidates freed.left
  near_led None none candidate freed passes mild = let far = passes.explains.far in absurd (omega (arith, far, mild))
  near_led (Some best) is candidate freed passes mild = by (nat_le freed.left best) refl
    where
      by : (b : Bool) → nat_le freed.left best ≡ b → IsLed survey limit candidates freed.left
      by false e = let far = (passes_whole survey limit best candidate freed e passes).explains.far in absurd (omega (arith, far, mild))
      by true e =
          let less = is_no_more freed.left best e in
          record {
            candidate = is.candidate;
            listed = is.listed;
            freed = is.freed;
            passes = is.passes;
            least = λ other own has also. let least = is.least other own has also in omega (arith, less, least);
          }

  pub near_the_limit : (row : Row) (is : IsOfNumber survey cost (filter_of are) candidates row) → mildest is.passes.freed.low is.passes.freed.high ≤ limit_size limit → IsLed survey limit candidates row.left
  near_the_limit row is mild =
      let left : row.left ≡ is.passes.freed.left = ap (λ (own : Row). own.left) is.same ∙ ap (λ (own : Row). own.left) is.passes.printed in
      subst (IsLed survey limit candidates) (sym left) (near_led are.printed.best are.printed.is_best is.candidate is.passes.freed is.passes.passes mild)
