-- One number alone is wrong, and all else is exact: it is printed with its right value, or as many rows as there may be explain all.
use Rattle.std.proofs.Common.{◌≡◌, ◌≢◌, ◌≤◌, ◌<◌, ◌⊎◌, inl, inr, ℕ, ℤ, pos, ◌≤ℤ◌, neg_ℤ, List, All, Contains, Option, None, Some, Bool, true, false, if◌then◌else◌, int_lt, length, unsigned_abs, refl, subst, sym, ap, ◌∙◌, arith}
use Rattle.std.proofs.lemmas.Int.{ints}
use Rattle.std.proofs.lemmas.List.Elements.{All-weaker}
use Rattle.th_entries.specs.declared.reviews.BookReview.{BookReview}
use Rattle.th_explain.specs.Explained.{IsExact, mildest}
use Rattle.th_changes.specs.Freed.{Costs, IsFreed, IsProposed, Keeps, cost_of}
use Rattle.th_changes.specs.Flows.{Circulates, net}
use Rattle.th_changes.specs.Numbers.{changed}
use Rattle.th_changes.specs.Reach.{reach_of}
use Rattle.th_explain.proofs.MistakeLemmas.{changed_back}
use Rattle.th_explain.specs.declared.freed.Freed.{Freed}
use Rattle.th_changes.specs.declared.numbers.Number.{Number}
use Rattle.th_explain_texts.specs.Ranks.{with_number}
use Rattle.th_explain_texts.specs.Sentences.{most_rows}
use Rattle.th_explain_texts.specs.declared.rows.Row.{Row}
use Rattle.th_network.specs.Networks.{Survey}
use Rattle.th_review_rows.specs.Entries.{entries_of}
use Rattle.th_numbers.specs.Candidates.{given_of, number_of, whole_of}
use Rattle.th_numbers.specs.Lists.{in_order, listed_of}
use Rattle.th_explain_rows.specs.Explanations.{AreExplained}
use Rattle.th_explain_rows.specs.Rows.{LeavesNoMore, Passes, beyond, limit_size, values_of}
use Rattle.th_explain_rows.proofs.SiftLemmas.{passes_each}
use Rattle.th_numbers.specs.declared.candidates.Candidate.{Candidate}
use Rattle.th_explain_rows.specs.declared.findings.Explanations.{Explanations}
use Rattle.th_explain_laws.specs.Printed.{IsAmongRows, filter_of}
use Rattle.th_explain_laws.specs.OneWrong.{IsMended}
use Rattle.th_explain_laws.proofs.PrintedLemmas.{complete_printed}
use Rattle.th_explain_laws.proofs.WrongLemmas.{exact}

reached_back : (right : Survey) (number : Number) (wrong : ℤ) (truth : List ℕ → ℤ) → Keeps right truth → cost_of right truth ≡ 0 → Costs (changed number wrong right) number (neg_ℤ wrong) 0
reached_back right number wrong truth kept fits =
    (truth, subst (λ s. Keeps s truth) (sym (changed_back right number wrong)) kept, ap (λ s. cost_of s truth) (changed_back right number wrong) ∙ fits)

freed_nothing : (right : Survey) (number : Number) (wrong : ℤ) (truth : List ℕ → ℤ) → Keeps right truth → cost_of right truth ≡ 0 → IsFreed (changed number wrong right) number 0
freed_nothing right number wrong truth kept fits = record {
  reached = (neg_ℤ wrong, reached_back right number wrong truth kept fits);
  least = λ x heights keeps. omega arith;
}

same_size : (x : ℤ) → unsigned_abs (neg_ℤ x) ≡ unsigned_abs x
same_size x = omega (arith, ints)

neither : {limit : ℕ} (x : ℤ) → limit < unsigned_abs x → int_lt (pos 0) x ≡ false → int_lt x (pos 0) ≡ false → ⊥
neither x far e f = grind (arith, ints)

is_mildest : (limit : ℕ) (wrong : ℤ) → limit < unsigned_abs wrong → limit < mildest (neg_ℤ wrong) (neg_ℤ wrong)
is_mildest limit wrong far = by (int_lt (pos 0) (neg_ℤ wrong)) (int_lt (neg_ℤ wrong) (pos 0)) refl refl
  where
    size : limit < unsigned_abs (neg_ℤ wrong)
    size = subst (λ n. limit < n) (sym (same_size wrong)) far

    by : (up down : Bool) → int_lt (pos 0) (neg_ℤ wrong) ≡ up → int_lt (neg_ℤ wrong) (pos 0) ≡ down → limit < (if up then unsigned_abs (neg_ℤ wrong) else (if down then unsigned_abs (neg_ℤ wrong) else 0))
    by true down e f = size
    by false true e f = size
    by false false e f = absurd (neither (neg_ℤ wrong) size e f)

none_leaves_less : (survey : Survey) (whole : Option Number) → LeavesNoMore survey whole 0
none_leaves_less survey None = tt
none_leaves_less survey (Some whole) = λ x heights near keeps. omega arith

at_most : (x y : ℤ) → x ≡ y → y ≤ℤ x
at_most x y same = omega (arith, ints)

at_least : (x y : ℤ) → x ≡ y → x ≤ℤ y
at_least x y same = omega (arith, ints)

module _ (right : Survey) (candidate : Candidate) (wrong : ℤ) (truth : List ℕ → ℤ) (flows : List ℤ) (circulation : Circulates right flows) (some : net (number_of candidate) right flows ≢ pos 0)
    (kept : Keeps right truth) (fits : cost_of right truth ≡ 0) where
  abbrev survey : Survey
  survey = changed (number_of candidate) wrong right

  abbrev back : Freed
  back = record { left = 0; low = neg_ℤ wrong; high = neg_ℤ wrong }

  proposed : IsProposed survey (number_of candidate) (neg_ℤ wrong)
  proposed = record {
    freed = 0;
    is_freed = freed_nothing right (number_of candidate) wrong truth kept fits;
    reached = reached_back right (number_of candidate) wrong truth kept fits;
  }

  one : (x : ℤ) → IsProposed survey (number_of candidate) x → x ≡ neg_ℤ wrong
  one x is = exact right (number_of candidate) wrong x truth flows circulation kept fits some is

  is_exact : IsExact survey (number_of candidate) back
  is_exact = record {
    left = freed_nothing right (number_of candidate) wrong truth kept fits;
    low = proposed;
    high = proposed;
    least = λ x is. at_most x (neg_ℤ wrong) (one x is);
    greatest = λ x is. at_least x (neg_ℤ wrong) (one x is);
  }

  passes : (limit : ℤ) → limit_size limit < unsigned_abs wrong → unsigned_abs wrong < reach_of (number_of candidate) survey.observations → Passes survey (beyond limit) candidate back
  passes limit far near = record {
    explains = record {
      exact = is_exact;
      far = is_mildest (limit_size limit) wrong far;
      low_in_reach = subst (λ n. n < reach_of (number_of candidate) survey.observations) (sym (same_size wrong)) near;
      high_in_reach = subst (λ n. n < reach_of (number_of candidate) survey.observations) (sym (same_size wrong)) near;
    };
    leads = none_leaves_less survey (whole_of candidate);
  }

  pub one_wrong_printed : ((own : Survey) (number : Number) (first second : ℕ) → IsFreed own number first → IsFreed own number second → first ≡ second)
      → (reviews : List BookReview) (limit : ℤ) (explained : Explanations) (are : AreExplained survey reviews limit explained)
      → limit_size limit < unsigned_abs wrong → unsigned_abs wrong < reach_of (number_of candidate) survey.observations
      → Contains (in_order (listed_of survey (entries_of reviews) are.tied)) candidate
      → IsMended (given_of survey.benchmarks candidate) wrong explained.rows.items ⊎ ((length explained.rows.items ≡ most_rows) × All (λ row. row.left ≡ 0) explained.rows.items)
  one_wrong_printed alone reviews limit explained are far near has =
      elim (complete_printed survey reviews limit explained are alone candidate back has (passes_each survey limit are.printed.best candidate back (passes limit far near))) [
        | inl h ↦ inl (by h)
        | inr h ↦ inr (h.0, All-weaker (λ (row : Row). row.left ≤ 0) (λ (row : Row). row.left ≡ 0) (λ row less. omega (arith, less)) explained.rows.items h.1)
      ]
    where
      by : IsAmongRows survey (cost_of survey are.heights) (filter_of are) candidate explained.rows.items → IsMended (given_of survey.benchmarks candidate) wrong explained.rows.items
      by is =
          let freed = is.passes.freed in
          let left : is.own.left ≡ 0 = ap (λ (row : Row). row.left) is.passes.printed ∙ alone survey (number_of candidate) freed.left 0 is.passes.passes.explains.exact.left (freed_nothing right (number_of candidate) wrong truth kept fits) in
          let low = one freed.low is.passes.passes.explains.exact.low in
          let high = one freed.high is.passes.passes.explains.exact.high in
          record {
            row = with_number is.own is.number;
            printed = is.printed;
            left = left;
            values = ap (λ (row : Row). row.values) is.passes.printed
                ∙ ap (λ x. Some (values_of (given_of survey.benchmarks candidate) (record { left = freed.left; low = x; high = freed.high }))) low
                ∙ ap (λ x. Some (values_of (given_of survey.benchmarks candidate) (record { left = freed.left; low = neg_ℤ wrong; high = x }))) high;
          }
