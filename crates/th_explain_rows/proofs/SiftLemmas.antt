-- Numbers that pass a filter, given those beyond the limit.
use Rattle.std.proofs.Common.{◌≡◌, ◌⊎◌, inl, inr, ℕ, zero, suc, ◌/◌, ◌≤◌, ◌+◌, ℤ, pos, Bool, true, false, if◌then◌else◌, List, [], ◌∷◌, Contains, Option, None, Some, fold, int_lt, min, nat_le, unsigned_abs, refl, subst, sym, ap, ◌∙◌, arith}
use Rattle.std.proofs.lemmas.Bool.Decides.{nat_tests}
use Rattle.std.proofs.lemmas.Int.{ints}
use Rattle.std.specs.List.{AllZip, enumerate_from}
use Rattle.std.specs.Option.{option_map_or}
use Rattle.th_explain.specs.Explained.{Explains, IsAtLeast}
use Rattle.th_explain.specs.declared.freed.Freed.{Freed}
use Rattle.th_changes.specs.Freed.{IsFreed}
use Rattle.th_changes.specs.declared.numbers.Number.{Number}
use Rattle.th_network.specs.Networks.{Survey}
use Rattle.th_numbers.specs.Candidates.{number_of}
use Rattle.th_numbers.specs.declared.candidates.Candidate.{Candidate}
use Rattle.th_explain_rows.proofs.HalfLemmas.{beyond_half, explains_less, half_less, size_of}
use Rattle.th_explain_rows.specs.Inside.Passing.{IsMildIf, IsPassedOrBehind}
use Rattle.th_explain_rows.specs.Inside.Sifting.{IsFoundOrMilder, IsKnownOrMilder, IsSettled, IsSiftedOrBehind, least_left, lesser}
use Rattle.th_explain_rows.specs.Rows.{IsBehind, IsBestBeyond, Passes, beyond, half_of, least_change, limit_size, sifting}
use Rattle.th_explain_rows.specs.declared.rows.Cutoff.{Cutoff}
use Rattle.th_explain_rows.specs.declared.sifting.Earlier.{Earlier}

-- ---- amounts
pub is_no_more : (left best : ℕ) → nat_le left best ≡ true → left ≤ best
is_no_more left best e = grind (arith, nat_tests)

no_more_is : (left best : ℕ) → left ≤ best → nat_le left best ≡ true
no_more_is left best less = by (nat_le left best) refl
  where
    by : (b : Bool) → nat_le left best ≡ b → b ≡ true
    by true e = refl
    by false e = grind (arith, nat_tests, less)

-- ---- numbers that pass
module _ (survey : Survey) (limit : ℤ) where
  abbrev ExplainsIf : Candidate → Freed → Bool → Type 0
  ExplainsIf candidate freed b = Explains survey (if b then limit_size limit / 2 else limit_size limit) (number_of candidate) freed

  -- one beyond the limit passes each filter of it
  pub passes_each : (best : Option ℕ) (candidate : Candidate) (freed : Freed) → Passes survey (beyond limit) candidate freed → Passes survey (sifting limit best) candidate freed
  passes_each None candidate freed is = is
  passes_each (Some best) candidate freed is = record {
    explains = explains_less survey (limit_size limit) (least_change (sifting limit (Some best)) freed.left) (number_of candidate) freed (half_less (nat_le freed.left best) (limit_size limit)) is.explains;
    leads = is.leads;
  }

  module _ (best : ℕ) (candidate : Candidate) (freed : Freed) where
    pub half_passes : freed.left ≤ best → Passes survey (beyond (half_of limit)) candidate freed → Passes survey (sifting limit (Some best)) candidate freed
    half_passes less is = record {
      explains = subst (ExplainsIf candidate freed) (sym (no_more_is freed.left best less))
          (subst (λ (n : ℕ). Explains survey n (number_of candidate) freed) (size_of (limit_size limit / 2)) is.explains);
      leads = is.leads;
    }

    passes_half : nat_le freed.left best ≡ true → Passes survey (sifting limit (Some best)) candidate freed → Passes survey (beyond (half_of limit)) candidate freed
    passes_half e is = record {
      explains = subst (λ (n : ℕ). Explains survey n (number_of candidate) freed) (sym (size_of (limit_size limit / 2))) (subst (ExplainsIf candidate freed) e is.explains);
      leads = is.leads;
    }

    pub passes_whole : nat_le freed.left best ≡ false → Passes survey (sifting limit (Some best)) candidate freed → Passes survey (beyond limit) candidate freed
    passes_whole e is = record {
      explains = subst (ExplainsIf candidate freed) e is.explains;
      leads = is.leads;
    }

  -- what was found of a number, with what is found of it beyond half of the limit
  found_or : (cutoff : Option Cutoff) (place : ℕ) (candidate : Candidate) (best : ℕ) (least : Option ℕ) (before own : Option Freed) → ((left : ℕ) → left ≤ best → IsAtLeast least left → IsBehind cutoff place left)
      → IsPassedOrBehind survey limit cutoff (place, candidate) before → IsFoundOrMilder survey (half_of limit) best least candidate before own → IsSiftedOrBehind survey (sifting limit (Some best)) cutoff (place, candidate) own
  found_or cutoff place candidate best least (Some freed) own behind is same = subst (IsSiftedOrBehind survey (sifting limit (Some best)) cutoff (place, candidate)) (sym same) (passes_each (Some best) candidate freed is)
  found_or cutoff place candidate best least None (Some freed) behind none (is, less) = half_passes best candidate freed less is
  found_or cutoff place candidate best least None None behind none milder = λ freed is. by freed is (nat_le freed.left best) refl
    where
      by : (freed : Freed) → Passes survey (sifting limit (Some best)) candidate freed → (b : Bool) → nat_le freed.left best ≡ b → IsBehind cutoff place freed.left
      by freed is true e = behind freed.left (is_no_more freed.left best e) (milder freed (passes_half best candidate freed e is) (is_no_more freed.left best e))
      by freed is false e = none freed (passes_whole best candidate freed e is)

  -- one that passes a filter of the limit passes beyond half of it
  passes_beyond_half : (best : ℕ) (candidate : Candidate) (freed : Freed) → Passes survey (sifting limit (Some best)) candidate freed → Passes survey (beyond (half_of limit)) candidate freed
  passes_beyond_half best candidate freed is = by (nat_le freed.left best) refl
    where
      by : (b : Bool) → nat_le freed.left best ≡ b → Passes survey (beyond (half_of limit)) candidate freed
      by true e = passes_half best candidate freed e is
      by false e = beyond_half survey limit candidate freed (passes_whole best candidate freed e is)

  pub sifted_or : (cutoff : Option Cutoff) (place : ℕ) (candidate : Candidate) (best : ℕ) (least : Option ℕ) (earlier : Earlier) (own : Option Freed) → ((left : ℕ) → left ≤ best → IsAtLeast least left → IsBehind cutoff place left)
      → IsPassedOrBehind survey limit cutoff (place, candidate) earlier.freed → IsMildIf survey limit cutoff (place, candidate) earlier.is_mild
      → IsKnownOrMilder survey (half_of limit) best least candidate earlier own → IsSiftedOrBehind survey (sifting limit (Some best)) cutoff (place, candidate) own
  sifted_or cutoff place candidate best least earlier own behind is mild (inl (known, none)) =
      subst (IsSiftedOrBehind survey (sifting limit (Some best)) cutoff (place, candidate)) (sym none) (λ freed passes. mild known freed (passes_beyond_half best candidate freed passes))
  sifted_or cutoff place candidate best least earlier own behind is mild (inr found) = found_or cutoff place candidate best least earlier.freed own behind is found

  -- where no number is beyond the limit, none is beyond half of it
  pub none_sifted : (cutoff : Option Cutoff) (numbered : List (ℕ × Candidate)) (found : List (Option Freed)) → AllZip (IsPassedOrBehind survey limit cutoff) numbered found → AllZip (IsSiftedOrBehind survey (beyond limit) cutoff) numbered found
  none_sifted cutoff [] [] all = all
  none_sifted cutoff [] (own ∷ found) all = absurd all
  none_sifted cutoff (first ∷ numbered) [] all = absurd all
  none_sifted cutoff ((place, candidate) ∷ numbered) (None ∷ found) all = (all.0, none_sifted cutoff numbered found all.1)
  none_sifted cutoff ((place, candidate) ∷ numbered) (Some freed ∷ found) all = (all.0, none_sifted cutoff numbered found all.1)

  -- ---- the least that was found
  kept : (least : Option ℕ) (own : Option Freed) (left : ℕ) → IsAtLeast least left → IsAtLeast (lesser least own) left
  kept None own left at = absurd at
  kept (Some least) None left at = at
  kept (Some least) (Some freed) left at = omega (arith, at)

  own_least : (least : Option ℕ) (freed : Freed) → IsAtLeast (lesser least (Some freed)) freed.left
  own_least None freed = omega arith
  own_least (Some least) freed = omega arith

  all_kept : (found : List (Option Freed)) (least : Option ℕ) (left : ℕ) → IsAtLeast least left → IsAtLeast (fold lesser least found) left
  all_kept [] least left at = at
  all_kept (own ∷ found) least left at = all_kept found (lesser least own) left (kept least own left at)

  unchanged : (least : Option ℕ) → lesser least None ≡ least
  unchanged None = refl
  unchanged (Some least) = refl

  of_one : (first second best : ℕ) → min first second ≡ best → (first ≡ best) ⊎ (second ≡ best)
  of_one first second best same = by (nat_le first second) refl
    where
      by : (b : Bool) → nat_le first second ≡ b → (first ≡ best) ⊎ (second ≡ best)
      by true e = let less = is_no_more first second e in inl (omega (arith, same, less))
      by false e = inr (grind (arith, nat_tests, same))

  some : (first second : ℕ) → Some first ≡ Some second → first ≡ second
  some first second same = ap (λ (own : Option ℕ). option_map_or (λ n. n) own 0) same

  of_either : (least : Option ℕ) (freed : Freed) (best : ℕ) → lesser least (Some freed) ≡ Some best → (least ≡ Some best) ⊎ (freed.left ≡ best)
  of_either None freed best same = inr (some freed.left best same)
  of_either (Some least) freed best same = elim (of_one least freed.left best (some (min least freed.left) best same)) [
    | inl h ↦ inl (ap (λ (n : ℕ). Some n) h)
    | inr h ↦ inr h
  ]

  abbrev IsOf : List Candidate → ℕ → Type 0
  IsOf candidates best = (candidate : Candidate) × Contains candidates candidate × (freed : Freed) × Passes survey (beyond limit) candidate freed × (freed.left ≡ best)

  further : (first : Candidate) (candidates : List Candidate) (best : ℕ) → IsOf candidates best → IsOf (first ∷ candidates) best
  further first candidates best (candidate, (k, within, is), freed, passes, left) = (candidate, (suc k, omega (arith, within), is), freed, passes, left)

  from_least : (cutoff : Option Cutoff) (n : ℕ) (candidates : List Candidate) (found : List (Option Freed)) (least : Option ℕ) (best : ℕ)
      → AllZip (IsPassedOrBehind survey limit cutoff) (enumerate_from n candidates) found → fold lesser least found ≡ Some best → (least ≡ Some best) ⊎ IsOf candidates best
  from_least cutoff n [] [] least best all same = inl same
  from_least cutoff n [] (own ∷ found) least best all same = absurd all
  from_least cutoff n (candidate ∷ candidates) [] least best all same = absurd all
  from_least cutoff n (candidate ∷ candidates) (None ∷ found) least best all same =
      elim (from_least cutoff (n + 1) candidates found (lesser least None) best all.1 same) [
        | inl h ↦ inl (sym (unchanged least) ∙ h)
        | inr h ↦ inr (further candidate candidates best h)
      ]
  from_least cutoff n (candidate ∷ candidates) (Some freed ∷ found) least best all same =
      elim (from_least cutoff (n + 1) candidates found (lesser least (Some freed)) best all.1 same) [
        | inl h ↦ elim (of_either least freed best h) [
          | inl e ↦ inl e
          | inr e ↦ inr (candidate, (0, omega arith, refl), freed, all.0, e)
        ]
        | inr h ↦ inr (further candidate candidates best h)
      ]

  module _ (one : (own : Survey) (number : Number) (first second : ℕ) → IsFreed own number first → IsFreed own number second → first ≡ second) (cutoff : Option Cutoff) where
    each_least : (n : ℕ) (candidates : List Candidate) (found : List (Option Freed)) (least : Option ℕ) → AllZip (IsPassedOrBehind survey limit cutoff) (enumerate_from n candidates) found
        → (other : Candidate) (own : Freed) → Contains candidates other → Passes survey (beyond limit) other own → IsAtLeast (fold lesser least found) own.left ⊎ ((place : ℕ) × IsBehind cutoff place own.left)
    each_least n [] found least all other own has passes = absurd (omega (arith, has.1))
    each_least n (candidate ∷ candidates) [] least all other own has passes = absurd all
    each_least n (candidate ∷ candidates) (None ∷ found) least all other own (zero, within, is) passes = inr (n, all.0 own (subst (λ (c : Candidate). Passes survey (beyond limit) c own) (sym is) passes))
    each_least n (candidate ∷ candidates) (Some freed ∷ found) least all other own (zero, within, is) passes =
        let same = one survey (number_of other) freed.left own.left (subst (λ (c : Candidate). Passes survey (beyond limit) c freed) is all.0).explains.exact.left passes.explains.exact.left in
        inl (subst (IsAtLeast (fold lesser (lesser least (Some freed)) found)) same (all_kept found (lesser least (Some freed)) freed.left (own_least least freed)))
    each_least n (candidate ∷ candidates) (first ∷ found) least all other own (suc k, within, is) passes = each_least (n + 1) candidates found (lesser least first) all.1 other own (k, omega (arith, within), is) passes

    settled : (least : Option ℕ) (place left : ℕ) → IsSettled least cutoff → IsBehind cutoff place left → IsAtLeast least left
    settled least place left = by cutoff least
      where
        by : (cutoff : Option Cutoff) (least : Option ℕ) → IsSettled least cutoff → IsBehind cutoff place left → IsAtLeast least left
        by None least is behind = absurd behind
        by (Some cutoff) None is behind = absurd is
        by (Some cutoff) (Some least) is (inl more) = omega (arith, is, more)
        by (Some cutoff) (Some least) is (inr (same, later)) = omega (arith, is, same)

    pub best_of : (candidates : List Candidate) (found : List (Option Freed)) → AllZip (IsPassedOrBehind survey limit cutoff) (enumerate_from 0 candidates) found → IsSettled (least_left found) cutoff → IsBestBeyond survey limit candidates (least_left found)
    best_of candidates found all is = by (least_left found) refl
      where
        least : (other : Candidate) (own : Freed) → Contains candidates other → Passes survey (beyond limit) other own → IsAtLeast (least_left found) own.left
        least other own has passes = elim (each_least 0 candidates found None all other own has passes) [
          | inl h ↦ h
          | inr h ↦ settled (least_left found) h.0 own.left is h.1
        ]

        by : (best : Option ℕ) → least_left found ≡ best → IsBestBeyond survey limit candidates best
        by None e = λ other own has passes. subst (λ (m : Option ℕ). IsAtLeast m own.left) e (least other own has passes)
        by (Some best) e = elim (from_least cutoff 0 candidates found None best all e) [
          | inl h ↦ absurd (none_is h)
          | inr (candidate, listed, freed, passes, left) ↦ record {
            candidate = candidate;
            listed = listed;
            freed = freed;
            passes = passes;
            left = left;
            least = λ other own has also. subst (λ (m : Option ℕ). IsAtLeast m own.left) e (least other own has also);
          }
        ]
          where
            none_is : None ≡ Some best → ⊥
            none_is h = grind (arith, h)
