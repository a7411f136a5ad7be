-- Numbers that pass, and those that may be missing.
use Rattle.std.proofs.Common.{◌≡◌, ◌⊎◌, inl, inr, ℕ, zero, suc, ◌<◌, ◌≤◌, ◌+◌, ◌∙◌, ℤ, false, List, [], ◌∷◌, ◌++◌, Option, None, Some, drop, length, take, replicate, subst, sym, ap, get_or, map, arith}
use Rattle.std.proofs.lemmas.List.FromFn.{get_or-enumerate_from}
use Rattle.std.specs.List.{AllZip, enumerate_from}
use Rattle.th_explain.specs.Explained.{Explains, IsAtLeast, IsExplainedOrMore, IsLeastInReach}
use Rattle.th_explain.specs.declared.freed.Freed.{Freed}
use Rattle.th_changes.specs.Freed.{IsFreed}
use Rattle.th_changes.specs.declared.cases.Case.{Case}
use Rattle.th_changes.specs.declared.numbers.Number.{Number}
use Rattle.th_network.specs.Networks.{Survey}
use Rattle.th_numbers.specs.Candidates.{number_of, whole_of}
use Rattle.th_numbers.specs.declared.candidates.Candidate.{Candidate}
use Rattle.th_explain_rows.proofs.HalfLemmas.{beyond_half}
use Rattle.th_explain_rows.specs.Inside.Passing.{IsAtMostOrNone, IsFinding, IsMildIf, IsMore, IsMostOf, IsPassedOr, IsPassedOrBehind, freed_of, is_mild}
use Rattle.th_explain_rows.specs.Rows.{IsBehind, LeavesNoMore, Passes, beyond, limit_size}
use Rattle.th_explain_rows.specs.declared.finder.Finding.{Finding}
use Rattle.th_explain_rows.specs.declared.finder.Finding.TheVariants.{Exactly, Mild, More, AtLeast}
use Rattle.th_explain_rows.specs.declared.rows.Cutoff.{Cutoff}

-- what is known of two lists, place by place
pub zip_at : {A C : Type 0} (R : A → C → Type 0) (xs : List A) (ys : List C) (i : ℕ) (x : A) (d : C) → AllZip R xs ys → i < length xs → x ≡ get_or xs i x → R x (get_or ys i d)
zip_at R [] ys i x d all within here = absurd (omega (arith, within))
zip_at R (z ∷ xs) [] i x d all within here = absurd all
zip_at R (z ∷ xs) (v ∷ ys) zero x d all within here = subst (λ own. R own v) (sym here) all.0
zip_at R (z ∷ xs) (v ∷ ys) (suc i) x d all within here = zip_at R xs ys i x d all.1 (omega arith) here

-- an item with its place
pub numbered : (candidates : List Candidate) (k : ℕ) (candidate : Candidate) → k < length candidates → candidate ≡ get_or candidates k candidate → (k, candidate) ≡ get_or (enumerate_from 0 candidates) k (k, candidate)
numbered candidates k candidate within here =
    let same : k ≡ 0 + k = omega arith in
    ap {B = ℕ × Candidate} (λ own. (k, own)) here ∙ ap {B = ℕ × Candidate} (λ n. (n, get_or candidates k candidate)) same ∙ sym (get_or-enumerate_from 0 candidates k (k, candidate) within)

-- as many of the first list as the second has
pub zip_taken : {A C : Type 0} (R : A → C → Type 0) (k : ℕ) (xs : List A) (ys : List C) → AllZip R (take k xs) ys → AllZip R (take (length ys) xs) ys
zip_taken R zero xs [] all = all
zip_taken R zero xs (y ∷ ys) all = absurd all
zip_taken R (suc k) [] [] all = all
zip_taken R (suc k) [] (y ∷ ys) all = absurd all
zip_taken R (suc k) (x ∷ xs) [] all = absurd all
zip_taken R (suc k) (x ∷ xs) (y ∷ ys) all = (all.0, zip_taken R k xs ys all.1)

-- ---- numbers that may be missing
module _ (survey : Survey) (limit : ℤ) where
  pub weaker : (P Q : ℕ → Type 0) (candidate : Candidate) (found : Option Freed) → ((left : ℕ) → P left → Q left) → IsPassedOr survey limit P candidate found → IsPassedOr survey limit Q candidate found
  weaker P Q candidate None less none = λ freed passes. less freed.left (none freed passes)
  weaker P Q candidate (Some freed) less is = is

  -- numbers from a place on
  pub placed : (cutoff : Option Cutoff) (P : ℕ → Type 0) (n : ℕ) (candidates : List Candidate) (found : List (Option Freed)) → ((k left : ℕ) → n ≤ k → P left → IsBehind cutoff k left)
      → AllZip (IsPassedOr survey limit P) candidates found → AllZip (IsPassedOrBehind survey limit cutoff) (enumerate_from n candidates) found
  placed cutoff P n [] [] less all = all
  placed cutoff P n [] (own ∷ found) less all = absurd all
  placed cutoff P n (candidate ∷ candidates) [] less all = absurd all
  placed cutoff P n (candidate ∷ candidates) (own ∷ found) less all = (
    weaker P (IsBehind cutoff n) candidate own (λ left. less n left (omega arith)) all.0,
    placed cutoff P (n + 1) candidates found (λ k left later. less k left (omega (arith, later))) all.1,
  )

  -- the first numbers, of which more is known, and the others
  pub joined : (cutoff : Option Cutoff) (P Q : ℕ → Type 0) (n p : ℕ) (candidates : List Candidate) (first found : List (Option Freed))
      → ((k left : ℕ) → P left → IsBehind cutoff k left) → ((k left : ℕ) → n + p ≤ k → Q left → IsBehind cutoff k left)
      → AllZip (IsPassedOr survey limit P) (take p candidates) first → AllZip (IsPassedOr survey limit Q) candidates found
      → AllZip (IsPassedOrBehind survey limit cutoff) (enumerate_from n candidates) (first ++ drop p found)
  joined cutoff P Q n zero candidates [] found before behind ahead all = placed cutoff Q n candidates found (λ k left later. behind k left (omega (arith, later))) all
  joined cutoff P Q n zero candidates (own ∷ first) found before behind ahead all = absurd ahead
  joined cutoff P Q n (suc p) [] [] [] before behind ahead all = all
  joined cutoff P Q n (suc p) [] [] (other ∷ found) before behind ahead all = absurd all
  joined cutoff P Q n (suc p) [] (own ∷ first) found before behind ahead all = absurd ahead
  joined cutoff P Q n (suc p) (candidate ∷ candidates) [] found before behind ahead all = absurd ahead
  joined cutoff P Q n (suc p) (candidate ∷ candidates) (own ∷ first) [] before behind ahead all = absurd all
  joined cutoff P Q n (suc p) (candidate ∷ candidates) (own ∷ first) (other ∷ found) before behind ahead all = (
    weaker P (IsBehind cutoff n) candidate own (before n) ahead.0,
    joined cutoff P Q (n + 1) p candidates first found before (λ k left later. behind k left (omega (arith, later))) ahead.1 all.1,
  )

  -- ---- what was found of numbers
  more_at_least : (least : Option ℕ) (left : ℕ) → IsMore least left → IsAtLeast least left
  more_at_least None left more = more
  more_at_least (Some least) left more = omega (arith, more)

  freed_pass : (least : Option ℕ) (candidate : Candidate) (finding : Finding) → IsFinding survey limit least candidate finding → IsPassedOr survey limit (IsAtLeast least) candidate (freed_of finding)
  freed_pass least candidate (Exactly freed) is = is
  freed_pass least candidate Mild is = λ freed passes. more_at_least least freed.left (is freed (beyond_half survey limit candidate freed passes))
  freed_pass least candidate More is = λ freed passes. more_at_least least freed.left (is freed passes)
  freed_pass least candidate AtLeast is = is

  pub all_freed_pass : (least : Option ℕ) (candidates : List Candidate) (findings : List Finding) → AllZip (IsFinding survey limit least) candidates findings → AllZip (IsPassedOr survey limit (IsAtLeast least)) candidates (map freed_of findings)
  all_freed_pass least [] [] all = all
  all_freed_pass least [] (own ∷ findings) all = absurd all
  all_freed_pass least (candidate ∷ candidates) [] all = absurd all
  all_freed_pass least (candidate ∷ candidates) (own ∷ findings) all = (freed_pass least candidate own all.0, all_freed_pass least candidates findings all.1)

  -- ---- of which numbers none passes beyond half of the limit
  mild_if : (cutoff : Option Cutoff) (least : Option ℕ) (place : ℕ) (candidate : Candidate) (finding : Finding) → ((left : ℕ) → IsMore least left → IsBehind cutoff place left) → IsFinding survey limit least candidate finding
      → IsMildIf survey limit cutoff (place, candidate) (is_mild finding)
  mild_if cutoff least place candidate (Exactly freed) behind is known = grind (arith, known)
  mild_if cutoff least place candidate Mild behind is known = λ freed passes. behind freed.left (is freed passes)
  mild_if cutoff least place candidate More behind is known = grind (arith, known)
  mild_if cutoff least place candidate AtLeast behind is known = grind (arith, known)

  pub all_mild_if : (cutoff : Option Cutoff) (least : Option ℕ) (n : ℕ) (candidates : List Candidate) (findings : List Finding) → ((place left : ℕ) → IsMore least left → IsBehind cutoff place left)
      → AllZip (IsFinding survey limit least) candidates findings → AllZip (IsMildIf survey limit cutoff) (enumerate_from n candidates) (map is_mild findings)
  all_mild_if cutoff least n [] [] behind all = all
  all_mild_if cutoff least n [] (own ∷ findings) behind all = absurd all
  all_mild_if cutoff least n (candidate ∷ candidates) [] behind all = absurd all
  all_mild_if cutoff least n (candidate ∷ candidates) (own ∷ findings) behind all = (mild_if cutoff least n candidate own (behind n) all.0, all_mild_if cutoff least (n + 1) candidates findings behind all.1)

  -- it may be known of none
  pub none_mild : (cutoff : Option Cutoff) (n : ℕ) (candidates : List Candidate) → AllZip (IsMildIf survey limit cutoff) (enumerate_from n candidates) (replicate (length candidates) false)
  none_mild cutoff n [] = tt
  none_mild cutoff n (candidate ∷ candidates) = (λ known. grind (arith, known), none_mild cutoff (n + 1) candidates)

  -- ---- a change passes if it leaves no more than its whole entry
  leads_at_most : (whole : Number) (most left : ℕ) → IsLeastInReach survey whole most → LeavesNoMore survey (Some whole) left → left ≤ most
  leads_at_most whole most left is leads =
      let (x, near, (heights, kept, same)) = is.reached in
      let less = leads x heights near kept in
      omega (arith, less, same)

  at_most_leads : (whole : Number) (most left : ℕ) → IsLeastInReach survey whole most → left ≤ most → LeavesNoMore survey (Some whole) left
  at_most_leads whole most left is less x heights near kept = let least = is.least x heights near kept in omega (arith, less, least)

  pub most_of : (whole : Number) (most : ℕ) → IsLeastInReach survey whole most → IsMostOf survey whole most
  most_of whole most is = record {
    leads = λ left. at_most_leads whole most left is;
    only = λ left. leads_at_most whole most left is;
  }

  module _ (candidate : Candidate) (whole : Number) (part : whole_of candidate ≡ Some whole) (most : ℕ) (is : IsMostOf survey whole most) where
    pub change_passes : (freed : Freed) → Explains survey (limit_size limit) (number_of candidate) freed → freed.left ≤ most → Passes survey (beyond limit) candidate freed
    change_passes freed explains less = record {
      explains = explains;
      leads = subst (λ (own : Option Number). LeavesNoMore survey own freed.left) (sym part) (is.leads freed.left less);
    }

    left_of_change : (freed : Freed) → Passes survey (beyond limit) candidate freed → freed.left ≤ most
    left_of_change freed passes = is.only freed.left (subst (λ (own : Option Number). LeavesNoMore survey own freed.left) part passes.leads)

    -- a change that is not found leaves at least the one bound, since it leaves less than the other
    pub none_below : (least other nearer : Option ℕ) → ((left : ℕ) → IsAtLeast nearer left → IsAtLeast least left ⊎ IsAtLeast other left) → ((left : ℕ) → IsAtLeast other left → most < left)
        → IsExplainedOrMore survey (limit_size limit) nearer (number_of candidate) None → IsPassedOr survey limit (IsAtLeast least) candidate None
    none_below least other nearer either more none freed passes =
        elim (either freed.left (none freed passes.explains)) [
          | inl h ↦ h
          | inr h ↦
              let above = more freed.left h in
              let below = left_of_change freed passes in
              absurd (omega (arith, above, below))
        ]

    -- nor does one pass that leaves more than its entry
    pub none_above : ((own : Survey) (number : Number) (first second : ℕ) → IsFreed own number first → IsFreed own number second → first ≡ second)
        → (least : Option ℕ) (found : Freed) → Explains survey (limit_size limit) (number_of candidate) found → most < found.left → IsPassedOr survey limit (IsAtLeast least) candidate None
    none_above one least found explains more freed passes =
        let same = one survey (number_of candidate) found.left freed.left explains.exact.left passes.explains.exact.left in
        let below = left_of_change freed passes in
        absurd (omega (arith, same, more, below))

    pub change_found : ((own : Survey) (number : Number) (first second : ℕ) → IsFreed own number first → IsFreed own number second → first ≡ second)
        → (least other nearer : Option ℕ) → ((left : ℕ) → IsAtLeast nearer left → IsAtLeast least left ⊎ IsAtLeast other left) → ((left : ℕ) → IsAtLeast other left → most < left)
        → (found own : Option Freed) → IsExplainedOrMore survey (limit_size limit) nearer (number_of candidate) found → IsAtMostOrNone most found own → IsPassedOr survey limit (IsAtLeast least) candidate own
    change_found one least other nearer either more None own none at = subst (IsPassedOr survey limit (IsAtLeast least) candidate) (sym at) (none_below least other nearer either more none)
    change_found one least other nearer either more (Some found) None explains above = none_above one least found explains above
    change_found one least other nearer either more (Some found) (Some own) explains (same, less) = subst (Passes survey (beyond limit) candidate) (sym same) (change_passes found explains less)

-- what is explained of one case is explained of another that is the same
pub explained_in : (before after : Case) (limit size : ℕ) (number own : Number) (least : Option ℕ) (found : Option Freed) → before ≡ after → limit ≡ size → number ≡ own → IsExplainedOrMore before.network.now limit least number found → IsExplainedOrMore after.network.now size least own found
explained_in before after limit size number own least found case same_limit same_number is =
    subst (λ (case : Case). IsExplainedOrMore case.network.now size least own found) case
    (subst (λ (size : ℕ). IsExplainedOrMore before.network.now size least own found) same_limit
    (subst (λ (own : Number). IsExplainedOrMore before.network.now limit least own found) same_number is))
