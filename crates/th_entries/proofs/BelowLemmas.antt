-- The last place below a bound that passes a test, how many do, and what the places give.
use Rattle.std.proofs.Common.{◌≡◌, ℕ, zero, suc, ◌+◌, ◌<◌, ◌≤◌, ◌⊎◌, inl, inr, Bool, true, false, cond, List, ◌∷◌, ◌++◌, Some, None, refl, sym, ap, ◌∙◌, subst, arith, append_assoc}
use Rattle.std.proofs.lemmas.Bool.{cases_order, cond-false, cond-true}
use Rattle.std.proofs.lemmas.Option.{none-some, same_Some}
use Rattle.th_book.specs.Places.{last_below}
use Rattle.th_entries.specs.Below.{all_below, count_below}

-- the last place lies below the bound
pub last-lt : (test : ℕ → Bool) (bound place : ℕ) → last_below test bound ≡ Some place → place < bound
last-lt test zero place h = absurd (none-some place h)
last-lt test (suc bound) place h = go (test bound) h (last-lt test bound place)
  where
    go : (passes : Bool) → cond passes (Some bound) (last_below test bound) ≡ Some place → (last_below test bound ≡ Some place → place < bound) → place < suc bound
    go true e below = omega (arith, same_Some bound place e)
    go false e below = omega (arith, below e)

-- and passes the test
pub last-true : (test : ℕ → Bool) (bound place : ℕ) → last_below test bound ≡ Some place → test place ≡ true
last-true test zero place h = absurd (none-some place h)
last-true test (suc bound) place h = go (test bound) refl h (last-true test bound place)
  where
    go : (passes : Bool) → test bound ≡ passes → cond passes (Some bound) (last_below test bound) ≡ Some place → (last_below test bound ≡ Some place → test place ≡ true) → test place ≡ true
    go true is e below = ap test (sym (same_Some bound place e)) ∙ is
    go false is e below = below e

-- and none behind it does
pub last-after : (test : ℕ → Bool) (bound place k : ℕ) → last_below test bound ≡ Some place → place < k → k < bound → test k ≡ false
last-after test zero place k h after below = absurd (none-some place h)
last-after test (suc bound) place k h after below = go (test bound) refl h (cases_order k bound) (last-after test bound place k)
  where
    go : (passes : Bool) → test bound ≡ passes → cond passes (Some bound) (last_below test bound) ≡ Some place → (k ≡ bound) ⊎ ((k < bound) ⊎ (bound < k)) → (last_below test bound ≡ Some place → place < k → k < bound → test k ≡ false) → test k ≡ false
    go true is e order rest = absurd (omega (arith, same_Some bound place e, after, below))
    go false is e (inl same) rest = ap test same ∙ is
    go false is e (inr (inl before)) rest = rest e after before
    go false is e (inr (inr behind)) rest = absurd (omega (arith, behind, below))

-- which says which place it is
pub last-is : (test : ℕ → Bool) (bound place : ℕ) → place < bound → test place ≡ true → ((k : ℕ) → place < k → k < bound → test k ≡ false) → last_below test bound ≡ Some place
last-is test zero place within passes fails = absurd (omega (arith, within))
last-is test (suc bound) place within passes fails = go (cases_order place bound) (λ before. last-is test bound place before passes (λ k after below. fails k after (omega (arith, below))))
  where
    go : (place ≡ bound) ⊎ ((place < bound) ⊎ (bound < place)) → (place < bound → last_below test bound ≡ Some place) → last_below test (suc bound) ≡ Some place
    go (inl same) rest = cond-true (test bound) (Some bound) (last_below test bound) (ap test (sym same) ∙ passes) ∙ ap Some (sym same)
    go (inr (inl before)) rest = cond-false (test bound) (Some bound) (last_below test bound) (fails bound before (omega arith)) ∙ rest before
    go (inr (inr behind)) rest = absurd (omega (arith, behind, within))

-- there is none where none passes
pub last-none : (test : ℕ → Bool) (bound : ℕ) → ((k : ℕ) → k < bound → test k ≡ false) → last_below test bound ≡ None
last-none test zero fails = refl
last-none test (suc bound) fails =
    cond-false (test bound) (Some bound) (last_below test bound) (fails bound (omega arith)) ∙ last-none test bound (λ k below. fails k (omega (arith, below)))

-- where there is none, none passes
pub none-below : (test : ℕ → Bool) (bound k : ℕ) → last_below test bound ≡ None → k < bound → test k ≡ false
none-below test zero k none below = absurd (omega (arith, below))
none-below test (suc bound) k none below = go (test bound) refl none (cases_order k bound) (none-below test bound k)
  where
    go : (passes : Bool) → test bound ≡ passes → cond passes (Some bound) (last_below test bound) ≡ None → (k ≡ bound) ⊎ ((k < bound) ⊎ (bound < k)) → (last_below test bound ≡ None → k < bound → test k ≡ false) → test k ≡ false
    go true is e order rest = absurd (none-some bound (sym e))
    go false is e (inl same) rest = ap test same ∙ is
    go false is e (inr (inl before)) rest = rest e before
    go false is e (inr (inr behind)) rest = absurd (omega (arith, behind, below))

-- a count is at most its bound
pub count-le : (test : ℕ → Bool) (bound : ℕ) → count_below test bound ≤ bound
count-le test zero = omega arith
count-le test (suc bound) = go (test bound) (count-le test bound)
  where
    go : (passes : Bool) → count_below test bound ≤ bound → count_below test bound + cond passes 1 0 ≤ suc bound
    go true h = omega (arith, h)
    go false h = omega (arith, h)

-- nothing is counted where no place is last
pub count-none : (test : ℕ → Bool) (bound : ℕ) → last_below test bound ≡ None → count_below test bound ≡ 0
count-none test zero h = refl
count-none test (suc bound) h = go (test bound) h (count-none test bound)
  where
    go : (passes : Bool) → cond passes (Some bound) (last_below test bound) ≡ None → (last_below test bound ≡ None → count_below test bound ≡ 0) → count_below test bound + cond passes 1 0 ≡ 0
    go true e rest = absurd (none-some bound (sym e))
    go false e rest = omega (arith, rest e)

-- and something where one is
pub count-some : (test : ℕ → Bool) (bound place : ℕ) → last_below test bound ≡ Some place → 0 < count_below test bound
count-some test zero place h = absurd (none-some place h)
count-some test (suc bound) place h = go (test bound) h (count-some test bound place)
  where
    go : (passes : Bool) → cond passes (Some bound) (last_below test bound) ≡ Some place → (last_below test bound ≡ Some place → 0 < count_below test bound) → 0 < count_below test bound + cond passes 1 0
    go true e rest = omega arith
    go false e rest = omega (arith, rest e)

-- places that give the same have the same lists
pub all-same : {X : Type 0} → (gives other : ℕ → List X) (bound : ℕ) → ((k : ℕ) → k < bound → gives k ≡ other k) → all_below gives bound ≡ all_below other bound
all-same gives other zero same = refl
all-same gives other (suc bound) same =
    ap (λ own. own ++ gives bound) (all-same gives other bound (λ k below. same k (omega (arith, below))))
    ∙ ap (λ own. all_below other bound ++ own) (same bound (omega arith))

-- two lists that differ in one item, with what comes before it and behind it
pub record DiffersIn {X : Type 0} (front : List X) (old new : X) (olds news : List X) : Type 0 where
  pub back : List X
  pub was : olds ≡ front ++ old ∷ back
  pub is : news ≡ front ++ new ∷ back

-- more behind it
DiffersIn-more : {X : Type 0} → (front : List X) (old new : X) (olds news more : List X) → DiffersIn front old new olds news → DiffersIn front old new (olds ++ more) (news ++ more)
DiffersIn-more front old new olds news more d = record {
  back = d.back ++ more;
  was = ap (λ own. own ++ more) d.was ∙ append_assoc front (old ∷ d.back) more;
  is = ap (λ own. own ++ more) d.is ∙ append_assoc front (new ∷ d.back) more;
}

-- where what one place gives differs in one item, all lists do
pub one-differs : {X : Type 0} → (gives other : ℕ → List X) (bound place : ℕ) (front : List X) (old new : X) → place < bound → DiffersIn front old new (gives place) (other place) → ((k : ℕ) → k < place → gives k ≡ other k) → ((k : ℕ) → place < k → gives k ≡ other k) → DiffersIn (all_below gives place ++ front) old new (all_below gives bound) (all_below other bound)
one-differs gives other zero place front old new within d before behind = absurd (omega (arith, within))
one-differs {X} gives other (suc bound) place front old new within d before behind = go (cases_order place bound) (λ below. one-differs gives other bound place front old new below d before behind)
  where
    here : DiffersIn (all_below gives place ++ front) old new (all_below gives (suc place)) (all_below other (suc place))
    here = record {
      back = d.back;
      was = ap (λ own. all_below gives place ++ own) d.was ∙ sym (append_assoc (all_below gives place) front (old ∷ d.back));
      is = ap (λ own. own ++ other place) (sym (all-same gives other place before)) ∙ ap (λ own. all_below gives place ++ own) d.is ∙ sym (append_assoc (all_below gives place) front (new ∷ d.back));
    }

    go : (place ≡ bound) ⊎ ((place < bound) ⊎ (bound < place)) → (place < bound → DiffersIn (all_below gives place ++ front) old new (all_below gives bound) (all_below other bound)) → DiffersIn (all_below gives place ++ front) old new (all_below gives (suc bound)) (all_below other (suc bound))
    go (inl same) rest = subst (λ own. DiffersIn (all_below gives place ++ front) old new (all_below gives (suc own)) (all_below other (suc own))) same here
    go (inr (inl below)) rest =
        let more = DiffersIn-more (all_below gives place ++ front) old new (all_below gives bound) (all_below other bound) (gives bound) (rest below) in
        record { back = more.back; was = more.was; is = ap (λ own. all_below other bound ++ own) (sym (behind bound below)) ∙ more.is }
    go (inr (inr above)) rest = absurd (omega (arith, above, within))
