-- Entries of one kind in the order of books and lines, and lists from which nothing that passes is missing.
use Rattle.std.proofs.Common.{◌≡◌, ◌<◌, ◌≤◌, ◌+◌, ◌-◌, ◌&&◌, ◌++◌, [], ◌∷◌, ℕ, zero, suc, Bool, true, false, List, Some, cond, drop, get_or, if◌then◌else◌, length, min, refl, subst, take, sym, ap, ◌∙◌, arith}
use Rattle.std.specs.List.{filter, find, flat_map, slice_range}
use Rattle.std.specs.List.Sorted.{IsPartitionedBy}
use Rattle.std.proofs.Math.Nat.{le-min, min-le_left}
use Rattle.std.proofs.lemmas.Bool.Decides.{nat_tests}
use Rattle.std.proofs.lemmas.List.{get_or-drop}
use Rattle.th_observations.specs.Observed.{Observed}
use Rattle.th_entries.specs.declared.entries.Entry.{Entry}
use Rattle.th_entries.specs.declared.entries.HeightKind.{HeightKind}
use Rattle.th_reliability.specs.Sights.{in_sights}
use Rattle.th_review_rows.specs.Entries.{sights_of}
use Rattle.th_numbers.specs.Inside.Kinds.{AreAround, FollowEachOther, is_ended, is_of, precedes}
use Rattle.th_numbers.specs.Lists.{forgotten_at, is_kind, is_part, is_used}
use Rattle.th_numbers.specs.declared.candidates.Candidate.TheVariants.{Since}

-- ---- what passes is in a part of a list
module _ {X : Type 0} (p : X → Bool) where
  pub none_in_front : (xs : List X) (n : ℕ) → ((k : ℕ) (d : X) → k < n → k < length xs → p (get_or xs k d) ≡ false) → filter p (drop n xs) ≡ filter p xs
  none_in_front xs zero none = refl
  none_in_front [] (suc n) none = refl
  none_in_front (x ∷ xs) (suc n) none =
      none_in_front xs n (λ k d below within. none (suc k) d (omega arith) (omega arith))
      ∙ sym (ap (λ (b : Bool). cond b (x ∷ filter p xs) (filter p xs)) (none 0 x (omega arith) (omega arith)))

  none_at_all : (xs : List X) → ((k : ℕ) (d : X) → k < length xs → p (get_or xs k d) ≡ false) → filter p xs ≡ []
  none_at_all [] none = refl
  none_at_all (x ∷ xs) none =
      ap (λ (b : Bool). cond b (x ∷ filter p xs) (filter p xs)) (none 0 x (omega arith)) ∙ none_at_all xs (λ k d within. none (suc k) d (omega arith))

  pub none_behind : (xs : List X) (n : ℕ) → ((k : ℕ) (d : X) → n ≤ k → k < length xs → p (get_or xs k d) ≡ false) → filter p (take n xs) ≡ filter p xs
  none_behind xs zero none = sym (none_at_all xs (λ k d within. none k d (omega arith) within))
  none_behind [] (suc n) none = refl
  none_behind (x ∷ xs) (suc n) none =
      ap (λ (own : List X). cond (p x) (x ∷ own) own) (none_behind xs n (λ k d past within. none (suc k) d (omega arith) (omega arith)))

  pub all_in_range : (xs : List X) (start end : ℕ) → start ≤ end → end ≤ length xs → ((k : ℕ) (d : X) → k < start → p (get_or xs k d) ≡ false) → ((k : ℕ) (d : X) → end ≤ k → k < length xs → p (get_or xs k d) ≡ false)
      → filter p (slice_range xs start end) ≡ filter p xs
  all_in_range xs start end order within below above =
      none_behind (drop start xs) (end - start) (λ k d past inside. ap p (get_or-drop start xs k d) ∙ above (start + k) d (omega arith) (omega (arith, inside, length_drop start xs)))
      ∙ none_in_front xs start (λ k d before inside. below k d before)
    where
      length_drop : (n : ℕ) (xs : List X) → length (drop n xs) ≡ length xs - n
      length_drop zero xs = omega arith
      length_drop (suc n) [] = omega arith
      length_drop (suc n) (x ∷ xs) = length_drop n xs ∙ omega arith

  -- what is made of a list, or found in it, depends on those that pass alone
  pub made_of_kept : {Y : Type 0} → (f : X → List Y) → ((x : X) → p x ≡ false → f x ≡ []) → (xs : List X) → flat_map f (filter p xs) ≡ flat_map f xs
  made_of_kept f nothing [] = refl
  made_of_kept {Y} f nothing (x ∷ xs) = by (p x) refl (made_of_kept f nothing xs)
    where
      by : (b : Bool) → p x ≡ b → flat_map f (filter p xs) ≡ flat_map f xs → flat_map f (cond b (x ∷ filter p xs) (filter p xs)) ≡ f x ++ flat_map f xs
      by true e later = ap (λ (rest : List Y). f x ++ rest) later
      by false e later = later ∙ ap (λ (front : List Y). front ++ flat_map f xs) (sym (nothing x e))

  pub found_in_kept : (xs : List X) → find p (filter p xs) ≡ find p xs
  found_in_kept [] = refl
  found_in_kept (x ∷ xs) = by (p x) refl (found_in_kept xs)
    where
      by : (b : Bool) → p x ≡ b → find p (filter p xs) ≡ find p xs → find p (cond b (x ∷ filter p xs) (filter p xs)) ≡ cond b (Some x) (find p xs)
      by true e later = ap (λ (b : Bool). cond b (Some x) (find p (filter p xs))) e
      by false e later = later

  pub same_made : {Y : Type 0} → (f : X → List Y) → ((x : X) → p x ≡ false → f x ≡ []) → (xs ys : List X) → filter p xs ≡ filter p ys → flat_map f xs ≡ flat_map f ys
  same_made f nothing xs ys same = sym (made_of_kept f nothing xs) ∙ ap (flat_map f) same ∙ made_of_kept f nothing ys

  pub same_found : (xs ys : List X) → filter p xs ≡ filter p ys → find p xs ≡ find p ys
  same_found xs ys same = sym (found_in_kept xs) ∙ ap (find p) same ∙ found_in_kept ys

-- ---- entries of a kind
used_of : (kind : HeightKind) (o : Observed) (entries : List Entry) → filter (is_used kind o) (filter (is_of kind) entries) ≡ filter (is_used kind o) entries
used_of kind o [] = refl
used_of kind o (entry ∷ entries) = by (is_of kind entry) refl (used_of kind o entries)
  where
    by : (b : Bool) → is_of kind entry ≡ b → filter (is_used kind o) (filter (is_of kind) entries) ≡ filter (is_used kind o) entries
        → filter (is_used kind o) (cond b (entry ∷ filter (is_of kind) entries) (filter (is_of kind) entries)) ≡ cond (is_used kind o entry) (entry ∷ filter (is_used kind o) entries) (filter (is_used kind o) entries)
    by true e later = ap (λ (own : List Entry). cond (is_used kind o entry) (entry ∷ own) own) later
    by false e later = later ∙ sym (ap (λ (b : Bool). cond (b && in_sights (sights_of entry) o) (entry ∷ filter (is_used kind o) entries) (filter (is_used kind o) entries)) e)

unused : (kind : HeightKind) (o : Observed) (entry : Entry) → in_sights (sights_of entry) o ≡ false → is_used kind o entry ≡ false
unused kind o entry e = by (is_of kind entry)
  where
    by : (b : Bool) → (b && in_sights (sights_of entry) o) ≡ false
    by true = e
    by false = refl

pub used_around : (kind : HeightKind) (o : Observed) (entries : List Entry) (run : ℕ × ℕ) → AreAround entries o run → filter (is_used kind o) (slice_range entries run.0 run.1) ≡ filter (is_used kind o) entries
used_around kind o entries run are =
    all_in_range (is_used kind o) entries run.0 run.1 are.ordered are.within
    (λ k d below. unused kind o (get_or entries k d) (are.below k d below)) (λ k d past within. unused kind o (get_or entries k d) (are.above k d past within))

pub used_of_kind : (kind : HeightKind) (o : Observed) (own entries found : List Entry) → own ≡ filter (is_of kind) entries → filter (is_used kind o) found ≡ filter (is_used kind o) own → filter (is_used kind o) found ≡ filter (is_used kind o) entries
used_of_kind kind o own entries found is kept = kept ∙ ap (filter (is_used kind o)) is ∙ used_of kind o entries

-- ---- entries in order
ended_too : (book line : ℕ) (entry next : Entry) → precedes entry next ≡ true → is_ended book line next ≡ true → is_ended book line entry ≡ true
ended_too book line entry next order ended = grind (arith, nat_tests)

ended_far : (entries : List Entry) (book line : ℕ) → FollowEachOther entries → (i m : ℕ) (d : Entry) → i + m < length entries → is_ended book line (get_or entries (i + m) d) ≡ true → is_ended book line (get_or entries i d) ≡ true
ended_far entries book line order i zero d within ended =
    let here : i + zero ≡ i = omega arith in
    subst (λ (j : ℕ). is_ended book line (get_or entries j d) ≡ true) here ended
ended_far entries book line order i (suc m) d within ended =
    let next : i + suc m ≡ i + m + 1 = omega arith in
    ended_far entries book line order i m d (omega arith)
    (ended_too book line (get_or entries (i + m) d) (get_or entries (i + m + 1) d) (order (i + m) d (omega arith)) (subst (λ (j : ℕ). is_ended book line (get_or entries j d) ≡ true) next ended))

-- those that end before a line come first
pub ended_first : (entries : List Entry) (book line : ℕ) → FollowEachOther entries → IsPartitionedBy (is_ended book line) entries
ended_first entries book line order i j d le within ended =
    let at : j ≡ i + (j - i) = omega arith in
    ended_far entries book line order i (j - i) d (omega arith) (subst (λ (j : ℕ). is_ended book line (get_or entries j d) ≡ true) at ended)

ended_not_used : (o : Observed) (entry : Entry) → is_ended o.book o.line entry ≡ true → in_sights (sights_of entry) o ≡ false
ended_not_used o entry ended = grind (arith, nat_tests)

behind_not_used : (o : Observed) (entry next : Entry) → is_ended o.book o.line entry ≡ false → precedes entry next ≡ true → in_sights (sights_of next) o ≡ false
behind_not_used o entry next ended order = grind (arith, nat_tests)

pub one_around : (entries : List Entry) (o : Observed) (start end : ℕ) → FollowEachOther entries → start ≤ length entries → ((k : ℕ) (d : Entry) → k < start → is_ended o.book o.line (get_or entries k d) ≡ true)
    → ((k : ℕ) (d : Entry) → start ≤ k → k < length entries → is_ended o.book o.line (get_or entries k d) ≡ false) → end ≡ min (length entries) (start + 1) → AreAround entries o (start, end)
one_around entries o start end order within before behind least = record {
  ordered = let more : start ≤ min (length entries) (start + 1) = le-min within (omega arith) in omega (arith, more, least);
  within = let less = min-le_left (length entries) (start + 1) in omega (arith, less, least);
  below = λ k d less. ended_not_used o (get_or entries k d) (before k d less);
  above = λ k d past here.
      let far : ¬ (k < start + 1) = λ less. let more : k + 1 ≤ min (length entries) (start + 1) = le-min (omega (arith, here)) (omega (arith, less)) in omega (arith, more, least, past) in
      let there : k - 1 + 1 ≡ k = omega (arith, far) in
      behind_not_used o (get_or entries (k - 1) d) (get_or entries k d) (behind (k - 1) d (omega (arith, far)) (omega (arith, here)))
      (subst (λ (j : ℕ). precedes (get_or entries (k - 1) d) (get_or entries j d) ≡ true) there (order (k - 1) d (omega (arith, there, here))));
}

-- ---- forgotten changes
pub not_forgotten : (observations : List Observed) (kind : HeightKind) (o : Observed) (entry : Entry) → is_used kind o entry ≡ false → forgotten_at observations kind o entry ≡ []
not_forgotten observations kind o entry e = by (is_kind entry.kind kind) (in_sights (sights_of entry) o) e
  where
    by : (own among : Bool) → (own && among) ≡ false → (if own && (among && is_part observations o entry) then Since entry o.line ∷ [] else []) ≡ []
    by false among e = refl
    by true false e = refl
    by true true e = cc
