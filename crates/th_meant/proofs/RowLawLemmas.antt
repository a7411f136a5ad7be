-- What the heights stand for that are named.
use Rattle.std.proofs.Common.{◌≡◌, ◌⊎◌, inl, inr, ◌&&◌, ℕ, suc, ◌+◌, ℤ, Bool, true, false, List, [], ◌∷◌, ◌++◌, All, Contains, Option, None, Some, IfSome, append_assoc, filter, find, if◌then◌else◌, length, refl, slice_get, subst, sym, ◌==◌, arith}
use Rattle.std.specs.List.{AllZip, enumerate_from, flat_map}
use Rattle.std.proofs.lemmas.Bool.{false≢true}
use Rattle.std.proofs.lemmas.Bool.Decides.{nat_tests}
use Rattle.std.proofs.lemmas.List.{length-append}
use Rattle.std.proofs.lemmas.List.Elements.{All-append, All-cons, All-contains_itself, All-filter, All-head, All-map, All-nil, All-tail, All-weaker, filter_passes}
use Rattle.th_entries.specs.declared.entries.Entry.{Entry}
use Rattle.th_entries.specs.declared.entries.HeightKind.{HeightKind}
use Rattle.th_entries.specs.declared.entries.HeightKind.TheVariants as height
use Rattle.th_explain_texts.specs.Sentences.{is_first}
use Rattle.th_explain_texts.specs.declared.rows.Named.{Named}
use Rattle.th_explain_texts.specs.declared.rows.Row.{Row}
use Rattle.th_explain_texts.specs.declared.rows.Values.{Values}
use Rattle.th_meant.specs.Meant.{AreNamed, IsCandidate}
use Rattle.th_meant.specs.declared.proposed.Proposed.{Proposed}
use Rattle.th_meant.specs.declared.typed.Typed.{Typed}
use Rattle.th_meant.specs.Doubted.{IsDoubted, IsMeant}
use Rattle.th_meant.specs.Keyed.{are_values, doubts, entry_of, heights_of, is_in_force, is_of_row, keyed_as, keyed_at, keyed_if, keyed_in, keyed_with, tolerance_of}
use Rattle.th_meant.specs.Named.{AreNamedBy, AreNamedIn, first_of, is_pole_elsewhere, joined, named_with, others_of, poles_first, typed_of}
use Rattle.th_meant.specs.declared.keyed.Keyed.{Keyed}
use Rattle.th_numbers.specs.Lists.{is_kind}

module _ {X A : Type 0} (f : X → List A) (P : A → Type 0) where
  all_flat : (xs : List X) → All (λ (x : X). All P (f x)) xs → All P (flat_map f xs)
  all_flat [] all = All-nil P
  all_flat (x ∷ xs) all = All-append P (f x) (flat_map f xs) (All-head (λ (x : X). All P (f x)) x xs all) (all_flat xs (All-tail (λ (x : X). All P (f x)) x xs all))

-- ---- lists
weaker : {X : Type 0} (P Q : X → Type 0) (o : Option X) → ((x : X) → P x → Q x) → IfSome o P → IfSome o Q
weaker P Q None more holds = tt
weaker P Q (Some x) more holds = more x holds

there : {X : Type 0} (y x : X) (ys : List X) → Contains ys x → Contains (y ∷ ys) x
there y x ys (k, within, is) = (suc k, omega arith, is)

found : {X : Type 0} (p : X → Bool) (xs : List X) → IfSome (find p xs) (λ (x : X). (p x ≡ true) × Contains xs x)
found p [] = tt
found {X = X} p (y ∷ ys) = by (p y) refl (found p ys)
  where
    by : (b : Bool) → p y ≡ b → IfSome (find p ys) (λ (x : X). (p x ≡ true) × Contains ys x) → IfSome (if b then Some y else find p ys) (λ (x : X). (p x ≡ true) × Contains (y ∷ ys) x)
    by true e rest = (e, (0, omega arith, refl))
    by false e rest = weaker (λ (x : X). (p x ≡ true) × Contains ys x) (λ (x : X). (p x ≡ true) × Contains (y ∷ ys) x) (find p ys) (λ x own. (own.0, there y x ys own.1)) rest

both : (a b : Bool) → (a && b) ≡ true → (a ≡ true) × (b ≡ true)
both true b e = (refl, e)
both false b e = absurd (false≢true e)

-- each item is at its place
abbrev IsAt : {X : Type 0} → List X → ℕ × X → Type 0
IsAt xs (place, x) = slice_get xs place ≡ Some x

all_places : {X : Type 0} (before xs : List X) → All (IsAt (before ++ xs)) (enumerate_from (length before) xs)
all_places {X = X} before [] = All-nil (IsAt (before ++ []))
all_places {X = X} before (x ∷ xs) =
    let same : before ++ x ∷ xs ≡ (before ++ x ∷ []) ++ xs = sym (append_assoc before (x ∷ []) xs) in
    let next : length (before ++ x ∷ []) ≡ length before + 1 = length-append before (x ∷ []) in
    All-cons (IsAt (before ++ x ∷ xs)) (length before, x) (enumerate_from (length before + 1) xs) (at before xs)
    (subst (λ (own : List X). All (IsAt own) (enumerate_from (length before + 1) xs)) (sym same)
    (subst (λ (n : ℕ). All (IsAt ((before ++ x ∷ []) ++ xs)) (enumerate_from n xs)) next (all_places (before ++ x ∷ []) xs)))
  where
    at : (before xs : List X) → slice_get (before ++ x ∷ xs) (length before) ≡ Some x
    at [] xs = refl
    at (y ∷ ys) xs = at ys xs

-- ---- heights that rows doubt
same_kind : (own kind : HeightKind) → is_kind own kind ≡ true → own ≡ kind
same_kind height.Instrument height.Instrument e = refl
same_kind height.Reflector height.Reflector e = refl
same_kind height.Instrument height.Reflector e = absurd (false≢true e)
same_kind height.Reflector height.Instrument e = absurd (false≢true e)

is_one : (number : ℕ) → (number == 1) ≡ true → number ≡ 1
is_one number e = grind (arith, nat_tests)

module _ (entries : List Entry) (tolerance : ℕ) (rows : List Row) where
  abbrev P : Keyed → Type 0
  P = IsDoubted entries tolerance rows

  doubted_as : (place : ℕ) (row : Row) (own : HeightKind) → slice_get rows place ≡ Some row → row.number ≡ 1 → Contains (heights_of row.kind) own → All P (keyed_as entries tolerance (place, row) own)
  doubted_as place row own at first among = go (entry_of entries row own) row.values (found (is_of_row own row) entries) refl
    where
      by : (b : Bool) (entry : Entry) (values : Values) → is_of_row own row entry ≡ true → Contains entries entry → row.values ≡ Some values → All P (if b then keyed_with tolerance row place entry values ∷ [] else [])
      by true entry values used has given =
          let (of_kind, in_force) = both (is_kind entry.kind own) (is_in_force row.book row.line entry) used in
          All-cons P (keyed_with tolerance row place entry values) [] (record {
            row = row;
            there = at;
            first = first;
            kind = subst (λ (kind : HeightKind). Contains (heights_of row.kind) kind) (sym (same_kind entry.kind own of_kind)) among;
            entered = has;
            in_force = in_force;
            values = values;
            given = given;
            fitting = refl;
          }) (All-nil P)
      by false entry values used has given = All-nil P

      go : (o : Option Entry) (v : Option Values) → IfSome o (λ (entry : Entry). (is_of_row own row entry ≡ true) × Contains entries entry) → row.values ≡ v → All P (keyed_if tolerance row place o v)
      go None v one given = All-nil P
      go (Some entry) None one given = All-nil P
      go (Some entry) (Some values) one given = by (doubts row entry && are_values values) entry values one.0 one.1 given

  doubted_at : (placed : ℕ × Row) → IsAt rows placed → All P (keyed_at entries tolerance placed)
  doubted_at (place, row) at = go (is_first row) refl
    where
      go : (b : Bool) → is_first row ≡ b → All P (if b then flat_map (keyed_as entries tolerance (place, row)) (heights_of row.kind) else [])
      go true e =
          all_flat (keyed_as entries tolerance (place, row)) P (heights_of row.kind)
          (All-weaker (Contains (heights_of row.kind)) (λ (own : HeightKind). All P (keyed_as entries tolerance (place, row) own)) (λ own among. doubted_as place row own at (is_one row.number e) among) (heights_of row.kind) (All-contains_itself (heights_of row.kind)))
      go false e = All-nil P

  all_doubted : All P (keyed_in entries tolerance rows)
  all_doubted =
      all_flat (keyed_at entries tolerance) P (enumerate_from 0 rows)
      (All-weaker (IsAt rows) (λ (placed : ℕ × Row). All P (keyed_at entries tolerance placed)) doubted_at (enumerate_from 0 rows) (all_places [] rows))

  -- ---- what is named
  abbrev Q : Named → Type 0
  Q = IsMeant entries tolerance rows

  abbrev Means : Type 0
  Means = (typed : Typed) (others : List ℤ) (proposed : Proposed) (named : List ℤ) (height : ℤ) → AreNamed typed others proposed named → Contains named height → IsCandidate typed others proposed height

  all_by : Means → (keyed : Keyed) (named : List Named) → P keyed → AreNamedBy entries keyed named → All Q named
  all_by means keyed named own (heights, are, is) =
      let others : List ℤ = others_of entries keyed in
      subst (All Q) (sym is)
      (All-map Q (named_with keyed others) heights
      (All-weaker (Contains heights) (λ (height : ℤ). Q (named_with keyed others height))
      (λ height has. record { keyed = keyed; doubted = own; same = refl; candidate = means (typed_of keyed.entry) others keyed.proposed heights height are has })
      heights (All-contains_itself heights)))

  all_joined : Means → (all : List Keyed) (each : List (List Named)) → All P all → AllZip (AreNamedBy entries) all each → All Q (joined each)
  all_joined means [] [] own are = All-nil Q
  all_joined means [] (named ∷ each) own are = absurd are
  all_joined means (keyed ∷ all) [] own are = absurd are
  all_joined means (keyed ∷ all) (named ∷ each) own are =
      All-append Q named (joined each) (all_by means keyed named (All-head P keyed all own) are.0) (all_joined means all each (All-tail P keyed all own) are.1)

first_keeps : (P : Named → Type 0) (all : List Named) → All P all → All P (poles_first all)
first_keeps P all each = go (filter is_pole_elsewhere all) (All-filter is_pole_elsewhere P all each)
  where
    go : (poles : List Named) → All P poles → All P (first_of poles all)
    go [] own = each
    go (pole ∷ poles) own = own

pub all_meant : (entries : List Entry) (limit : ℤ) (rows : List Row) (named : List Named) → Means entries (tolerance_of limit) rows → AreNamedIn entries limit rows named → All (IsMeant entries (tolerance_of limit) rows) named
all_meant entries limit rows named means (each, are, is) =
    subst (All (IsMeant entries (tolerance_of limit) rows)) (sym is)
    (first_keeps (IsMeant entries (tolerance_of limit) rows) (joined each)
    (all_joined entries (tolerance_of limit) rows means (keyed_in entries (tolerance_of limit) rows) each (all_doubted entries (tolerance_of limit) rows) are))

-- ---- poles elsewhere come first
none_passes : {X : Type 0} (p : X → Bool) (xs : List X) → filter p xs ≡ [] → All (λ (x : X). p x ≡ false) xs
none_passes p [] none = All-nil (λ x. p x ≡ false)
none_passes {X = X} p (x ∷ xs) none = by (p x) refl none (none_passes p xs)
  where
    by : (b : Bool) → p x ≡ b → (if b then x ∷ filter p xs else filter p xs) ≡ [] → (filter p xs ≡ [] → All (λ (x : X). p x ≡ false) xs) → All (λ (x : X). p x ≡ false) (x ∷ xs)
    by true e none rest = cc none
    by false e none rest = All-cons (λ (x : X). p x ≡ false) x xs e (rest none)

abbrev Firsts : List Named → Type 0
Firsts own = All (λ (named : Named). is_pole_elsewhere named ≡ true) own ⊎ All (λ (named : Named). is_pole_elsewhere named ≡ false) own

first_poles : (all : List Named) → Firsts (poles_first all)
first_poles all = go (filter is_pole_elsewhere all) refl (filter_passes is_pole_elsewhere all)
  where
    go : (poles : List Named) → filter is_pole_elsewhere all ≡ poles → All (λ (named : Named). is_pole_elsewhere named ≡ true) poles → Firsts (first_of poles all)
    go [] none own = inr (none_passes is_pole_elsewhere all none)
    go (pole ∷ poles) some own = inl own

pub poles_or_none : (entries : List Entry) (limit : ℤ) (rows : List Row) (named : List Named) → AreNamedIn entries limit rows named → Firsts named
poles_or_none entries limit rows named (each, are, is) = subst Firsts (sym is) (first_poles (joined each))
