-- Notes of rows, one row further.
use Rattle.std.proofs.Common.{◌≡◌, ◌<◌, ◌≤◌, ◌+◌, ◌++◌, ◌∷◌, [], ◌||◌, ◌&&◌, ℕ, Bool, true, false, cond, List, Option, None, Some, drop, get_or, length, slice_get, take, refl, sym, ap, ◌∙◌, arith, append_assoc}
use Rattle.std.specs.List.{cons_option, enumerate_from, filter_map, flat_map}
use Rattle.std.proofs.lemmas.Grind.{flat_map-append}
use Rattle.std.proofs.lemmas.List.{append-nil, drop_all, take_more}
use Rattle.std.specs.BTreeSet.{BTreeSet, Updates}
use Rattle.std.specs.Cmp.Lexicographic.{slice_cmp}
use Rattle.std.specs.Ordering.{is_eq, nat_cmp, ordering_then}
use Rattle.std.specs.declared.cmp.Ordering.{Ordering}
use Rattle.std.specs.declared.cmp.Ordering.TheVariants.{Less, Equal, Greater}
use Rattle.std.proofs.lemmas.Option.{get_or_from_slice_get, slice_get_within}
use Rattle.std.proofs.lemmas.Map.Text.{is_eq-slice_cmp}
use Rattle.gsi_word.specs.Names.{same_name, same_pair}
use Rattle.th_columns.proofs.RowLemmas.{drop-first}
use Rattle.th_notes.specs.Inside.Sets.{has_name, has_pair}

-- whether a key is there, after one more
true_more : (b old : Bool) → cond b true old ≡ (old || b)
true_more true true = refl
true_more true false = refl
true_more false true = refl
true_more false false = refl

-- two pairs are one in order where both ends are
both_equal : (first second : Ordering) → is_eq (ordering_then first second) ≡ (is_eq first && is_eq second)
both_equal Less second = refl
both_equal Equal second = refl
both_equal Greater second = refl

-- a set of names has a name more
pub one_more_name : (old new : BTreeSet (List ℕ)) (own name : List ℕ) → Updates (slice_cmp nat_cmp) old new own true → has_name new name ≡ (has_name old name || same_name own name)
one_more_name old new own name updates =
    updates.0 name ∙ true_more (is_eq (slice_cmp nat_cmp own name)) (has_name old name) ∙ ap (λ same. has_name old name || same) (is_eq-slice_cmp own name)

-- the order of pairs
abbrev pair_cmp : List ℕ × List ℕ → List ℕ × List ℕ → Ordering
pair_cmp pair other = ordering_then (slice_cmp nat_cmp pair.0 other.0) (slice_cmp nat_cmp pair.1 other.1)

-- a set of pairs has a pair more
pub one_more_pair : (old new : BTreeSet (List ℕ × List ℕ)) (own ends : List ℕ × List ℕ) → Updates pair_cmp old new own true → has_pair new ends ≡ (has_pair old ends || same_pair own ends)
one_more_pair old new own ends updates =
    updates.0 ends
    ∙ true_more (is_eq (pair_cmp own ends)) (has_pair old ends)
    ∙ ap (λ same. has_pair old ends || same)
    (both_equal (slice_cmp nat_cmp own.0 ends.0) (slice_cmp nat_cmp own.1 ends.1)
    ∙ ap (λ first. first && is_eq (slice_cmp nat_cmp own.1 ends.1)) (is_eq-slice_cmp own.0 ends.0)
    ∙ ap (λ second. same_name own.0 ends.0 && second) (is_eq-slice_cmp own.1 ends.1))

module _ {X Y : Type 0} (start : ℕ) (choose : ℕ × X → Option Y) (rows : List X) where
  -- what is chosen of the rows from a place on, of which the first of all has the number where they start
  abbrev pub chosen_from : ℕ → List Y
  chosen_from k = filter_map choose (enumerate_from (k + start) (drop k rows))

  -- the same, by the first of them
  pub chosen-first : (k : ℕ) (x : X) → slice_get rows k ≡ Some x → chosen_from k ≡ cons_option (choose (k + start, x)) (chosen_from (k + 1))
  chosen-first k x found =
      let within : k < length rows = slice_get_within rows k x found in
      let is : x ≡ get_or rows k x = sym (get_or_from_slice_get rows k x x found) in
      let next : k + start + 1 ≡ k + 1 + start = omega arith in
      ap (λ (left : List X). filter_map choose (enumerate_from (k + start) left)) (drop-first rows k x within is)
      ∙ ap (λ number. cons_option (choose (k + start, x)) (filter_map choose (enumerate_from number (drop (k + 1) rows)))) next

  -- a row of which something is chosen
  pub one_chosen : (k : ℕ) (x : X) (y : Y) (ys ys' all : List Y) → slice_get rows k ≡ Some x → choose (k + start, x) ≡ Some y → ys' ≡ ys ++ y ∷ [] → ys ++ chosen_from k ≡ all → ys' ++ chosen_from (k + 1) ≡ all
  one_chosen k x y ys ys' all found is more so_far =
      ap (λ front. front ++ chosen_from (k + 1)) more
      ∙ append_assoc ys (y ∷ []) (chosen_from (k + 1))
      ∙ ap (λ chosen. ys ++ cons_option chosen (chosen_from (k + 1))) (sym is)
      ∙ ap (λ left. ys ++ left) (sym (chosen-first k x found))
      ∙ so_far

  -- a row of which nothing is
  pub none_chosen : (k : ℕ) (x : X) (ys ys' all : List Y) → slice_get rows k ≡ Some x → choose (k + start, x) ≡ None → ys' ≡ ys → ys ++ chosen_from k ≡ all → ys' ++ chosen_from (k + 1) ≡ all
  none_chosen k x ys ys' all found is same so_far =
      ap (λ front. front ++ chosen_from (k + 1)) same
      ∙ ap (λ chosen. ys ++ cons_option chosen (chosen_from (k + 1))) (sym is)
      ∙ ap (λ left. ys ++ left) (sym (chosen-first k x found))
      ∙ so_far

-- all that is chosen of rows, where none is left
pub all_chosen : {X Y : Type 0} → (choose : ℕ × X → Option Y) (start k : ℕ) (rows : List X) (found all : List Y) → length rows ≤ k → found ++ filter_map choose (enumerate_from (k + start) (drop k rows)) ≡ all → found ≡ all
all_chosen choose start k rows found all past so_far =
    sym (append-nil found) ∙ ap (λ left. found ++ filter_map choose (enumerate_from (k + start) left)) (sym (drop_all k rows past)) ∙ so_far

-- what items give, one item further
pub given_more : {X Y : Type 0} → (give : X → List Y) (xs : List X) (i : ℕ) (x : X) → i < length xs → x ≡ get_or xs i x → flat_map give (take (i + 1) xs) ≡ flat_map give (take i xs) ++ give x
given_more give xs i x within is =
    ap (flat_map give) (take_more xs i x within ∙ ap (λ last. take i xs ++ last ∷ []) (sym is))
    ∙ flat_map-append give (take i xs) (x ∷ [])
    ∙ ap (λ last. flat_map give (take i xs) ++ last) (append-nil (give x))

-- what items give behind what was given before, one item further
pub given_rest : {X Y : Type 0} → (give : X → List Y) (x : X) (left left' : List X) (ys ys' all : List Y) → left ≡ x ∷ left' → ys' ≡ ys ++ give x → ys ++ flat_map give left ≡ all → ys' ++ flat_map give left' ≡ all
given_rest give x left left' ys ys' all first more so_far =
    ap (λ front. front ++ flat_map give left') more
    ∙ append_assoc ys (give x) (flat_map give left')
    ∙ ap (λ left. ys ++ flat_map give left) (sym first)
    ∙ so_far
