-- Heights in order: what is there, and that no more than the nearest need to be kept.
use Rattle.std.proofs.Common.{◌≡◌, ◌≢◌, ◌+◌, ◌⊎◌, inl, inr, ℕ, zero, suc, Bool, true, false, cond, ℤ, List, [], ◌∷◌, All, Contains, take, refl, subst, sym, ap, ◌∙◌, arith, if◌then◌else◌}
use Rattle.std.specs.List.{AllPairs, insert}
use Rattle.std.specs.Ordering.{int_eq}
use Rattle.std.specs.Prelude.{slice_get, Some}
use Rattle.std.proofs.lemmas.Bool.Decides.{Decides-int_eq}
use Rattle.std.proofs.lemmas.List.Elements.{All-contains, All-cons, All-get_or, All-head, All-nil, All-tail, All-weaker}
use Rattle.th_meant.specs.Inside.Nearest.{place_of, placed}
use Rattle.th_meant.specs.Ranges.{is_nearer}
use Rattle.th_meant.specs.declared.proposed.Proposed.{Proposed}
use Rattle.th_meant.proofs.MemberLemmas.{at_first, in_rest, member_cases, none_in}
use Rattle.th_meant.proofs.OrderLemmas.{nearer-apart, nearer-one, nearer-trans}

pub equal_heights : (x y : ℤ) → int_eq x y ≡ true → x ≡ y
equal_heights x y e = (Decides-int_eq x y).0 e

pub is_equal : (x y : ℤ) → x ≡ y → int_eq x y ≡ true
is_equal x y e = (Decides-int_eq x y).1 e

pub other_heights : (x y : ℤ) → int_eq x y ≡ false → x ≢ y
other_heights x y e same = false≢true' (sym e ∙ is_equal x y same)
  where
    false≢true' : false ≡ true → ⊥
    false≢true' h = cc

module _ (proposed : Proposed) where
  abbrev step : ℤ → ℤ → List ℤ → Bool → Bool → List ℤ
  step height first rest nearer same = if nearer then first ∷ placed proposed height rest else (if same then first ∷ rest else height ∷ first ∷ rest)

  behind_first : (height first : ℤ) (rest : List ℤ) → is_nearer proposed first height ≡ true → placed proposed height (first ∷ rest) ≡ first ∷ placed proposed height rest
  behind_first height first rest e = ap (λ nearer. step height first rest nearer (int_eq first height)) e

  there_already : (height first : ℤ) (rest : List ℤ) → is_nearer proposed first height ≡ false → int_eq first height ≡ true → placed proposed height (first ∷ rest) ≡ first ∷ rest
  there_already height first rest e same = ap (λ nearer. step height first rest nearer (int_eq first height)) e ∙ ap (step height first rest false) same

  before_first : (height first : ℤ) (rest : List ℤ) → is_nearer proposed first height ≡ false → int_eq first height ≡ false → placed proposed height (first ∷ rest) ≡ height ∷ first ∷ rest
  before_first height first rest e other = ap (λ nearer. step height first rest nearer (int_eq first height)) e ∙ ap (step height first rest false) other

  -- cases of a height and a list that begins with another
  by_first : (P : List ℤ → Type 0) (height first : ℤ) (rest : List ℤ) → (is_nearer proposed first height ≡ true → P (first ∷ placed proposed height rest)) → (first ≡ height → P (first ∷ rest)) → (is_nearer proposed height first ≡ true → P (height ∷ first ∷ rest)) → P (placed proposed height (first ∷ rest))
  by_first P height first rest behind there before = go (is_nearer proposed first height) (int_eq first height) refl refl
    where
      go : (nearer same : Bool) → is_nearer proposed first height ≡ nearer → int_eq first height ≡ same → P (placed proposed height (first ∷ rest))
      go true same n s = subst P (sym (behind_first height first rest n)) (behind n)
      go false true n s = subst P (sym (there_already height first rest n s)) (there (equal_heights first height s))
      go false false n s = subst P (sym (before_first height first rest n s)) (before (nearer-one proposed first height (other_heights first height s) n))

  -- ---- what is there
  pub placed_has : (height : ℤ) (kept : List ℤ) → Contains (placed proposed height kept) height
  placed_has height [] = at_first height []
  placed_has height (first ∷ rest) = by_first (λ own. Contains own height) height first rest
      (λ behind. in_rest first height (placed proposed height rest) (placed_has height rest))
      (λ same. subst (λ (own : ℤ). Contains (first ∷ rest) own) same (at_first first rest))
      (λ before. at_first height (first ∷ rest))

  pub placed_keeps : (height own : ℤ) (kept : List ℤ) → Contains kept own → Contains (placed proposed height kept) own
  placed_keeps height own [] among = absurd (none_in own among)
  placed_keeps height own (first ∷ rest) among = by_first (λ list. Contains list own) height first rest
      (λ behind. go (member_cases first own rest among) (placed_keeps height own rest))
      (λ same. among)
      (λ before. in_rest height own (first ∷ rest) among)
    where
      go : (first ≡ own) ⊎ Contains rest own → (Contains rest own → Contains (placed proposed height rest) own) → Contains (first ∷ placed proposed height rest) own
      go (inl same) later = subst (λ (other : ℤ). Contains (first ∷ placed proposed height rest) other) same (at_first first (placed proposed height rest))
      go (inr among) later = in_rest first own (placed proposed height rest) (later among)

  pub placed_cases : (height own : ℤ) (kept : List ℤ) → Contains (placed proposed height kept) own → (height ≡ own) ⊎ Contains kept own
  placed_cases height own [] among = member_cases height own [] among
  placed_cases height own (first ∷ rest) among = by_first (λ list. Contains list own → (height ≡ own) ⊎ Contains (first ∷ rest) own) height first rest
      (λ behind among. go (member_cases first own (placed proposed height rest) among) (placed_cases height own rest))
      (λ same among. inr among)
      (λ before among. member_cases height own (first ∷ rest) among)
      among
    where
      go : (first ≡ own) ⊎ Contains (placed proposed height rest) own → (Contains (placed proposed height rest) own → (height ≡ own) ⊎ Contains rest own) → (height ≡ own) ⊎ Contains (first ∷ rest) own
      go (inl same) later = inr (subst (λ (other : ℤ). Contains (first ∷ rest) other) same (at_first first rest))
      go (inr among) later = elim (later among) [ inl same ↦ inl same | inr there ↦ inr (in_rest first own rest there) ]

  -- ---- each is nearer than those behind it
  abbrev IsFirst : ℤ → List ℤ → Type 0
  IsFirst height rest = All (λ (other : ℤ). is_nearer proposed height other ≡ true) rest

  abbrev pub Ascend : List ℤ → Type 0
  Ascend [] = Unit {0}
  Ascend (height ∷ rest) = IsFirst height rest × Ascend rest

  all_placed : (P : ℤ → Type 0) (height : ℤ) (kept : List ℤ) → P height → All P kept → All P (placed proposed height kept)
  all_placed P height [] one all = All-cons P height [] one all
  all_placed P height (first ∷ rest) one all = by_first (All P) height first rest
      (λ behind. All-cons P first (placed proposed height rest) (All-head P first rest all) (all_placed P height rest one (All-tail P first rest all)))
      (λ same. all)
      (λ before. All-cons P height (first ∷ rest) one all)

  pub placed_ascends : (height : ℤ) (kept : List ℤ) → Ascend kept → Ascend (placed proposed height kept)
  placed_ascends height [] up = (All-nil (λ (other : ℤ). is_nearer proposed height other ≡ true), tt)
  placed_ascends height (first ∷ rest) up = by_first Ascend height first rest
      (λ behind. (all_placed (λ (other : ℤ). is_nearer proposed first other ≡ true) height rest behind up.0, placed_ascends height rest up.1))
      (λ same. up)
      (λ before. (
        All-cons (λ (other : ℤ). is_nearer proposed height other ≡ true) first rest before
            (All-weaker (λ (other : ℤ). is_nearer proposed first other ≡ true) (λ (other : ℤ). is_nearer proposed height other ≡ true) (λ other later. nearer-trans proposed height first other before later) rest up.0),
        up,
      ))

  pub ordered : (heights : List ℤ) → Ascend heights → AllPairs (λ one other. is_nearer proposed one other ≡ true) heights
  ordered [] up i j d before within = absurd (omega (arith, within))
  ordered (first ∷ rest) up zero zero d before within = absurd (omega (arith, before))
  ordered (first ∷ rest) up zero (suc j) d before within = All-get_or (λ (other : ℤ). is_nearer proposed first other ≡ true) rest j d (omega arith) up.0
  ordered (first ∷ rest) up (suc i) zero d before within = absurd (omega (arith, before))
  ordered (first ∷ rest) up (suc i) (suc j) d before within = ordered rest up.1 i j d (omega arith) (omega arith)

  pub ascends : (heights : List ℤ) → AllPairs (λ one other. is_nearer proposed one other ≡ true) heights → Ascend heights
  ascends [] pairs = tt
  ascends (first ∷ rest) pairs =
      (λ k d within. pairs 0 (suc k) d (omega arith) (omega arith), ascends rest (λ i j d before within. pairs (suc i) (suc j) d (omega arith) (omega arith)))

  -- two lists in order that have the same are one
  pub one_list : (xs ys : List ℤ) → Ascend xs → Ascend ys → ((z : ℤ) → Contains xs z → Contains ys z) → ((z : ℤ) → Contains ys z → Contains xs z) → xs ≡ ys
  one_list [] [] up also there back = refl
  one_list [] (y ∷ ys) up also there back = absurd (none_in y (back y (at_first y ys)))
  one_list (x ∷ xs) [] up also there back = absurd (none_in x (there x (at_first x xs)))
  one_list (x ∷ xs) (y ∷ ys) up also there back =
      let first : x ≡ y = same_first (member_cases y x ys (there x (at_first x xs))) (member_cases x y xs (back y (at_first y ys))) in
      let rest : xs ≡ ys = one_list xs ys up.1 also.1 (narrow x y xs ys first up.0 there) (narrow y x ys xs (sym first) also.0 back) in
      cc
    where
      same_first : (y ≡ x) ⊎ Contains ys x → (x ≡ y) ⊎ Contains xs y → x ≡ y
      same_first (inl same) other = sym same
      same_first (inr later) (inl same) = same
      same_first (inr later) (inr behind) =
          let one = All-contains (λ (other : ℤ). is_nearer proposed y other ≡ true) ys x also.0 later in
          let two = All-contains (λ (other : ℤ). is_nearer proposed x other ≡ true) xs y up.0 behind in
          absurd (nearer-apart proposed x x (nearer-trans proposed x y x two one) refl)

      narrow : (a b : ℤ) (list other : List ℤ) → a ≡ b → IsFirst a list → ((z : ℤ) → Contains (a ∷ list) z → Contains (b ∷ other) z) → (z : ℤ) → Contains list z → Contains other z
      narrow a b list other same first all z among = go (member_cases b z other (all z (in_rest a z list among)))
        where
          go : (b ≡ z) ⊎ Contains other z → Contains other z
          go (inl is) = absurd (nearer-apart proposed a z (All-contains (λ (other : ℤ). is_nearer proposed a other ≡ true) list z first among) (same ∙ is))
          go (inr there) = there

  -- ---- as many as are kept do
  take_twice : (m : ℕ) (x : ℤ) (rest : List ℤ) → take m (x ∷ take m rest) ≡ take m (x ∷ rest)
  take_twice zero x rest = refl
  take_twice (suc m) x rest = ap (λ own. x ∷ own) (take_less m rest)
    where
      take_less : (m : ℕ) (rest : List ℤ) → take m (take (suc m) rest) ≡ take m rest
      take_less zero rest = refl
      take_less (suc m) [] = refl
      take_less (suc m) (y ∷ rest) = ap (λ own. y ∷ own) (take_less m rest)

  take_same : (m : ℕ) (rest : List ℤ) → take m (take m rest) ≡ take m rest
  take_same zero rest = refl
  take_same (suc m) [] = refl
  take_same (suc m) (y ∷ rest) = ap (λ own. y ∷ own) (take_same m rest)

  pub taken_placed : (m : ℕ) (height : ℤ) (kept : List ℤ) → take m (placed proposed height (take m kept)) ≡ take m (placed proposed height kept)
  taken_placed zero height kept = refl
  taken_placed (suc m) height [] = refl
  taken_placed (suc m) height (first ∷ rest) = go (taken_placed m height rest) (is_nearer proposed first height) (int_eq first height) refl refl
    where
      go : take m (placed proposed height (take m rest)) ≡ take m (placed proposed height rest) → (nearer same : Bool) → is_nearer proposed first height ≡ nearer → int_eq first height ≡ same → take (suc m) (placed proposed height (first ∷ take m rest)) ≡ take (suc m) (placed proposed height (first ∷ rest))
      go later true same n s = ap (take (suc m)) (behind_first height first (take m rest) n) ∙ ap (λ own. first ∷ own) later ∙ ap (take (suc m)) (sym (behind_first height first rest n))
      go later false true n s = ap (take (suc m)) (there_already height first (take m rest) n s) ∙ ap (λ own. first ∷ own) (take_same m rest) ∙ ap (take (suc m)) (sym (there_already height first rest n s))
      go later false false n s = ap (take (suc m)) (before_first height first (take m rest) n s) ∙ ap (λ own. height ∷ own) (take_twice m first rest) ∙ ap (take (suc m)) (sym (before_first height first rest n s))

  -- ---- the place of a height
  abbrev place_if : ℤ → List ℤ → Bool → ℕ
  place_if height rest nearer = cond nearer (1 + place_of proposed height rest) 0

  pub put_in_place : (height : ℤ) (kept : List ℤ) → (slice_get kept (place_of proposed height kept) ≡ Some height → ⊥) → placed proposed height kept ≡ insert kept (place_of proposed height kept) height
  put_in_place height [] new = refl
  put_in_place height (first ∷ rest) new = go (put_in_place height rest) (is_nearer proposed first height) (int_eq first height) refl refl
    where
      next : 1 + place_of proposed height rest ≡ suc (place_of proposed height rest)
      next = omega arith

      go : ((slice_get rest (place_of proposed height rest) ≡ Some height → ⊥) → placed proposed height rest ≡ insert rest (place_of proposed height rest) height) → (nearer same : Bool) → is_nearer proposed first height ≡ nearer → int_eq first height ≡ same → placed proposed height (first ∷ rest) ≡ insert (first ∷ rest) (place_of proposed height (first ∷ rest)) height
      go later true same n s =
          let place : place_of proposed height (first ∷ rest) ≡ suc (place_of proposed height rest) = ap (place_if height rest) n ∙ next in
          behind_first height first rest n
          ∙ ap (λ own. first ∷ own) (later (λ there. new (ap (slice_get (first ∷ rest)) place ∙ there)))
          ∙ ap (λ own. insert (first ∷ rest) own height) (sym place)
      go later false true n s =
          let place : place_of proposed height (first ∷ rest) ≡ 0 = ap (place_if height rest) n in
          absurd (new (ap (slice_get (first ∷ rest)) place ∙ ap Some (equal_heights first height s)))
      go later false false n s =
          let place : place_of proposed height (first ∷ rest) ≡ 0 = ap (place_if height rest) n in
          before_first height first rest n s ∙ ap (λ own. insert (first ∷ rest) own height) (sym place)

  pub there_in_place : (height : ℤ) (kept : List ℤ) → slice_get kept (place_of proposed height kept) ≡ Some height → placed proposed height kept ≡ kept
  there_in_place height [] there = cc
  there_in_place height (first ∷ rest) there = go (there_in_place height rest) (is_nearer proposed first height) refl
    where
      next : 1 + place_of proposed height rest ≡ suc (place_of proposed height rest)
      next = omega arith

      go : (slice_get rest (place_of proposed height rest) ≡ Some height → placed proposed height rest ≡ rest) → (nearer : Bool) → is_nearer proposed first height ≡ nearer → placed proposed height (first ∷ rest) ≡ first ∷ rest
      go later true n =
          let place : place_of proposed height (first ∷ rest) ≡ suc (place_of proposed height rest) = ap (place_if height rest) n ∙ next in
          behind_first height first rest n
          ∙ ap (λ own. first ∷ own) (later (sym (ap (slice_get (first ∷ rest)) place) ∙ there))
      go later false n =
          let place : place_of proposed height (first ∷ rest) ≡ 0 = ap (place_if height rest) n in
          let is : Some first ≡ Some height = sym (ap (slice_get (first ∷ rest)) place) ∙ there in
          let same : first ≡ height = cc in
          there_already height first rest n (is_equal first height same)
