-- A group has a control where some free set holds a point: only sets that differ at points count, and one of these is least.
use Rattle.std.proofs.Common.{◌≡◌, ℕ, zero, suc, Bool, true, false, cond, ◌||◌, ◌+◌, ◌-◌, ◌≤◌, ℤ, List, [], ◌∷◌, filter, Contains, IsSome, is_none, ◌⊎◌, inl, inr, bytes_eq, if◌then◌else◌, sum_by, refl, ap, sym, subst, ◌∙◌, arith}
use Rattle.std.specs.Prelude.{Option, Some, None, slice_index_or}
use Rattle.std.specs.List.{list_any, AllByRecursion}
use Rattle.std.proofs.Math.Path.{fun_ext}
use Rattle.std.proofs.Math.Dec.{leb}
use Rattle.std.proofs.lemmas.Bool.{false≢true, leb-true, leb-false, or_left, or_right}
use Rattle.std.proofs.lemmas.Slice.Eq.{bytes_eq-Decides}
use Rattle.std.proofs.lemmas.List.Elements.{recursion_from_All}
use Rattle.std.proofs.lemmas.List.Sums.{sum_by-cons}
use Rattle.th_observations.specs.Observed.{Observed}
use Rattle.th_tables.specs.Rows.{BenchmarkRows, WeightRows, height_of, weight_of}
use Rattle.th_points.specs.Points.{points}
use Rattle.th_points.proofs.PointLemmas.{bytes_eq_same, is_among}
use Rattle.th_points.proofs.PlaceLemmas.{ends_contained}
use Rattle.th_network.specs.Vertices.{is_free}
use Rattle.th_reliability.specs.Blunders.{weight_in}
use Rattle.th_reliability.specs.Cuts.{IsFreeSet, crosses, differ}
use Rattle.th_reliability.specs.Groups.{IsGroupControl, own_cut, rest_cut}
use Rattle.th_reliability.proofs.SumLemmas.{sums-le}

-- ---- the least of the sets that differ from one at listed names only
-- a set, with a name or without it
abbrev put : (List ℕ → Bool) → List ℕ → Bool → List ℕ → Bool
put base first b name = if bytes_eq name first then b else base name

-- a set is the same as another off the listed names
abbrev IsSameOff : List (List ℕ) → (List ℕ → Bool) → (List ℕ → Bool) → Type 0
IsSameOff names base inside = (name : List ℕ) → is_among names name ≡ false → inside name ≡ base name

-- among these sets one that counts has the least value, or none of them counts
abbrev HasLeast : ((List ℕ → Bool) → Bool) → ((List ℕ → Bool) → ℕ) → List (List ℕ) → (List ℕ → Bool) → Type 0
HasLeast counts value names base =
    ((inside : List ℕ → Bool) × IsSameOff names base inside × (counts inside ≡ true) × ((other : List ℕ → Bool) → IsSameOff names base other → counts other ≡ true → value inside ≤ value other))
    ⊎ ((other : List ℕ → Bool) → IsSameOff names base other → counts other ≡ false)

put_more : (names : List (List ℕ)) (base : List ℕ → Bool) (first : List ℕ) (b : Bool) (inside : List ℕ → Bool) → IsSameOff names (put base first b) inside → IsSameOff (first ∷ names) base inside
put_more names base first b inside same name e = by (bytes_eq name first) (is_among names name) refl refl
  where
    by : (here later : Bool) → bytes_eq name first ≡ here → is_among names name ≡ later → inside name ≡ base name
    by true later f g = absurd (false≢true (sym e ∙ or_left (bytes_eq name first) (is_among names name) f))
    by false true f g = absurd (false≢true (sym e ∙ or_right (bytes_eq name first) (is_among names name) g))
    by false false f g = same name g ∙ ap (λ (here : Bool). if here then b else base name) f

put_less : (names : List (List ℕ)) (base : List ℕ → Bool) (first : List ℕ) (b : Bool) (inside : List ℕ → Bool) → inside first ≡ b → IsSameOff (first ∷ names) base inside → IsSameOff names (put base first b) inside
put_less names base first b inside at same name e = by (bytes_eq name first) refl
  where
    by : (here : Bool) → bytes_eq name first ≡ here → inside name ≡ put base first b name
    by true f = ap inside ((bytes_eq-Decides name first).0 f) ∙ at ∙ sym (ap (λ (here : Bool). if here then b else base name) f)
    by false f = same name (ap (λ (here : Bool). here || is_among names name) f ∙ e) ∙ sym (ap (λ (here : Bool). if here then b else base name) f)

either : (names : List (List ℕ)) (base : List ℕ → Bool) (first : List ℕ) (inside : List ℕ → Bool) → IsSameOff (first ∷ names) base inside → IsSameOff names (put base first true) inside ⊎ IsSameOff names (put base first false) inside
either names base first inside same = by (inside first) refl
  where
    by : (b : Bool) → inside first ≡ b → IsSameOff names (put base first true) inside ⊎ IsSameOff names (put base first false) inside
    by true at = inl (put_less names base first true inside at same)
    by false at = inr (put_less names base first false inside at same)

least : (counts : (List ℕ → Bool) → Bool) (value : (List ℕ → Bool) → ℕ) (names : List (List ℕ)) (base : List ℕ → Bool) → HasLeast counts value names base
least counts value [] base = by (counts base) refl
  where
    is_base : (other : List ℕ → Bool) → IsSameOff [] base other → other ≡ base
    is_base other same = fun_ext (λ name. same name refl)

    by : (b : Bool) → counts base ≡ b → HasLeast counts value [] base
    by true e = inl (base, λ name _. refl, e, λ other same _. let at = ap value (is_base other same) in omega arith)
    by false e = inr (λ other same. ap counts (is_base other same) ∙ e)
least counts value (first ∷ names) base = join (least counts value names (put base first true)) (least counts value names (put base first false))
  where
    join : HasLeast counts value names (put base first true) → HasLeast counts value names (put base first false) → HasLeast counts value (first ∷ names) base
    join (inr none) (inr none') = inr (λ other same. pick other (either names base first other same))
      where
        pick : (other : List ℕ → Bool) → IsSameOff names (put base first true) other ⊎ IsSameOff names (put base first false) other → counts other ≡ false
        pick other (inl same) = none other same
        pick other (inr same) = none' other same
    join (inl (inside, same, here, low)) (inr none') = inl (inside, put_more names base first true inside same, here, λ other same' there. pick other there (either names base first other same'))
      where
        pick : (other : List ℕ → Bool) → counts other ≡ true → IsSameOff names (put base first true) other ⊎ IsSameOff names (put base first false) other → value inside ≤ value other
        pick other there (inl same') = low other same' there
        pick other there (inr same') = absurd (false≢true (sym (none' other same') ∙ there))
    join (inr none) (inl (inside, same, here, low)) = inl (inside, put_more names base first false inside same, here, λ other same' there. pick other there (either names base first other same'))
      where
        pick : (other : List ℕ → Bool) → counts other ≡ true → IsSameOff names (put base first true) other ⊎ IsSameOff names (put base first false) other → value inside ≤ value other
        pick other there (inl same') = absurd (false≢true (sym (none other same') ∙ there))
        pick other there (inr same') = low other same' there
    join (inl (inside, same, here, low)) (inl (inside', same', here', low')) = by (leb (value inside) (value inside')) refl
      where
        pick : (size : ℕ) → size ≤ value inside → size ≤ value inside' → (other : List ℕ → Bool) → counts other ≡ true → IsSameOff names (put base first true) other ⊎ IsSameOff names (put base first false) other → size ≤ value other
        pick size a b other there (inl is) = let less = low other is there in omega arith
        pick size a b other there (inr is) = let less = low' other is there in omega arith

        by : (b : Bool) → leb (value inside) (value inside') ≡ b → HasLeast counts value (first ∷ names) base
        by true e = let less = leb-true (value inside) (value inside') e in
            inl (inside, put_more names base first true inside same, here, λ other is there. pick (value inside) (omega arith) less other there (either names base first other is))
        by false e = let more = leb-false (value inside) (value inside') e in
            inl (inside', put_more names base first false inside' same', here', λ other is there. pick (value inside') (omega arith) (omega arith) other there (either names base first other is))

-- ---- which names are listed
none_kept : (free : List ℕ → Bool) (names : List (List ℕ)) (name : List ℕ) → free name ≡ false → is_among (filter free names) name ≡ false
none_kept free [] name out = refl
none_kept free (first ∷ names) name out = by (free first) refl (none_kept free names name out)
  where
    other : (b : Bool) → bytes_eq name first ≡ b → free first ≡ true → b ≡ false
    other true e here = absurd (false≢true (sym out ∙ ap free ((bytes_eq-Decides name first).0 e) ∙ here))
    other false e here = refl

    by : (b : Bool) → free first ≡ b → is_among (filter free names) name ≡ false → is_among (cond b (first ∷ filter free names) (filter free names)) name ≡ false
    by true e rest = ap (λ (t : Bool). t || is_among (filter free names) name) (other (bytes_eq name first) refl e) ∙ rest
    by false e rest = rest

kept : (free : List ℕ → Bool) (names : List (List ℕ)) (name : List ℕ) → free name ≡ true → Contains names name → is_among (filter free names) name ≡ true
kept free [] name here has = absurd (omega (arith, has.1))
kept free (first ∷ names) name here (zero, within, at) = by (free first) (ap free at ∙ here)
  where
    by : (b : Bool) → b ≡ true → is_among (cond b (first ∷ filter free names) (filter free names)) name ≡ true
    by true e = or_left (bytes_eq name first) (is_among (filter free names) name) (ap (λ x. bytes_eq name x) at ∙ bytes_eq_same name)
    by false e = absurd (false≢true e)
kept free (first ∷ names) name here (suc k, within, at) = by (free first) (kept free names name here (k, omega arith, at))
  where
    by : (b : Bool) → is_among (filter free names) name ≡ true → is_among (cond b (first ∷ filter free names) (filter free names)) name ≡ true
    by true rest = or_right (bytes_eq name first) (is_among (filter free names) name) rest
    by false rest = rest

-- ---- whether a set holds a listed name
holds : (inside : List ℕ → Bool) (names : List (List ℕ)) → list_any inside names ≡ true → (point : List ℕ) × Contains names point × (inside point ≡ true)
holds inside [] e = absurd (false≢true e)
holds inside (first ∷ names) e = by (inside first) refl e (holds inside names)
  where
    more : (point : List ℕ) × Contains names point × (inside point ≡ true) → (point : List ℕ) × Contains (first ∷ names) point × (inside point ≡ true)
    more (point, (k, within, at), there) = (point, (suc k, omega arith, at), there)

    by : (b : Bool) → inside first ≡ b → (b || list_any inside names) ≡ true → (list_any inside names ≡ true → (point : List ℕ) × Contains names point × (inside point ≡ true)) → (point : List ℕ) × Contains (first ∷ names) point × (inside point ≡ true)
    by true here e later = (first, (0, omega arith, refl), here)
    by false here e later = more (later e)

held : (inside : List ℕ → Bool) (names : List (List ℕ)) (point : List ℕ) → Contains names point → inside point ≡ true → list_any inside names ≡ true
held inside [] point has here = absurd (omega (arith, has.1))
held inside (first ∷ names) point (zero, within, at) here = or_left (inside first) (list_any inside names) (ap inside at ∙ here)
held inside (first ∷ names) point (suc k, within, at) here = or_right (inside first) (list_any inside names) (held inside names point (k, omega arith, at) here)

-- ---- sets that are the same at all ends have the same cuts
sums-same : {X : Type 0} (f g : X → ℕ) (xs : List X) → AllByRecursion (λ x. f x ≡ g x) xs → sum_by f xs ≡ sum_by g xs
sums-same f g [] same = refl
sums-same f g (x ∷ xs) same =
    let a = sum_by-cons f x xs in
    let b = sum_by-cons g x xs in
    let one = same.0 in
    let rest = sums-same f g xs same.1 in
    omega arith

abbrev AreSameAt : (List ℕ → Bool) → (List ℕ → Bool) → List (List ℕ) → Type 0
AreSameAt inside other names = (name : List ℕ) → Contains names name → inside name ≡ other name

same_crosses : (inside other : List ℕ → Bool) (o : Observed) → inside o.station ≡ other o.station → inside o.target ≡ other o.target → crosses inside o ≡ crosses other o
same_crosses inside other o e f = ap (λ b. differ b (inside o.target)) e ∙ ap (λ b. differ (other o.station) b) f

same_own : (observations : List Observed) (benchmarks : BenchmarkRows) (weights : WeightRows) (group : Observed → Bool) (inside other : List ℕ → Bool) → AreSameAt inside other (points observations benchmarks) → own_cut observations weights group inside ≡ own_cut observations weights group other
same_own observations benchmarks weights group inside other same =
    sums-same (λ o. if group o then (if crosses inside o then w o else 0) else 0) (λ o. if group o then (if crosses other o then w o else 0) else 0) observations (recursion_from_All (λ o. (if group o then (if crosses inside o then w o else 0) else 0) ≡ (if group o then (if crosses other o then w o else 0) else 0)) observations (λ k d within. at (slice_index_or observations k d) (ends_contained observations benchmarks k d within)))
  where
    w : Observed → ℕ
    w o = weight_of weights o.station o.target

    at : (o : Observed) → Contains (points observations benchmarks) o.station × Contains (points observations benchmarks) o.target → (if group o then (if crosses inside o then w o else 0) else 0) ≡ (if group o then (if crosses other o then w o else 0) else 0)
    at o ends = ap (λ (c : Bool). if group o then (if c then w o else 0) else 0) (same_crosses inside other o (same o.station ends.0) (same o.target ends.1))

same_rest : (observations : List Observed) (benchmarks : BenchmarkRows) (weights : WeightRows) (group : Observed → Bool) (inside other : List ℕ → Bool) → AreSameAt inside other (points observations benchmarks) → rest_cut observations weights group inside ≡ rest_cut observations weights group other
same_rest observations benchmarks weights group inside other same =
    sums-same (λ o. if group o then 0 else (if crosses inside o then w o else 0)) (λ o. if group o then 0 else (if crosses other o then w o else 0)) observations (recursion_from_All (λ o. (if group o then 0 else (if crosses inside o then w o else 0)) ≡ (if group o then 0 else (if crosses other o then w o else 0))) observations (λ k d within. at (slice_index_or observations k d) (ends_contained observations benchmarks k d within)))
  where
    w : Observed → ℕ
    w o = weight_of weights o.station o.target

    at : (o : Observed) → Contains (points observations benchmarks) o.station × Contains (points observations benchmarks) o.target → (if group o then 0 else (if crosses inside o then w o else 0)) ≡ (if group o then 0 else (if crosses other o then w o else 0))
    at o ends = ap (λ (c : Bool). if group o then 0 else (if c then w o else 0)) (same_crosses inside other o (same o.station ends.0) (same o.target ends.1))

-- a group cuts no more than its weight
one_low : (w : ℕ) (b c : Bool) → (if b then (if c then w else 0) else 0) ≤ (if b then w else 0)
one_low w true true = omega arith
one_low w true false = omega arith
one_low w false c = omega arith

pub own_low : (observations : List Observed) (weights : WeightRows) (group : Observed → Bool) (inside : List ℕ → Bool) → own_cut observations weights group inside ≤ weight_in observations weights group
own_low observations weights group inside = sums-le (λ (o : Observed). if group o then (if crosses inside o then weight_of weights o.station o.target else 0) else 0) (λ (o : Observed). if group o then weight_of weights o.station o.target else 0) (λ o. one_low (weight_of weights o.station o.target) (group o) (crosses inside o)) observations

-- ---- the control
-- no free set holds a point
abbrev pub HasNone : List Observed → BenchmarkRows → Type 0
HasNone observations benchmarks = (inside : List ℕ → Bool) (point : List ℕ) → IsFreeSet benchmarks inside → Contains (points observations benchmarks) point → inside point ≡ true → ⊥

pub control_or_none : (observations : List Observed) (benchmarks : BenchmarkRows) (weights : WeightRows) (group : Observed → Bool) → ((control : ℕ) × IsGroupControl observations benchmarks weights group control) ⊎ HasNone observations benchmarks
control_or_none observations benchmarks weights group = by (least counts value names (λ name. false))
  where
    all : List (List ℕ)
    all = points observations benchmarks

    names : List (List ℕ)
    names = filter (is_free benchmarks) all

    counts : (List ℕ → Bool) → Bool
    counts set = list_any set all

    value : (List ℕ → Bool) → ℕ
    value set = rest_cut observations weights group set + weight_in observations weights group - own_cut observations weights group set

    not_free : (name : List ℕ) → IsSome (height_of benchmarks name) → is_free benchmarks name ≡ false
    not_free name some = from (height_of benchmarks name) some
      where
        from : (found : Option ℤ) → IsSome found → is_none found ≡ false
        from None some = absurd (false≢true some)
        from (Some height) some = refl

    -- the names of a set that are listed
    within : (List ℕ → Bool) → List ℕ → Bool
    within set name = if is_among names name then set name else false

    within_same : (set : List ℕ → Bool) → IsSameOff names (λ name. false) (within set)
    within_same set name out = ap (λ (b : Bool). if b then set name else false) out

    within_at : (set : List ℕ → Bool) → IsFreeSet benchmarks set → AreSameAt (within set) set all
    within_at set set_free name there = at (height_of benchmarks name) refl
      where
        dropped : (b : Bool) → set name ≡ false → (if b then set name else false) ≡ set name
        dropped true out = refl
        dropped false out = sym out

        at : (found : Option ℤ) → height_of benchmarks name ≡ found → within set name ≡ set name
        at None e = ap (λ (b : Bool). if b then set name else false) (kept (is_free benchmarks) all name (ap is_none e) there)
        at (Some height) e = dropped (is_among names name) (set_free name (subst IsSome (sym e) refl))

    within_counts : (set : List ℕ → Bool) (name : List ℕ) → IsFreeSet benchmarks set → Contains all name → set name ≡ true → counts (within set) ≡ true
    within_counts set name set_free there is = held (within set) all name there (within_at set set_free name there ∙ is)

    by : HasLeast counts value names (λ name. false) → ((control : ℕ) × IsGroupControl observations benchmarks weights group control) ⊎ HasNone observations benchmarks
    by (inr none) = inr (λ inside point free listed here. false≢true (sym (none (within inside) (within_same inside)) ∙ within_counts inside point free listed here))
    by (inl (set, same, some, low)) =
        let own = own_low observations weights group set in
        inl (
          value set,
          record {
            reached = (set, λ name fixed. same name (none_kept (is_free benchmarks) all name (not_free name fixed)), holds set all some, omega arith);
            least = λ other name other_free there is.
                let less = low (within other) (within_same other) (within_counts other name other_free there is) in
                let a = same_own observations benchmarks weights group (within other) other (within_at other other_free) in
                let b = same_rest observations benchmarks weights group (within other) other (within_at other other_free) in
                let c = own_low observations weights group other in
                omega arith;
          },
        )

pub has_control : (observations : List Observed) (benchmarks : BenchmarkRows) (weights : WeightRows) (group : Observed → Bool) (inside : List ℕ → Bool) (point : List ℕ) → IsFreeSet benchmarks inside → Contains (points observations benchmarks) point → inside point ≡ true → (control : ℕ) × IsGroupControl observations benchmarks weights group control
has_control observations benchmarks weights group inside point free listed here = by (control_or_none observations benchmarks weights group)
  where
    by : ((control : ℕ) × IsGroupControl observations benchmarks weights group control) ⊎ HasNone observations benchmarks → (control : ℕ) × IsGroupControl observations benchmarks weights group control
    by (inl has) = has
    by (inr none) = absurd (none inside point free listed here)
