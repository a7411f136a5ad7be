-- A cut that separates the ends of a way separates two neighbours on it, and a side and the other side have the same cut.
use Rattle.std.proofs.Common.{◌≡◌, ℕ, ◌+◌, ◌≤◌, ◌⊎◌, inl, inr, Bool, true, false, not, List, [], ◌∷◌, ◌++◌, length, slice_index_or, if◌then◌else◌, refl, ap, sym, ◌∙◌, subst, arith}
use borrow.Author.Count.{below_more}
use Rattle.std.proofs.lemmas.Bool.{false≢true}
use Rattle.std.proofs.lemmas.List.{get_or_append_left, get_or_push, length-append}
use Rattle.std.proofs.lemmas.List.Sums.{sum_by-cons}
use Rattle.th_cuts.specs.declared.branches.Branch.{Branch}
use Rattle.th_cuts.specs.declared.cuts.Cut.{Cut}
use Rattle.th_cuts.specs.declared.edges.Edge.{Edge}
use Rattle.th_cuts.specs.Cuts.{IsLeastCut}
use Rattle.th_cuts.specs.CutWeights.{crosses, cut_weight, separates}
use Rattle.th_cuts.specs.Drains.{on_side}
use Rattle.th_cuts.specs.Inside.CutTrees.{AreBranches, IsBranch, IsCut}

-- ---- separation, in Bools
abbrev apart : Bool → Bool → Bool
apart a b = if a then (if b then false else true) else b

pub through : (a b c : Bool) → apart a b ≡ true → (apart a c ≡ true) ⊎ (apart b c ≡ true)
through true false true h = inr refl
through true false false h = inl refl
through false true true h = inl refl
through false true false h = inr refl
through true true c h = absurd (false≢true h)
through false false c h = absurd (false≢true h)

pub apart_itself : (a : Bool) → apart a a ≡ false
apart_itself true = refl
apart_itself false = refl

-- ---- the other side
pub mirrored : (a b : Bool) → apart (not a) (not b) ≡ apart a b
mirrored true true = refl
mirrored true false = refl
mirrored false true = refl
mirrored false false = refl

pub other_side : (inside : ℕ → Bool) (edges : List Edge) → cut_weight (λ v. not (inside v)) edges ≡ cut_weight inside edges
other_side inside [] = refl
other_side inside (edge ∷ edges) =
    let rest = other_side inside edges in
    let one = ap (λ (b : Bool). if b then edge.weight else 0) (mirrored (inside edge.tail) (inside edge.head)) in
    let left = sum_by-cons (λ (e : Edge). if crosses (λ v. not (inside v)) e then e.weight else 0) edge edges in
    let right = sum_by-cons (λ (e : Edge). if crosses inside e then e.weight else 0) edge edges in
    omega arith

-- what is least over the sides that hold the source alone is least over all that separate both
pub least_both : (edges : List Edge) (source sink value : ℕ) → ((inside : ℕ → Bool) → inside source ≡ true → inside sink ≡ false → value ≤ cut_weight inside edges) → (inside : ℕ → Bool) → separates inside source sink ≡ true → value ≤ cut_weight inside edges
least_both edges source sink value least inside h = by (inside source) (inside sink) refl refl h
  where
    by : (a b : Bool) → inside source ≡ a → inside sink ≡ b → apart a b ≡ true → value ≤ cut_weight inside edges
    by true false in_it out h = least inside in_it out
    by false true out in_it h =
        let other = other_side inside edges in
        let most = least (λ v. not (inside v)) (ap not out) (ap not in_it) in
        omega arith
    by true true e f h = absurd (false≢true h)
    by false false e f h = absurd (false≢true h)

pub separated : (inside : ℕ → Bool) (u v : ℕ) → inside u ≡ true → inside v ≡ false → separates inside u v ≡ true
separated inside u v in_it out = ap (λ (a : Bool). apart a (inside v)) in_it ∙ ap (apart true) out

-- ---- one more branch
pub branches_more : (vertices : ℕ) (edges : List Edge) (branches more : List Branch) (branch : Branch) (vertex : ℕ) → AreBranches vertices edges branches → length branches + 1 ≡ vertex → IsBranch vertices edges vertex branch → more ≡ branches ++ branch ∷ [] → AreBranches vertices edges more
branches_more vertices edges branches more branch vertex are long is pushed =
    subst (AreBranches vertices edges) (sym pushed) (λ k d h.
    let sum = length-append branches (branch ∷ []) in
    below_more (λ k. IsBranch vertices edges (k + 1) (slice_index_or (branches ++ branch ∷ []) k d)) (length branches)
    (λ k h. subst (IsBranch vertices edges (k + 1)) (sym (get_or_append_left branches (branch ∷ []) d k h)) (are k d h))
    (subst (IsBranch vertices edges (length branches + 1)) (sym (get_or_push branches branch d (length branches) refl)) (subst (λ v. IsBranch vertices edges v branch) (sym long) is))
    k (omega arith))

-- a least cut in the graph's own words
pub least_is : (vertices : ℕ) (edges : List Edge) (u v : ℕ) (cut : Cut) → IsCut vertices edges u v cut → IsLeastCut edges u v cut.value
least_is vertices edges u v cut is = record { reached = (on_side cut.side.items, is.apart, is.weighs); least = is.least }
