-- What is said in a book, one sight further.
use Rattle.std.proofs.Common.{◌≡◌, ◌∙◌, ◌&&◌, ◌||◌, Bool, true, false, cond, refl, ap, arith}
use Rattle.std.specs.BTreeSet.{BTreeSet, Updates}
use Rattle.std.specs.Cmp.Lexicographic.{slice_cmp}
use Rattle.std.specs.Ordering.{int_cmp, is_eq, nat_cmp, ordering_then}
use Rattle.std.specs.declared.cmp.Ordering.{Ordering}
use Rattle.std.specs.declared.cmp.Ordering.TheVariants.{Less, Equal, Greater}
use Rattle.std.proofs.lemmas.Map.Text.{is_eq-slice_cmp}
use Rattle.gsi_word.specs.Names.{same_name}
use Rattle.th_observations.specs.Observed.{Observed}
use Rattle.th_remarks.specs.Inside.Said.{Said, has_said, said, said_cmp}
use Rattle.th_remarks.specs.Repeats.{says_same}

true_more : (b old : Bool) → cond b true old ≡ (old || b)
true_more true true = refl
true_more true false = refl
true_more false true = refl
true_more false false = refl

both_equal : (first second : Ordering) → is_eq (ordering_then first second) ≡ (is_eq first && is_eq second)
both_equal Less second = refl
both_equal Equal second = refl
both_equal Greater second = refl

-- what is said in order is said the same
pub same_in_order : (o other : Observed) → is_eq (said_cmp (said o) (said other)) ≡ says_same o other
same_in_order o other =
    both_equal (ordering_then (slice_cmp nat_cmp o.station other.station) (slice_cmp nat_cmp o.target other.target)) (int_cmp o.difference other.difference)
    ∙ ap (λ (ends : Bool). ends && is_eq (int_cmp o.difference other.difference))
    (both_equal (slice_cmp nat_cmp o.station other.station) (slice_cmp nat_cmp o.target other.target)
    ∙ ap (λ (first : Bool). first && is_eq (slice_cmp nat_cmp o.target other.target)) (is_eq-slice_cmp o.station other.station)
    ∙ ap (λ (second : Bool). same_name o.station other.station && second) (is_eq-slice_cmp o.target other.target))

-- a set has one saying more
pub one_more_said : (old new : BTreeSet Said) (key : Said) (o other : Observed) → Updates said_cmp old new key true → key ≡ said o → has_said new (said other) ≡ (has_said old (said other) || says_same o other)
one_more_said old new key o other updates is =
    updates.0 (said other) ∙ true_more (is_eq (said_cmp key (said other))) (has_said old (said other))
    ∙ ap (λ (key : Said). has_said old (said other) || is_eq (said_cmp key (said other))) is
    ∙ ap (λ (same : Bool). has_said old (said other) || same) (same_in_order o other)
