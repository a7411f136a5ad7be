-- A page whose verdict is good has no red.
use Rattle.std.proofs.Common.{◌≡◌, ◌+◌, ℕ, ℤ, Bool, true, false, List, [], ◌∷◌, cond, length, refl, arith, sym, ◌∙◌}
use Rattle.std.specs.Prelude.{◌==◌, ◌&&◌, if◌then◌else◌, count_by, nat_lt, not}
use Rattle.std.specs.List.{list_all}
use Rattle.std.proofs.lemmas.Bool.Decides.{nat_tests}
use Rattle.std.proofs.lemmas.List.Sums.{sum_by-cons}
use Rattle.th_answer.specs.declared.answers.Group.{Group}
use Rattle.th_answer.specs.declared.answers.Group.TheVariants.{Question, Stays, Cleared, Unlike, Fits}
use Rattle.th_explain_texts.specs.declared.rows.Row.{Row}
use Rattle.th_picture.specs.declared.drawn.DrawnSight.{DrawnSight}
use Rattle.th_page.specs.Contents.{joined_of}
use Rattle.th_page.specs.Counts.{all_checked, counts_of, is_first, is_marked, tone_of, tone_of_verdict, verdict_of, verdict_of_fit, verdict_of_marks}
use Rattle.th_page.specs.Laws.{GoodPagesHaveNoRed, has_reason, is_accused}
use Rattle.th_page.specs.declared.counts.Counts.{Counts}
use Rattle.th_page.specs.declared.verdicts.Tone.{Tone}
use Rattle.th_page.specs.declared.verdicts.Tone.TheVariants as tone
use Rattle.th_page.specs.declared.verdicts.Verdict.{Verdict}
use Rattle.th_page.specs.declared.verdicts.Verdict.TheVariants as verdict

-- ---- what a good verdict says of the counts
record IsChosen (first : Bool) (A : Type 0) : Type 0 where
  not_first : first ≡ false
  rest : A

not_bad : (first : Bool) (other : Tone) → (if first then tone.Bad else other) ≡ tone.Good → IsChosen first (other ≡ tone.Good)
not_bad true other same = absurd (let wrong : ⊥ = cc in wrong)
not_bad false other same = record { not_first = refl; rest = same }

fits_alone : (checked : Bool) (own : Verdict) → tone_of_verdict checked own ≡ tone.Good → own ≡ verdict.Fits
fits_alone checked verdict.Fits same = refl
fits_alone checked verdict.Unchecked same = absurd (let wrong : ⊥ = cc in wrong)
fits_alone checked verdict.Unlike same = absurd (let wrong : ⊥ = cc in wrong)
fits_alone checked verdict.Doubted same = absurd (let wrong : ⊥ = cc in wrong)
fits_alone checked verdict.Unexplained same = absurd (let wrong : ⊥ = cc in wrong)
fits_alone checked verdict.InPart same = absurd (let wrong : ⊥ = cc in wrong)
fits_alone checked verdict.Explained same = absurd (let wrong : ⊥ = cc in wrong)
fits_alone checked verdict.Undecided same = absurd (let wrong : ⊥ = cc in wrong)

abbrev of_marks : Bool → Bool → Bool → Verdict
of_marks none unexplained one = if none then verdict.Unexplained else (if unexplained then verdict.InPart else (if one then verdict.Explained else verdict.Undecided))

marks_do_not_fit : (none unexplained one : Bool) → of_marks none unexplained one ≡ verdict.Fits → ⊥
marks_do_not_fit true unexplained one same = cc
marks_do_not_fit false true one same = cc
marks_do_not_fit false false true same = cc
marks_do_not_fit false false false same = cc

record IsQuiet (unmarked no_rows : Bool) : Type 0 where
  marks : unmarked ≡ true
  rows : no_rows ≡ true

quiet : (unmarked no_rows : Bool) (fit marks : Verdict) → (marks ≡ verdict.Fits → ⊥) → (if unmarked then (if no_rows then fit else verdict.Doubted) else marks) ≡ verdict.Fits → IsQuiet unmarked no_rows
quiet true true fit marks never same = record { marks = refl; rows = refl }
quiet true false fit marks never same = absurd (let wrong : ⊥ = cc in wrong)
quiet false no_rows fit marks never same = absurd (never same)

is_zero : (n : ℕ) → (n == 0) ≡ true → n ≡ 0
is_zero n same = grind (arith, nat_tests)

not_above : (n : ℕ) → nat_lt 0 n ≡ false → n ≡ 0
not_above n same = grind (arith, nat_tests)

record IsGood (counts : Counts) : Type 0 where
  moved : counts.moved ≡ 0
  marked : counts.marked ≡ 0
  rows : counts.rows ≡ 0

good : (counts : Counts) → tone_of counts ≡ tone.Good → IsGood counts
good counts same =
    let first = not_bad (nat_lt 0 counts.moved) (tone_of_verdict (all_checked counts) (verdict_of counts)) same in
    let fits : verdict_of counts ≡ verdict.Fits = fits_alone (all_checked counts) (verdict_of counts) first.rest in
    let both = quiet (counts.marked == 0) (counts.rows == 0) (verdict_of_fit counts) (verdict_of_marks counts) (marks_do_not_fit (counts.rows == 0) (counts.explaining == 0) (counts.explaining == 1)) fits in
    record { moved = not_above counts.moved first.not_first; marked = is_zero counts.marked both.marks; rows = is_zero counts.rows both.rows }

-- ---- the sights
none_first : (rows : List Row) → length rows ≡ 0 → count_by is_first rows ≡ 0
none_first [] none = refl
none_first (row ∷ rows) none = absurd (omega (arith, none))

not_accused : (limit : ℤ) (firsts : ℕ) (sight : DrawnSight) (group : Group) → firsts ≡ 0 → is_marked limit sight ≡ false → has_reason limit firsts sight group ≡ true → not (is_accused group) ≡ true
not_accused limit firsts sight Question none unmarked reason = grind (arith, nat_tests)
not_accused limit firsts sight Stays none unmarked reason = absurd (let wrong : ⊥ = cc in wrong)
not_accused limit firsts sight Cleared none unmarked reason = absurd (let wrong : ⊥ = cc in wrong)
not_accused limit firsts sight Unlike none unmarked reason = refl
not_accused limit firsts sight Fits none unmarked reason = refl

record AreBoth (one other : Bool) : Type 0 where
  one_is : one ≡ true
  other_is : other ≡ true

both : (one other : Bool) → (one && other) ≡ true → AreBoth one other
both true true same = record { one_is = refl; other_is = refl }
both true false same = absurd (let wrong : ⊥ = cc in wrong)
both false other same = absurd (let wrong : ⊥ = cc in wrong)

conjoined : (one other : Bool) → one ≡ true → other ≡ true → (one && other) ≡ true
conjoined true other first second = second
conjoined false other first second = absurd (let wrong : ⊥ = cc in wrong)

record IsUnmarked (marked : Bool) (rest : ℕ) : Type 0 where
  not_marked : marked ≡ false
  rest_none : rest ≡ 0

unmarked : (marked : Bool) (rest : ℕ) → cond marked 1 0 + rest ≡ 0 → IsUnmarked marked rest
unmarked true rest none = absurd (omega (arith, none))
unmarked false rest none = record { not_marked = refl; rest_none = omega (arith, none) }

none_accused : (limit : ℤ) (firsts : ℕ) (sights : List DrawnSight) → firsts ≡ 0 → count_by (is_marked limit) sights ≡ 0
    → list_all (λ sight. has_reason limit firsts sight sight.group) sights ≡ true → list_all (λ sight. not (is_accused sight.group)) sights ≡ true
none_accused limit firsts [] none marks reasons = refl
none_accused limit firsts (sight ∷ sights) none marks reasons =
    let own = unmarked (is_marked limit sight) (count_by (is_marked limit) sights) (sym (sum_by-cons (λ sight. cond (is_marked limit sight) 1 0) sight sights) ∙ marks) in
    let each = both (has_reason limit firsts sight sight.group) (list_all (λ sight. has_reason limit firsts sight sight.group) sights) reasons in
    conjoined (not (is_accused sight.group)) (list_all (λ sight. not (is_accused sight.group)) sights)
    (not_accused limit firsts sight sight.group none own.not_marked each.one_is) (none_accused limit firsts sights none own.rest_none each.other_is)

pub good_is_not_red : GoodPagesHaveNoRed
good_is_not_red shown reasons same =
    let own = good (counts_of shown (joined_of shown)) same in
    (none_accused shown.limit (count_by is_first shown.explanations) (joined_of shown).sights (none_first shown.explanations own.rows) own.marked reasons, own.moved)
