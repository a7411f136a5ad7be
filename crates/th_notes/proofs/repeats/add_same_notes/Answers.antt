use Rattle.std.proofs.Common.{◌≡◌, ◌+◌, ◌-◌, ◌++◌, ◌∷◌, ◌==◌, [], ℕ, Vec, Global, List, Option, None, Some, if◌then◌else◌, length, map, option_map, refl, slice_get, sym, ap, ◌∙◌, arith}
use Rattle.std.proofs.lemmas.List.{length_push, map-append}
use Rattle.std.proofs.lemmas.List.FromFn.{map-range_with_len_more}
use Rattle.std.proofs.lemmas.Option.{slice_get-map, slice_get_read}
use Rattle.th_observations.specs.declared.observations.Observation.{Observation}
use Rattle.th_observations.specs.Observed.{Observed}
use Rattle.th_entries.specs.declared.counts.BookCount.{BookCount}
use Rattle.th_entries.specs.declared.reviews.BookReview.{BookReview}
use Rattle.th_notes.specs.Books.{counts_of_books}
use Rattle.th_notes.specs.Findings.{same_note}
use Rattle.th_notes.specs.Repeats.{by_book, first_same, observations_in}
use Rattle.th_notes.specs.declared.notes.Note.{Note}
use Rattle.th_notes.specs.declared.notes.Note.TheVariants.{SameObservations}
use Rattle.th_notes.proofs.FindingLemmas.{none_chosen, one_chosen}
use Rattle.th_notes.proofs.repeats.add_same_notes.Goals as goal
use Rattle.th_notes.proofs.repeats.add_same_notes.Goals.{in-Some+in_ok-push, in_default}

-- the note of a book by the observations of the books before it, and its own
abbrev note_by : ℕ → BookCount → List (List Observed) → List Observed → Option Note
note_by book count earlier own = if count.sights == 0 then None else option_map (λ number. SameObservations book number) (first_same earlier own)

by_survey : (observations : List Observed) (k : ℕ) (count : BookCount) (earlier : List (List Observed)) (own : List Observed) → earlier ≡ by_book observations k → own ≡ observations_in observations (k + 1)
    → note_by (k + 1) count earlier own ≡ same_note observations (k + 1, count)
by_survey observations k count earlier own before is =
    let back : k ≡ k + 1 - 1 = omega arith in
    ap (λ (earlier : List (List Observed)). note_by (k + 1) count earlier own) (before ∙ ap (by_book observations) back)
    ∙ ap (note_by (k + 1) count (by_book observations (k + 1 - 1))) is

abbrev items_of : Vec Observation Global → List Observed
items_of own = own.items

one_book_more : (observations : List Observed) (k : ℕ) (books books' : List (Vec Observation Global)) (own : Vec Observation Global) → books' ≡ books ++ own ∷ [] → map items_of books ≡ by_book observations k → own.items ≡ observations_in observations (k + 1)
    → map items_of books' ≡ by_book observations (k + 1)
one_book_more observations k books books' own more before is =
    ap (map items_of) more ∙ map-append items_of books (own ∷ [])
    ∙ ap (λ (front : List (List Observed)). front ++ own.items ∷ []) before
    ∙ ap (λ (own : List Observed). by_book observations k ++ own ∷ []) is
    ∙ sym (map-range_with_len_more (observations_in observations) 1 k (k + 1) (omega arith))

pub loop-k-preserved : goal.loop-k-preserved
loop-k-preserved c =
    let observations : List Observed = c.args.observations.now in
    let reviews : List BookReview = c.args.reviews.now in
    let k : ℕ = c.loop-k.k in
    let review : BookReview = c.index-reviews-k.result in
    let there : slice_get reviews k ≡ Some review = slice_get_read reviews (length reviews) k review refl c.loop-k-test.true c.index-reviews-k.is in
    let found : slice_get (counts_of_books reviews) k ≡ Some review.counts = slice_get-map (λ (review : BookReview). review.counts) reviews k ∙ ap (option_map (λ (review : BookReview). review.counts)) there in
    let note : c.same_note.result ≡ same_note observations (k + 1, review.counts) =
    c.same_note.ensures
    ∙ by_survey observations k review.counts (map items_of c.deref.result.now) c.deref-in-loop-k.result.now
    (ap (map items_of) c.deref.ensures.value ∙ c.loop-k.invariant.before) (c.deref-in-loop-k.ensures.value ∙ c.in_ok-own.ensures) in
    record {
      counted = ap length c.in_ok-push-2.ensures.items ∙ length_push c.loop-k.earlier.items c.in_ok-own.own ∙ ap (λ n. n + 1) c.loop-k.invariant.counted;
      before = one_book_more observations k _ _ _ c.in_ok-push-2.ensures.items c.loop-k.invariant.before c.in_ok-own.ensures;
      noted = elim c.match-same_note.branch [
        | in-Some+in_ok-push w ↦
            one_chosen 1 (same_note observations) (counts_of_books reviews) k review.counts w.in-Some.note c.loop-k.notes.items _ _ found (sym note ∙ w.in-Some.is)
            (ap (λ v. v.items) w.notes-is ∙ w.in_ok-push.ensures.items) c.loop-k.invariant.noted
        | in_default w ↦
            none_chosen 1 (same_note observations) (counts_of_books reviews) k review.counts c.loop-k.notes.items _ _ found (sym note ∙ w.in_default.is) (ap (λ v. v.items) w.notes-is) c.loop-k.invariant.noted
      ];
    }
