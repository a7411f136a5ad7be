-- What is known of the reviews of books that were read one after the other.
use Rattle.std.proofs.Common.{◌≡◌, ◌+◌, ℕ, List, [], ◌∷◌, ◌++◌, length, ap, sym, subst, ◌∙◌, append-nil, append_assoc, arith}
use Rattle.std.proofs.lemmas.List.Elements.{All-contains_itself, All-weaker}
use Rattle.std.proofs.lemmas.Slice.Zip.{AllZip-long}
use Rattle.std.specs.List.{All, AllZip, Contains}
use Rattle.std.specs.Prelude.{Option}
use Rattle.th_observations.specs.Observed.{Observed}
use Rattle.th_entries.specs.Entries.{entries_of as entries_of_book}
use Rattle.th_entries.specs.Reviews.{parsed_of}
use Rattle.th_entries.specs.Several.{AreObserved, entries_of_books, numbered}
use Rattle.th_book.specs.Lines.{ParsedLine}
use Rattle.th_entries.specs.Listed.{IsListed}
use Rattle.th_entries.specs.Seen.{AreSeenInBooks}
use Rattle.th_entries.specs.Spellings.{spellings_of}
use Rattle.th_entries.specs.declared.listed.Listed.{Listed}
use Rattle.th_entries.specs.declared.seen.SeenNames.{SeenNames}
use Rattle.th_entries.specs.declared.spellings.Spelling.{Spelling}
use Rattle.th_entries.specs.Stations.{HasOneStation}
use Rattle.th_entries.specs.declared.entries.Entry.{Entry}
use Rattle.th_entries.specs.declared.reviews.BookReview.{BookReview}
use Rattle.th_review_rows.specs.Entries.{entries_of}
use Rattle.th_run_parts.specs.Readers.{HasReadBooks}
use Rattle.th_runs.specs.Inside.Readers.{IsReviewedNext}
use Rattle.th_run_parts.specs.Inputs.{AreTold}
use Rattle.th_inputs.specs.Sums.{sum_of}
use Rattle.th_inputs.specs.declared.inputs.Input.TheVariants.{Book}
use Rattle.th_inputs.specs.declared.sums.Sum.{Sum}
use Rattle.th_runs.specs.Reviewed.{AreReviewsOf, AreReviewsOfBooks, IsReviewOf, book_sums}

-- books were read: what their texts are, which observations they give, and which reviews were put behind others
pub record AreAllRead (number : ℕ) (tolds : List (Option (List ℕ))) (before after : List Observed) (old new : List BookReview) (names more_names : SeenNames)
    (sums more_sums : List Sum) : Type 0 where
  pub texts : List (List ℕ)
  pub more : List BookReview
  pub told : AreTold tolds texts
  pub observed : AreObserved number before texts after
  pub reviewed : AllZip IsReviewOf (numbered number texts) more
  pub joined : new ≡ old ++ more
  pub named : (books : List (ℕ × List ParsedLine)) → AreSeenInBooks books names → AreSeenInBooks (books ++ numbered number texts) more_names
  pub summed : more_sums ≡ sums ++ book_sums number texts

pub all_read : {R : Type 0} (reviews : R → List BookReview) (names : R → SeenNames) (sums : R → List Sum) (number : ℕ) (tolds : List (Option (List ℕ))) (before after : List Observed) (old new : R)
    → HasReadBooks (λ own told observations (first last : R). IsReviewedNext own told observations (reviews first) (reviews last) (names first) (names last) (sums first) (sums last)) number tolds before after old new
    → AreAllRead number tolds before after (reviews old) (reviews new) (names old) (names new) (sums old) (sums new)
all_read reviews names sums number [] before after old new read = record {
  texts = [];
  more = [];
  told = tt;
  observed = read.0;
  reviewed = tt;
  joined = ap reviews read.1 ∙ sym (append-nil (reviews old));
  named = λ books seen. subst (λ own. AreSeenInBooks own (names new)) (sym (append-nil books)) (subst (AreSeenInBooks books) (sym (ap names read.1)) seen);
  summed = ap sums read.1 ∙ sym (append-nil (sums old));
}
all_read reviews names sums number (told ∷ tolds) before after old new read =
    let next : IsReviewedNext number told read.1 (reviews old) (reviews read.0) (names old) (names read.0) (sums old) (sums read.0) = read.2 in
    let rest : AreAllRead (number + 1) tolds (before ++ read.1) after (reviews read.0) (reviews new) (names read.0) (names new) (sums read.0) (sums new) = all_read reviews names sums (number + 1) tolds (before ++ read.1) after read.0 new read.3 in
    record {
      texts = next.text ∷ rest.texts;
      more = next.review ∷ rest.more;
      told = (next.is_told, rest.told);
      observed = (read.1, next.answered, rest.observed);
      reviewed = (next.reviewed, rest.reviewed);
      joined = rest.joined ∙ ap (λ own. own ++ rest.more) next.joined ∙ append_assoc (reviews old) (next.review ∷ []) rest.more;
      named = λ books seen.
          subst (λ own. AreSeenInBooks own (names new)) (append_assoc books ((number, parsed_of next.text) ∷ []) (numbered (number + 1) rest.texts))
          (rest.named (books ++ (number, parsed_of next.text) ∷ []) (next.named books seen));
      summed = rest.summed ∙ ap (λ own. own ++ book_sums (number + 1) rest.texts) next.summed ∙ append_assoc (sums old) (sum_of (Book number) next.text ∷ []) (book_sums (number + 1) rest.texts);
    }

-- the entries of the reviews are those of the books
same_entries : (number : ℕ) (texts : List (List ℕ)) (reviews : List BookReview) → AllZip IsReviewOf (numbered number texts) reviews
    → entries_of reviews ≡ entries_of_books (numbered number texts)
same_entries number [] [] reviewed = cc
same_entries number [] (review ∷ reviews) reviewed = absurd reviewed
same_entries number (text ∷ texts) [] reviewed = absurd reviewed
same_entries number (text ∷ texts) (review ∷ reviews) reviewed =
    ap (λ own. own ++ entries_of reviews) reviewed.0.entries ∙ ap (λ own. entries_of_book number (parsed_of text) ++ own) (same_entries (number + 1) texts reviews reviewed.1)

-- so all observations of each entry are from one station, by the law for several books
pub all_stationed : (number : ℕ) (tolds : List (Option (List ℕ))) (after : List Observed) (new : List BookReview) (names more_names : SeenNames) (sums more_sums : List Sum) (read : AreAllRead number tolds [] after [] new names more_names sums more_sums)
    → ((own : ℕ) (texts : List (List ℕ)) (observations : List Observed) (entry : Entry) → AreObserved own [] texts observations
    → Contains (entries_of_books (numbered own texts)) entry → HasOneStation observations entry)
    → All (HasOneStation after) (entries_of new)
all_stationed number tolds after new names more_names sums more_sums read law =
    let same : entries_of new ≡ entries_of_books (numbered number read.texts) = ap entries_of read.joined ∙ same_entries number read.texts read.more read.reviewed in
    subst (All (HasOneStation after)) (sym same)
    (All-weaker (Contains (entries_of_books (numbered number read.texts))) (HasOneStation after) (λ entry holds. law number read.texts after entry read.observed holds) (entries_of_books (numbered number read.texts))
    (All-contains_itself (entries_of_books (numbered number read.texts))))

-- and the reviews are those of the books
pub reviews_of_all : (number : ℕ) (tolds : List (Option (List ℕ))) (after : List Observed) (new : List BookReview) (names more_names : SeenNames) (more_sums : List Sum) (found : Listed Spelling)
    → AreAllRead number tolds [] after [] new names more_names [] more_sums → AreSeenInBooks [] names
    → ((books : List (ℕ × List ParsedLine)) → AreSeenInBooks books more_names → IsListed (spellings_of books) found) → AreReviewsOf number tolds new found more_sums
reviews_of_all number tolds after new names more_names more_sums found read none finds = record {
  texts = read.texts;
  told = read.told;
  reviewed = subst (AllZip IsReviewOf (numbered number read.texts)) (sym read.joined) read.reviewed;
  spelled = finds (numbered number read.texts) (read.named [] none);
  summed = read.summed;
}

pub reviews_of_books : (tolds : List (Option (List ℕ))) (after : List Observed) (new : List BookReview) (names more_names : SeenNames) (sums more_sums : List Sum)
    → AreAllRead 1 tolds [] after [] new names more_names sums more_sums → AreReviewsOfBooks tolds new
reviews_of_books tolds after new names more_names sums more_sums read = record {
  texts = read.texts;
  told = read.told;
  reviewed = subst (AllZip IsReviewOf (numbered 1 read.texts)) (sym read.joined) read.reviewed;
}

-- there are as many reviews as books
zip_numbered : (number : ℕ) (texts : List (List ℕ)) (reviews : List BookReview) → AllZip IsReviewOf (numbered number texts) reviews → length reviews ≡ length texts
zip_numbered number [] [] zipped = omega arith
zip_numbered number [] (review ∷ reviews) zipped = absurd zipped
zip_numbered number (text ∷ texts) [] zipped = absurd zipped
zip_numbered number (text ∷ texts) (review ∷ reviews) zipped = let same = zip_numbered (number + 1) texts reviews zipped.1 in omega (arith, same)

pub as_many : (number : ℕ) (tolds : List (Option (List ℕ))) (after : List Observed) (new : List BookReview) (names more_names : SeenNames) (sums more_sums : List Sum)
    → AreAllRead number tolds [] after [] new names more_names sums more_sums → length new ≡ length tolds
as_many number tolds after new names more_names sums more_sums read =
    ap length read.joined ∙ zip_numbered number read.texts read.more read.reviewed ∙ AllZip-long _ tolds read.texts read.told
