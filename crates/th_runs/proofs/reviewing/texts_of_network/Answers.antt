use Rattle.std.proofs.Common.{◌≡◌, ◌∙◌, ℤ, List, ap₂, subst, w64}
use Rattle.std.proofs.lemmas.Int.{to_z-of_z}
use Rattle.th_circulation.specs.Best.{Best}
use Rattle.th_entries.specs.declared.reviews.BookReview.{BookReview}
use Rattle.th_inputs.specs.Inputs.{inputs_of}
use Rattle.th_network.specs.Networks.{Survey, at_points_of}
use Rattle.th_review_rows.specs.Found.{FoundRows, found_rows, numbers_in, rows_in}
use Rattle.th_review_texts.specs.Texts.{AreReviewTexts, bytes_of}
use Rattle.th_runs.proofs.reviewing.texts_of_network.Goals as goal

pub returns-clause-texts : goal.returns-clause-texts
returns-clause-texts g c =
    let best : Best = c.in_ok-best.best in
    let findings = c.in_ok-findings.findings in
    let found_in : Survey → List BookReview → FoundRows = λ survey books. found_rows survey (at_points_of survey best.low) (at_points_of survey best.high) (numbers_in findings) books c.args.spellings.now in
    let same : rows_in c.in_ok-found.found ≡ found_in c.args.network.now c.args.reviews.now = c.in_ok-found.ensures ∙ ap₂ found_in c.in_ok-findings.ensures.network c.in_ok-findings.ensures.reviews in (
      bytes_of c.in_ok-texts.texts,
      record {
        answer = best;
        answers = c.in_ok-best.ensures;
        found = numbers_in findings;
        finds = c.in_ok-findings.ensures.found;
        printed = subst (λ (found : FoundRows). AreReviewTexts found (inputs_of c.args.inputs) c.args.limit (bytes_of c.in_ok-texts.texts)) same
            (subst (λ (limit : ℤ). AreReviewTexts (rows_in c.in_ok-found.found) (inputs_of c.args.inputs) limit (bytes_of c.in_ok-texts.texts)) (to_z-of_z w64 c.args.limit c.ranges.limit) c.in_ok-texts.ensures);
      },
      c.in_ok-in_order.ensures,
    )
