use Rattle.std.proofs.Common.{FitsSigned, ◌≡◌, ◌∙◌, ℕ, ℤ, List, ap, ap₂, rules, subst, sym, w64, to_z, of_z}
use Rattle.std.proofs.lemmas.Int.{to_z-of_z}
use Rattle.th_answer.specs.Answers.{IsAnswer}
use Rattle.th_answer.specs.declared.answers.Answer.{Answer}
use Rattle.th_blunders.specs.Fits.{IsFit}
use Rattle.th_changes.specs.declared.cases.Case.{Case}
use Rattle.th_circulation.specs.Best.{Best}
use Rattle.th_entries.specs.declared.reviews.BookReview.{BookReview}
use Rattle.th_explain_rows.specs.Explanations.{AreExplained}
use Rattle.th_explain_texts.specs.declared.rows.Row.{Row}
use Rattle.th_inputs.specs.Inputs.{inputs_of}
use Rattle.th_network.specs.Networks.{Survey, at_points_of}
use Rattle.th_page.specs.Contents.{answered}
use Rattle.th_page.specs.Pages.{page_text}
use Rattle.th_page.specs.Shown.{ExplainedRows, shown_of}
use Rattle.th_review_rows.specs.Found.{FoundRows, found_rows, numbers_in, rows_in}
use Rattle.th_runs.specs.Paged.{said}
use Rattle.th_runs.proofs.paging.page_of_network.Goals as goal

pub returns-clause-page : goal.returns-clause-page
returns-clause-page g c =
    let best : Best = c.in_ok-best.best in
    let findings = c.in_ok-findings.findings in
    let both = c.in_ok-both.both in
    let explained = both.0 in
    let meaning : Answer = both.1 in
    let subject = c.args.subject in
    let survey = c.args.network.now in
    let fits : FitsSigned w64 subject.limit = search rules in
    let limit_is = to_z-of_z w64 subject.limit fits in
    let rows : c.as_slice-rows.result.now ≡ explained.rows.items = search rules in
    let says : c.deref.result.now ≡ said explained = search rules in
    let text_of : FoundRows → ExplainedRows → List ℕ = λ found own. page_text (shown_of subject.title.now found (inputs_of subject.inputs) own) in
    let found_in : Survey → List BookReview → FoundRows = λ survey books. found_rows survey (at_points_of survey best.low) (at_points_of survey best.high) (numbers_in findings) books subject.spellings.now in
    let same : rows_in c.in_ok-found.found ≡ found_in survey subject.reviews.now = c.in_ok-found.ensures ∙ ap₂ found_in c.in_ok-findings.ensures.network c.in_ok-findings.ensures.reviews in
    record {
      answer = best;
      answers = c.in_ok-best.ensures;
      found = numbers_in findings;
      finds = c.in_ok-findings.ensures.found;
      explained = explained;
      explains = c.in_ok-both.ensures.explained;
      meaning = meaning;
      means = c.in_ok-both.ensures.answer;
      printed = c.in_ok-page.ensures ∙ (λ i. text_of (same i) (record { cost = explained.summary.cost; limit = limit_is i; rows = rows i; sentences = says i; answer = answered meaning }));
    }
