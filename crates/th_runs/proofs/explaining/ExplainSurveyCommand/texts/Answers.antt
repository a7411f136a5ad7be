use Rattle.std.proofs.Common.{◌≡◌, ◌≤◌, List, length, of_z, rules, subst, sym, to_z, w64}
use Rattle.th_entries.specs.declared.reviews.BookReview.{BookReview}
use Rattle.th_limits.specs.Limits.{max_books}
use Rattle.th_run_parts.proofs.ReaderLemmas.{if_ok}
use Rattle.th_runs.proofs.CommandLemmas.{books_reviewed, few_reviewed}
use Rattle.th_runs.specs.Reviewed.{AreReviewsOfBooks}
use Rattle.th_runs.proofs.explaining.ExplainSurveyCommand.texts.Goals as goal

pub texts_of_network-requires : goal.texts_of_network-requires
texts_of_network-requires g c =
    let (tolds, read) = c.requires.read in
    subst (λ (own : List BookReview). length own ≤ max_books) (sym c.as_slice-reviews.ensures.value) (few_reviewed tolds c.args.network.now.observations c.args.reader.now c.args._of_tables.now read)

pub returns-clause-texts : goal.returns-clause-texts
returns-clause-texts g c =
    let limit : to_z w64 (of_z w64 c.args.self.now.limit) ≡ c.args.self.now.limit = search rules in
    if_ok _ _ c.texts_of_network.result
    (λ texts are. λ tolds read. (
      c.as_slice-reviews.result.now,
      subst (AreReviewsOfBooks tolds.books) (sym c.as_slice-reviews.ensures.value) (books_reviewed tolds c.args.network.now.observations c.args.reader.now c.args._of_tables.now read),
      rw limit at are,
    ))
    c.texts_of_network.ensures.texts
