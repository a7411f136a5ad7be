use Rattle.std.proofs.Common.{◌≡◌, ◌≤◌, ◌∙◌, ◌++◌, List, ap, length, of_z, rules, subst, sym, to_z, w64}
use Rattle.std.specs.List.{All}
use Rattle.th_entries.specs.Stations.{HasOneStation}
use Rattle.th_entries.specs.declared.reviews.BookReview.{BookReview}
use Rattle.th_inputs.specs.declared.sums.Sum.{Sum}
use Rattle.th_limits.specs.Limits.{max_books}
use Rattle.th_review_rows.specs.Entries.{entries_of}
use Rattle.th_run_parts.proofs.ReaderLemmas.{if_ok}
use Rattle.th_runs.proofs.CommandLemmas.{few_reviewed, read_reviewed, stationed_reviewed}
use Rattle.th_runs.specs.Reviewed.{AreReadFrom}
use Rattle.th_runs.proofs.reviewing.ReviewSurveyCommand.texts.Goals as goal

pub texts_of_network-requires-clause-few : goal.texts_of_network-requires-clause-few
texts_of_network-requires-clause-few g c =
    let (tolds, read) = c.requires.read in
    subst (λ (own : List BookReview). length own ≤ max_books) (sym c.as_slice-reviews.ensures.value) (few_reviewed tolds c.args.network.now.observations c.args.reader.now c.args.of_tables.now read)

pub texts_of_network-requires-clause-stations : goal.texts_of_network-requires-clause-stations
texts_of_network-requires-clause-stations g c =
    let (tolds, read) = c.requires.read in
    subst (λ (own : List BookReview). All (HasOneStation c.args.network.now.observations) (entries_of own)) (sym c.as_slice-reviews.ensures.value)
    (stationed_reviewed tolds c.args.network.now.observations c.args.reader.now c.args.of_tables.now read c.entry_of_several_books_has_one_station.ensures)

pub returns-clause-texts : goal.returns-clause-texts
returns-clause-texts g c =
    let limit : to_z w64 (of_z w64 c.args.self.now.limit) ≡ c.args.self.now.limit = search rules in
    if_ok _ _ c.texts_of_network.result
    (λ texts are. λ tolds read. (
      c.as_slice-reviews.result.now,
      c.found-spellings.result.now,
      c.deref.result.now,
      subst (λ (own : List BookReview). AreReadFrom tolds own c.found-spellings.result.now c.deref.result.now) (sym c.as_slice-reviews.ensures.value)
          (subst (λ (own : List Sum). AreReadFrom tolds c.args.reader.now.reviews.items c.found-spellings.result.now own) (sym (c.deref.ensures.value ∙ c.in_ok-sums.ensures ∙ ap (λ (own : List Sum). own ++ c.args.of_tables.now) c.as_slice.ensures.value))
          (read_reviewed tolds c.args.network.now.observations c.args.reader.now c.args.of_tables.now c.found-spellings.result.now read c.found-spellings.ensures)),
      rw limit at are,
    ))
    c.texts_of_network.ensures.texts
