use Rattle.std.proofs.Common.{◌≡◌, ◌∙◌, ℕ, ℤ, List, Option, ap, length, of_z, subst, sym, to_z, w64}
use Rattle.std.proofs.lemmas.Int.{to_z-of_z}
use Rattle.std.proofs.lemmas.List.{length-map}
use Rattle.std.specs.List.{AllZip, count_by}
use Rattle.th_blunders.specs.Blunders.{is_blunder}
use Rattle.th_entries.specs.declared.entries.Entry.{Entry}
use Rattle.th_changes.specs.Freed.{cost_of}
use Rattle.th_changes.specs.declared.cases.Case.{Case}
use Rattle.th_explain.specs.declared.mended.Mending.{Mending}
use Rattle.th_explain_texts.specs.Ranks.{ranked}
use Rattle.th_numbers.specs.declared.candidates.Candidate.{Candidate}
use Rattle.th_explain_rows.specs.declared.finder.Misfit.{Misfit}
use Rattle.th_blunders.specs.Blunders.{blunders_at}
use Rattle.th_explain_texts.specs.declared.rows.ReadingRow.{ReadingRow}
use Rattle.th_explain_texts.specs.declared.rows.Row.{Row}
use Rattle.th_network.specs.Heights.{residual}
use Rattle.th_network.specs.Networks.{at_points_of}
use Rattle.th_explain_rows.specs.Explanations.{summary_with}
use Rattle.th_explain_rows.specs.Inside.Passing.{AreOwnRows}
use Rattle.th_meant.specs.Named.{AreNamedIn}
use Rattle.th_names.specs.Names.{AreReadings}
use Rattle.th_numbers.specs.Lists.{listed_in, listed_of}
use Rattle.th_numbers.specs.Readings.{IsBookRowOrNone}
use Rattle.th_explain_rows.proofs.FindLemmas.{explained_of}
use Rattle.th_explain_rows.proofs.findings.explained_by.Goals as goal

pub blunder_count-marked-requires-clause-each : goal.blunder_count-marked-requires-clause-each
blunder_count-marked-requires-clause-each g c =
    let case : Case = c.args.mending.case.now in
    let survey = case.network.now in
    ap length (c.deref.ensures.value ∙ case.fits.residuals) ∙ length-map survey.observations (λ o. residual o (at_points_of survey case.best.now.low)) ∙ sym (ap length c.observations.ensures.observations)

pub returns-clause-explained : goal.returns-clause-explained
returns-clause-explained g c =
    let given : Case = c.args.mending.case.now in
    let survey = given.network.now in
    let heights = at_points_of survey given.best.now.low in
    let (tied, are, listed) = c.in_ok-listing.ensures in
    let limit = to_z-of_z w64 c.args.limit c.ranges.limit in
    let entries = c.as_slice-entries.result.now in
    let books = c.as_slice-books.result.now in
    let read : List (Option Row) = c.as_slice.result.now in
    let all = listed_in c.in_ok-listing.listing in
    let cost : given.fit.now.cost ≡ cost_of survey heights = given.fits.cost in
    let marked : c.blunder_count-marked.result ≡ blunders_at c.args.limit survey heights =
    c.blunder_count-marked.ensures ∙ ap (λ (own : ℤ). count_by (is_blunder own) c.deref.result.now) limit
    ∙ ap (count_by (is_blunder c.args.limit)) (c.deref.ensures.value ∙ given.fits.residuals) in
    let candidates : List Candidate = c.as_slice-candidates.result.now in
    let misfit : Misfit = c.of-finder.result.misfit in
    let size : misfit.limit ≡ c.args.limit = c.of-finder.ensures.limit ∙ limit in
    let found : List Row = c.in_ok-found.found.items in
    let later : Mending = c.into_mending-mending.result in
    let same : later.case.now ≡ given = c.into_mending-mending.ensures ∙ ap (λ (own : Misfit). own.case.now) c.in_ok-found.ensures.misfit ∙ c.of-finder.ensures.case in
    let readings : List ReadingRow = c.in_ok-readings.readings.items in
    let rows : AreOwnRows survey given.fit.now.cost c.args.limit candidates found =
    subst (λ (limit : ℤ). AreOwnRows survey given.fit.now.cost limit candidates found) size
    (subst (λ (cost : ℕ). AreOwnRows survey cost misfit.limit candidates found) (given.least ∙ sym cost)
    (subst (λ (own : Case). AreOwnRows own.network.now own.cost misfit.limit candidates found) c.of-finder.ensures.case c.in_ok-found.ensures.rows)) in
    explained_of survey c.args.reviews.now c.args.limit (record { summary = c.summary_with-summary.result; rows = c.in_ok-rows.rows; named = c.in_ok-named.named; readings = c.in_ok-readings.readings }) heights tied entries all given.fit.now.cost
    candidates books found read given.lowest are
    (c.as_slice-entries.ensures.value ∙ c.in_ok-all_entries.ensures) (listed ∙ ap (λ (own : List Entry). listed_of survey own tied) c.in_ok-kinds.ensures) cost (c.as_slice-candidates.ensures.value ∙ c.in_ok-all.ensures) (c.as_slice-books.ensures.value ∙ c.in_ok-all_books.ensures)
    rows
    (subst (λ (z : ℤ). AllZip (IsBookRowOrNone survey entries given.fit.now.cost z) books read) limit
    (subst (λ (own : List Entry). AllZip (IsBookRowOrNone survey own given.fit.now.cost (to_z w64 (of_z w64 c.args.limit))) books read) c.in_ok-kinds.ensures
    (subst (λ (found : List (Option Row)). AllZip (IsBookRowOrNone survey c.in_ok-kinds.kinds.entries.now given.fit.now.cost (to_z w64 (of_z w64 c.args.limit))) books found) (sym c.as_slice.ensures.value) c.in_ok-read.ensures.rows)))
    (c.summary_with-summary.ensures ∙ ap (λ (own : ℤ). summary_with given.fit.now.cost c.blunder_count-marked.result all (length books) own) limit
    ∙ ap (λ (own : ℕ). summary_with own c.blunder_count-marked.result all (length books) c.args.limit) cost
    ∙ ap (λ (own : ℕ). summary_with (cost_of survey heights) own all (length books) c.args.limit) marked)
    (c.in_ok-rows.ensures ∙ ap ranked (c.as_slice-2.ensures.value ∙ c.in_ok-add_rows.ensures))
    (subst (λ (own : List Row). AreNamedIn entries c.args.limit own c.in_ok-named.named.items) c.as_slice-3.ensures.value
    (subst (λ (own : ℤ). AreNamedIn entries own c.as_slice-3.result.now c.in_ok-named.named.items) limit c.in_ok-named.ensures))
    (subst (λ (own : List Row). AreReadings survey entries c.args.limit own readings) c.as_slice-4.ensures.value
    (subst (λ (own : ℤ). AreReadings survey entries own c.as_slice-4.result.now readings) limit
    (subst (λ (own : List Entry). AreReadings survey own (to_z w64 (of_z w64 c.args.limit)) c.as_slice-4.result.now readings) c.in_ok-kinds.ensures
    (subst (λ (own : Case). AreReadings own.network.now c.in_ok-kinds.kinds.entries.now (to_z w64 (of_z w64 c.args.limit)) c.as_slice-4.result.now readings) same c.in_ok-readings.ensures.readings))))
