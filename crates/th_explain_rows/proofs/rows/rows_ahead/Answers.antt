use Rattle.std.proofs.Common.{◌<◌, ◌∙◌, ◌++◌, ◌∷◌, [], ℕ, List, Option, append-nil, ap, length, refl, subst, sym, arith}
use Rattle.std.proofs.lemmas.List.{take_all}
use Rattle.std.proofs.lemmas.List.FromFn.{length-enumerate_from}
use Rattle.std.proofs.lemmas.Slice.Zip.{AllZip-long}
use Rattle.std.proofs.lemmas.Grind.{flat_map-append}
use Rattle.std.specs.List.{enumerate_from, flat_map}
use Rattle.std.specs.Prelude.{IfSome, option_to_list}
use Rattle.th_reliability.proofs.ZipLemmas.{zip_next}
use Rattle.th_changes.specs.declared.cases.Case.{Case}
use Rattle.th_numbers.specs.declared.candidates.Candidate.{Candidate}
use Rattle.th_explain_rows.specs.Inside.Passing.{AreRowsAhead, IsRowOfFound}
use Rattle.th_explain_rows.specs.Inside.Sifting.{IsSiftedOrBehind}
use Rattle.th_explain_rows.specs.Rows.{IsRowOrBehind, Passes}
use Rattle.th_explain_rows.specs.declared.rows.Filter.{Filter}
use Rattle.th_explain_texts.specs.declared.rows.Row.{Row}
use Rattle.th_explain_rows.proofs.PassLemmas.{numbered, zip_at}
use Rattle.th_explain_rows.proofs.RowLemmas.{ahead_passes, row_or_behind}
use Rattle.th_explain_rows.proofs.rows.rows_ahead.Goals as goal

pub index-requires : goal.index-requires
index-requires c =
    let long = AllZip-long _ _ _ c.requires in
    let all = length-enumerate_from 0 c.args.candidates.now in
    omega (arith, long, all, c.loop-k-test.true)

pub row_of_found-requires : goal.row_of_found-requires
row_of_found-requires c =
    let case : Case = c.args.mending.now.case.now in
    let survey = case.network.now in
    let filter : Filter = c.args.found.now.filter in
    let candidates = c.args.candidates.now in
    let k : ℕ = c.loop-k.k in
    let within : k < length (enumerate_from 0 candidates) = omega (arith, c.loop-k-test.true, length-enumerate_from 0 candidates) in
    subst (λ (own : Case). IfSome c.ahead-own.result (Passes own.network.now filter c.index-candidates-k.result)) (sym c.loop-k.invariant.case)
    (ahead_passes survey case.cost filter c.args.found.now.cutoff k c.index-candidates-k.result c.index.result.now c.ahead-own.result
    (subst (IsSiftedOrBehind survey filter c.args.found.now.cutoff (k, c.index-candidates-k.result)) (sym c.index.ensures)
    (zip_at (IsSiftedOrBehind survey filter c.args.found.now.cutoff) (enumerate_from 0 candidates) c.args.found.now.freed.items k (k, c.index-candidates-k.result) c.index.result.now c.requires within (numbered candidates k c.index-candidates-k.result c.loop-k-test.true c.index-candidates-k.is)))
    c.ahead-own.ensures)

pub loop-k-preserved : goal.loop-k-preserved
loop-k-preserved c =
    let case : Case = c.args.mending.now.case.now in
    let survey = case.network.now in
    let filter : Filter = c.args.found.now.filter in
    let candidates = c.args.candidates.now in
    let k : ℕ = c.loop-k.k in
    let here = numbered candidates k c.index-candidates-k.result c.loop-k-test.true c.index-candidates-k.is in
    let within : k < length (enumerate_from 0 candidates) = omega (arith, c.loop-k-test.true, length-enumerate_from 0 candidates) in
    let row = subst (λ (own : Case). IsRowOfFound own.network.now own.cost filter c.index-candidates-k.result c.ahead-own.result c.in_ok-row.row) c.loop-k.invariant.case c.in_ok-row.ensures.row in
    let (before, numbers, so_far) = c.loop-k.invariant.rows in
    let own : Option Row = c.in_ok-row.row in
    record {
      rows = (
        before ++ own ∷ [],
        zip_next (IsRowOrBehind survey case.cost filter c.args.found.now.cutoff) (enumerate_from 0 candidates) before (before ++ own ∷ []) k (k, c.index-candidates-k.result) own within here refl numbers
            (row_or_behind survey case.cost filter c.args.found.now.cutoff k c.index-candidates-k.result c.freed_is_one.ensures c.index.result.now c.ahead-own.result own
            (subst (IsSiftedOrBehind survey filter c.args.found.now.cutoff (k, c.index-candidates-k.result)) (sym c.index.ensures)
            (zip_at (IsSiftedOrBehind survey filter c.args.found.now.cutoff) (enumerate_from 0 candidates) c.args.found.now.freed.items k (k, c.index-candidates-k.result) c.index.result.now c.requires within here)) c.ahead-own.ensures row),
        c.in_ok-add_row.ensures ∙ ap (λ (rows : List Row). rows ++ option_to_list own) so_far ∙ ap (λ (last : List Row). flat_map option_to_list before ++ last) (sym (append-nil (option_to_list own))) ∙ sym (flat_map-append option_to_list before (own ∷ [])),
      );
      case = c.in_ok-row.ensures.case ∙ c.loop-k.invariant.case;
    }

pub returns-clause-rows : goal.returns-clause-rows
returns-clause-rows c =
    let case : Case = c.args.mending.now.case.now in
    let all = enumerate_from 0 c.args.candidates.now in
    subst (λ (own : List (ℕ × Candidate)). AreRowsAhead case c.args.found.now.filter c.args.found.now.cutoff own c.loop-k.rows.items)
    (take_all c.loop-k.k all (omega (arith, c.loop-k-test.false, length-enumerate_from 0 c.args.candidates.now))) c.loop-k.invariant.rows
