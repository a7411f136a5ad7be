use Rattle.std.proofs.Common.{◌≡◌, ◌<◌, ◌≤◌, ◌+◌, ◌++◌, ◌∷◌, [], ℕ, Bool, List, Some, get_or, length, refl, slice_get, subst, sym, ap, ◌∙◌, arith}
use Rattle.std.proofs.lemmas.List.{get_or_default}
use Rattle.std.proofs.lemmas.Option.{slice_get_read}
use Rattle.std.proofs.lemmas.Result.{on_ok_weaker}
use Rattle.std.specs.List.{enumerate_from, filter_map}
use Rattle.th_observations.specs.Observed.{Observed}
use Rattle.th_entries.specs.Listed.{IsListed}
use Rattle.th_tables.specs.Rows.{WeightRows}
use Rattle.th_notes.specs.Findings.{pair_note, weight_note}
use Rattle.th_notes.specs.Seen.{was_observed}
use Rattle.th_notes.specs.Inside.Sets.{has_pair}
use Rattle.th_notes.proofs.FindingLemmas.{all_chosen, none_chosen, one_chosen}
use Rattle.th_notes.specs.declared.notes.Note.{Note}
use Rattle.th_notes.proofs.tables.add_weight_notes.Goals as goal
use Rattle.th_notes.proofs.tables.add_weight_notes.Goals.{in-Some+in_ok-push, in_default}

pub loop-k-preserved : goal.loop-k-preserved
loop-k-preserved c =
    let observations : List Observed = c.args.observations.now in
    let weights : WeightRows = c.args.weights.now in
    let k : ℕ = c.loop-k.k in
    let within : k < length weights = omega (arith, c.loop-k-test.true, c.len-k-end.ensures.rows) in
    let row : (List ℕ × List ℕ) × ℕ = get_or weights k (([], []), 0) in
    let found : slice_get weights k ≡ Some row = slice_get_read weights (length weights) k row refl within (get_or_default weights k (([], []), 0) row within) in
    let note : c.row_note.result ≡ weight_note observations (k + 2, row) =
    c.row_note.ensures row.0 row.1 found
    ∙ ap (λ (b : Bool). pair_note (k + 2) row.0 b (has_pair c.in_ok-pairs.pairs (row.0.1, row.0.0))) (c.in_ok-pairs.ensures row.0)
    ∙ ap (pair_note (k + 2) row.0 (was_observed observations row.0)) (c.in_ok-pairs.ensures (row.0.1, row.0.0)) in
    let so_far = c.loop-k.invariant in
    elim c.match-row_note.branch [
      | in-Some+in_ok-push w ↦ (
        so_far.0 ++ w.in-Some.note ∷ [],
        subst (IsListed (so_far.0 ++ w.in-Some.note ∷ [])) (sym w.found-is) (w.in_ok-push.ensures so_far.0 so_far.1),
        one_chosen 2 (weight_note observations) weights k row w.in-Some.note so_far.0 _ _ found (sym note ∙ w.in-Some.is) refl so_far.2,
      )
      | in_default w ↦ (
        so_far.0,
        subst (IsListed so_far.0) (sym w.found-is) so_far.1,
        none_chosen 2 (weight_note observations) weights k row so_far.0 _ _ found (sym note ∙ w.in_default.is) refl so_far.2,
      )
    ]

pub returns : goal.returns
returns c =
    let observations : List Observed = c.args.observations.now in
    let so_far = c.loop-k.invariant in
    let rows = c.args.weights.now in
    let past : length rows ≤ c.loop-k.k = omega (arith, c.loop-k-test.false, c.len-k-end.ensures.rows) in
    let all = filter_map (weight_note observations) (enumerate_from 2 rows) in
    on_ok_weaker c.add_limited.result
    (λ added. added all (subst (λ (own : List Note). IsListed own c.loop-k.found) (all_chosen (weight_note observations) 2 c.loop-k.k rows so_far.0 all past so_far.2) so_far.1))
    c.add_limited.ensures
