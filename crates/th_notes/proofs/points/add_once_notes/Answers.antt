use Rattle.std.proofs.Common.{◌≡◌, ◌++◌, ℕ, List, take, sym, subst, ap, ◌∙◌, append_assoc}
use Rattle.std.specs.Prelude.{is_some}
use Rattle.std.specs.List.{flat_map}
use Rattle.std.proofs.lemmas.List.{take_all}
use Rattle.std.proofs.lemmas.Result.{on_ok_weaker}
use Rattle.th_observations.specs.Observed.{Observed}
use Rattle.th_entries.specs.Listed.{IsListed}
use Rattle.th_tables.specs.Rows.{height_of}
use Rattle.th_notes.specs.Inside.Sets.{has_name}
use Rattle.th_notes.specs.Points.{end_note}
use Rattle.th_notes.specs.Uses.{all_ends, is_used_again}
use Rattle.th_notes.specs.declared.notes.Note.{Note}
use Rattle.th_notes.proofs.FindingLemmas.{given_more}
use Rattle.th_notes.proofs.points.add_once_notes.Goals as goal

pub loop-o-preserved : goal.loop-o-preserved
loop-o-preserved c =
    let observations : List Observed = c.args.observations.now in
    let i = c.loop-o.o-index in
    let o : Observed = c.o-item.result in
    let give : List ℕ → Observed → List Note = λ name o. end_note (is_used_again (all_ends observations) name) (is_some (height_of c.args.benchmarks.now name)) o.book o.line name in
    let both : Observed → List Note = λ o. give o.station o ++ give o.target o in
    let front = flat_map both (take i observations) in
    let station : List ℕ = c.ends-station.result.0 in
    let target : List ℕ = c.ends-station.result.1 in
    let noted : List ℕ → List Note = λ name. end_note (has_name c.in_ok-ends.ends.again name) (is_some (height_of c.args.benchmarks.now name)) o.book o.line name in
    let is : (name own : List ℕ) → name ≡ own → noted name ≡ give own o = λ name own same.
    ap (λ again. end_note again (is_some (height_of c.args.benchmarks.now name)) o.book o.line name) (c.in_ok-ends.ensures.again name) ∙ ap (λ (name : List ℕ). give name o) same in
    subst (λ (own : List Note). IsListed own c.note_end-in-loop-o.new.found)
    (append_assoc front (noted station) (noted target)
    ∙ ap (λ own. front ++ (own ++ noted target)) (is station o.station c.ends-station.ensures.station)
    ∙ ap (λ own. front ++ (give o.station o ++ own)) (is target o.target c.ends-station.ensures.target)
    ∙ sym (given_more both observations i o c.loop-o-test.true c.o-item.is))
    (c.in_ok-note_end-2.ensures (front ++ noted station) (c.in_ok-note_end.ensures front c.loop-o.invariant))

pub returns : goal.returns
returns c =
    let observations : List Observed = c.args.observations.now in
    let give : List ℕ → Observed → List Note = λ name o. end_note (is_used_again (all_ends observations) name) (is_some (height_of c.args.benchmarks.now name)) o.book o.line name in
    let both : Observed → List Note = λ o. give o.station o ++ give o.target o in
    on_ok_weaker c.add_limited.result
    (λ added. added (flat_map both observations)
    (subst (λ (own : List Observed). IsListed (flat_map both own) c.loop-o.found) (take_all c.loop-o.o-index observations c.loop-o-test.false) c.loop-o.invariant))
    c.add_limited.ensures
