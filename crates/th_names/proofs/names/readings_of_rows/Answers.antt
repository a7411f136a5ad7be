use Rattle.std.proofs.Common.{◌<◌, ℕ, List, [], ◌++◌, length, refl, subst, ap, ◌∙◌, arith}
use Rattle.std.specs.List.{AllZip, enumerate_from}
use Rattle.std.proofs.lemmas.List.{take_all}
use Rattle.std.proofs.lemmas.List.FromFn.{length-enumerate_from}
use Rattle.th_changes.specs.declared.cases.Case.{Case}
use Rattle.th_explain_texts.specs.declared.rows.ReadingRow.{ReadingRow}
use Rattle.th_explain_texts.specs.declared.rows.Row.{Row}
use Rattle.th_names.specs.Names.{AreReadingsAt}
use Rattle.th_names.proofs.JoinLemmas.{joined_next, placed}
use Rattle.th_names.proofs.names.readings_of_rows.Goals as goal

pub loop-place-init : goal.loop-place-init
loop-place-init c = record { found = record { each = []; are = tt; listed = c.new-readings.ensures.items }; case = refl }

pub readings_at-requires : goal.readings_at-requires
readings_at-requires c = ap (λ (case : Case). case.network.now) c.loop-place.invariant.case ∙ c.requires

pub loop-place-preserved : goal.loop-place-preserved
loop-place-preserved c =
    let own = c.args.own.now in
    let rows : List Row = c.args.rows.now in
    let place : ℕ = c.loop-place.place in
    let within : place < length (enumerate_from 0 rows) = omega (arith, c.loop-place-test.true, length-enumerate_from 0 rows) in
    record {
      found = joined_next (AreReadingsAt own.network.now own.kinds.now.entries.now own.limit) (enumerate_from 0 rows) [] c.loop-place.readings.items c.extend_from_slice.new.self.items c.in_ok-found.found.items
          place (place, c.index-rows-place.result) within (placed rows place c.index-rows-place.result c.loop-place-test.true c.index-rows-place.is) (c.in_ok-extend_from_slice.ensures.items ∙ ap (λ (own' : List ReadingRow). c.loop-place.readings.items ++ own') c.deref.ensures.value) c.loop-place.invariant.found c.in_ok-found.ensures.found;
      case = c.in_ok-found.ensures.case ∙ c.loop-place.invariant.case;
    }

pub returns-clause-readings : goal.returns-clause-readings
returns-clause-readings c =
    let own = c.args.own.now in
    let rows : List Row = c.args.rows.now in
    record {
      each = c.loop-place.invariant.found.each;
      are_at = subst (λ (all : List (ℕ × Row)). AllZip (AreReadingsAt own.network.now own.kinds.now.entries.now own.limit) all c.loop-place.invariant.found.each)
          (take_all c.loop-place.place (enumerate_from 0 rows) (omega (arith, c.loop-place-test.false, length-enumerate_from 0 rows))) c.loop-place.invariant.found.are;
      listed = c.loop-place.invariant.found.listed;
    }
