use Rattle.std.proofs.Common.{◌<◌, ◌+◌, ◌++◌, ◌∷◌, [], ℕ, None, List, drop, get_or, length, ap, ◌∙◌, arith}
use Rattle.std.specs.List.{zip}
use Rattle.std.proofs.lemmas.List.{get_or_default}
use Rattle.th_entries.specs.declared.entries.Entry.{Entry}
use Rattle.th_reliability.specs.declared.effects.Effect.{Effect}
use Rattle.th_reliability.specs.declared.mistakes.SharedMistake.TheVariants.{Shows}
use Rattle.th_review_rows.specs.declared.rows.EntryRow.{EntryRow}
use Rattle.th_review_rows.specs.Rows.{entry_row, entry_rows}
use Rattle.th_columns.proofs.RowLemmas.{zipped-first}
use Rattle.th_review_rows.proofs.RowLemmas.{pushed}
use Rattle.th_review_rows.proofs.entry_list.rows_of.Goals as goal

-- the row with this weight
abbrev row_of : Entry → Effect → ℕ → EntryRow
row_of entry effect weight = record { entry = entry; weight = weight; mistake = effect.mistake; blame = effect.blame }

pub loop-k-preserved : goal.loop-k-preserved
loop-k-preserved c =
    let survey = c.args.network.now in
    let entries : List Entry = c.args.entries.now in
    let effects : List Effect = c.args.effects.now in
    let k : ℕ = c.loop-k.k in
    let entry : Entry = c.index-entries-k.result in
    let none : Effect = record { mistake = Shows; blame = None } in
    let effect : Effect = get_or effects k none in
    let within : k < length entries = c.loop-k-test.true in
    let within' : k < length effects = omega (arith, within, c.requires) in
    let first = zipped-first entries effects k entry effect within within' c.index-entries-k.is (get_or_default effects k none effect within') in
    pushed (entry_row survey) (entry, effect) (zip (drop k entries) (drop k effects)) (zip (drop (k + 1) entries) (drop (k + 1) effects))
    c.loop-k.rows.items c.push.new.self.items (entry_rows survey entries effects) first
    (c.in_ok-push.ensures.items ∙ ap (λ (weight : ℕ). c.loop-k.rows.items ++ row_of entry effect weight ∷ []) c.entry_weight.ensures)
    c.loop-k.invariant
