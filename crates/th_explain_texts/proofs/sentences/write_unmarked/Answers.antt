use Rattle.std.proofs.Common.{ℕ, List, ◌++◌, ap, codes, w64, ◌∙◌}
use Rattle.std.proofs.lemmas.Int.{to_z-of_z}
use Rattle.th_columns.specs.Columns.{line_end}
use Rattle.th_units.specs.Metres.{metres}
use Rattle.th_explain_texts.specs.Sentences.{unmarked_line}
use Rattle.th_explain_texts.proofs.TextLemmas.{on_ok, three_parts_and_end}
use Rattle.th_explain_texts.proofs.sentences.write_unmarked.Goals as goal

pub returns : goal.returns
unfolding unmarked_line
returns c =
    let limit = c.as_bytes.ensures.bytes ∙ c.metre_text-limit.ensures ∙ ap metres (to_z-of_z w64 c.args.limit c.ranges.limit) in
    on_ok _ _ c.add-3.result
    (three_parts_and_end c.args.page.now (codes "Nothing to explain: no number has to be wrong by more than ") (metres c.args.limit) (codes " m.") line_end c.add.new.self c.add-2.new.self c.add-3.new.self c.in_ok-add.ensures
    (c.in_ok-add-2.ensures ∙ ap (λ (text : List ℕ). c.add.new.self ++ text) limit))
    c.add-3.ensures
