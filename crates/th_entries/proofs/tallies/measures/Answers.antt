use Rattle.std.proofs.Common.{◌||◌, map, take, sym, ap, ◌∙◌}
use Rattle.std.specs.List.{list_any}
use Rattle.std.proofs.lemmas.List.{take_all}
use Rattle.gsi_word.specs.Words.{parts_of}
use Rattle.th_entries.specs.Reviews.{is_measured}
use Rattle.th_entries.proofs.AnyLemmas.{any-at}
use Rattle.th_entries.proofs.tallies.measures.Goals as goal

pub loop-word-preserved : goal.loop-word-preserved
loop-word-preserved c =
    ap (λ own. own || c.is_measured-measured.result) c.loop-word.invariant
    ∙ ap (λ own. list_any is_measured (map parts_of (take c.loop-word.word-index c.args.words.now)) || own) c.is_measured-measured.ensures
    ∙ sym (any-at is_measured parts_of c.args.words.now c.loop-word.word-index c.word-item.result c.loop-word-test.true c.word-item.is)

pub returns : goal.returns
returns c = c.loop-word.invariant ∙ ap (λ front. list_any is_measured (map parts_of front)) (take_all c.loop-word.word-index c.args.words.now c.loop-word-test.false)
