use Rattle.std.proofs.Common.{false, ◌||◌, map, take, sym, ap, ◌∙◌}
use Rattle.std.proofs.lemmas.List.{take_all}
use Rattle.std.specs.List.{list_any}
use Rattle.gsi_word.specs.Words.{parts_of}
use Rattle.th_entries.specs.Words.{is_one_of, measured}
use Rattle.th_entries.proofs.AnyLemmas.{any-at}
use Rattle.th_entries.proofs.words.may_measure.Goals as goal

pub loop-word-preserved : goal.loop-word-preserved
loop-word-preserved c =
    any-at (is_one_of measured) parts_of c.args.words.now c.loop-word.word-index c.word-item.result c.loop-word-test.true c.word-item.is
    ∙ ap (λ own. list_any (is_one_of measured) (map parts_of (take c.loop-word.word-index c.args.words.now)) || own) (c.may_be_measured.ensures c.if-may_be_measured.false)
    ∙ ap (λ own. own || false) c.loop-word.invariant

pub returns : goal.returns
returns c none = sym (ap (λ front. list_any (is_one_of measured) (map parts_of front)) (take_all c.loop-word.word-index c.args.words.now c.loop-word-test.false)) ∙ c.loop-word.invariant
