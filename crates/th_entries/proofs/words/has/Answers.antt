use Rattle.std.proofs.Common.{◌||◌, map, take, sym, ap, ◌∙◌}
use Rattle.std.proofs.lemmas.List.{take_all}
use Rattle.gsi_word.specs.Words.{parts_of}
use Rattle.th_entries.specs.Words.{has, is_numbered}
use Rattle.th_entries.proofs.AnyLemmas.{any-at}
use Rattle.th_entries.proofs.words.has.Goals as goal

pub loop-word-preserved : goal.loop-word-preserved
loop-word-preserved c =
    ap (λ own. own || c.is_numbered-found.result) c.loop-word.invariant
    ∙ ap (λ own. has c.args.number (map parts_of (take c.loop-word.word-index c.args.words.now)) || own) c.is_numbered-found.ensures
    ∙ sym (any-at (is_numbered c.args.number) parts_of c.args.words.now c.loop-word.word-index c.word-item.result c.loop-word-test.true c.word-item.is)

pub returns : goal.returns
returns c = c.loop-word.invariant ∙ ap (λ front. has c.args.number (map parts_of front)) (take_all c.loop-word.word-index c.args.words.now c.loop-word-test.false)
