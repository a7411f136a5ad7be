use Rattle.std.proofs.Common.{map, take, [], ◌∷◌, ◌++◌, sym, ap, ◌∙◌}
use Rattle.std.proofs.lemmas.List.{map_push, take_more, take_all}
use Rattle.gsi_word.specs.Words.{parts_of}
use Rattle.th_book.specs.Inside.Countings.{counted_in, counted_with}
use Rattle.th_book.proofs.CountedWords.{counted_in-more}
use Rattle.th_book.proofs.countings.Counted.count.Goals as goal

pub loop-word-preserved : goal.loop-word-preserved
loop-word-preserved c =
    let words = c.args.words.now in
    let index = c.loop-word.word-index in
    let word = c.word-item.result in
    c.take.ensures
    ∙ ap (counted_with (parts_of word)) c.loop-word.invariant
    ∙ sym (counted_in-more (map parts_of (take index words)) (parts_of word))
    ∙ ap counted_in (sym (map_push parts_of (take index words) word))
    ∙ ap (λ front. counted_in (map parts_of front)) (ap (λ last. take index words ++ last ∷ []) c.word-item.is ∙ sym (take_more words index word c.loop-word-test.true))

pub returns : goal.returns
returns c =
    c.loop-word.invariant ∙ ap (λ front. counted_in (map parts_of front)) (take_all c.loop-word.word-index c.args.words.now c.loop-word-test.false)
