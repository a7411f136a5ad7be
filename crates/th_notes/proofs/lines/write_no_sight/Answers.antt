use Rattle.std.proofs.Common.{◌≡◌, ◌++◌, ℕ, List, codes, decimal}
use Rattle.std.proofs.lemmas.Result.{on_ok_weaker}
use Rattle.th_entries.specs.Sights.{blocks_end, no_sight_text, numbers_in, words_seen}
use Rattle.th_entries.specs.Words.{measured}
use Rattle.th_notes.proofs.LineLemmas.{put_behind}
use Rattle.th_notes.proofs.lines.write_no_sight.Goals as goal

pub returns : goal.returns
unfolding no_sight_text
returns c =
    let note = c.args.note.now in
    let page : List ℕ = c.args.page.now in
    let book : List ℕ = codes "book " ++ decimal note.book in
    let has : List ℕ = book ++ codes " has no sight in " in
    let blocks : List ℕ = has ++ decimal note.blocks in
    let lacks : List ℕ = blocks ++ blocks_end note.blocks in
    let seen : List ℕ = words_seen (numbers_in note.words measured) in
    let to_book = put_behind page (codes "book ") (decimal note.book) _ _ (rw c.in_ok-add.was at c.add.ensures) (rw c.in_ok-write_number.was at c.write_number.ensures) in
    let to_has = put_behind page book (codes " has no sight in ") _ _ to_book (rw c.in_ok-add-2.was at c.add-2.ensures) in
    let to_blocks = put_behind page has (decimal note.blocks) _ _ to_has (rw c.in_ok-write_number-2.was at c.write_number-2.ensures) in
    let to_lacks = put_behind page blocks (blocks_end note.blocks) _ _ to_blocks (rw (c.in_ok-add-3.was, c.as_bytes.ensures.value, c.blocks_end.ensures) at c.add-3.ensures) in
    let to_seen = put_behind page lacks seen _ _ to_lacks (rw (c.in_ok-write_words.was, c.as_slice.ensures.value, c.numbers.ensures.numbers) at c.write_words.ensures) in
    on_ok_weaker c.add-4.result (put_behind page (lacks ++ seen) (codes ")") _ _ to_seen) c.add-4.ensures
