use Rattle.std.proofs.Common.{◌≡◌, ◌+◌, ◌-◌, false, true, [], ◌∷◌, ◌++◌, map, drop, slice_index, suc, sym, ap, ◌∙◌, arith}
use Rattle.std.proofs.lemmas.Bool.Decides.{nat_tests}
use Rattle.std.proofs.lemmas.List.{map-append}
use Rattle.gsi_word.specs.Bytes.{is_space}
use Rattle.gsi_word.specs.Words.{parts_of}
use Rattle.gsi_block.specs.Limits.{max_words}
use Rattle.gsi_block.specs.Blocks.{is_blank}
use Rattle.gsi_block.proofs.Rows.{behind, Goes, row-too_many, row-bad_word, row-bad_separator, row-last, row-more}
use Rattle.gsi_block.proofs.parsing.words_of.Goals as goal

pub returns-in-Err : goal.returns-in-Err
returns-in-Err c =
    let front = map parts_of c.loop-before.words.items in
    let left = max_words - (c.loop-before.before + 1) in
    let room : max_words - c.loop-before.before ≡ suc left = omega arith in
    let so_far : Goes c.args.width c.args.bytes.now front (suc left) (c.loop-before.before + 1) c.loop-before.rest.now =
    rw (← room) c.loop-before.invariant.so_far in
    row-bad_word c.args.width c.args.bytes.now front c.loop-before.rest.now _ _ c.in-Err.fault so_far (sym c.in-Err.ensures)

pub returns-then-is_blank : goal.returns-then-is_blank
returns-then-is_blank c =
    let front = map parts_of c.loop-before.words.items in
    let left = max_words - (c.loop-before.before + 1) in
    let room : max_words - c.loop-before.before ≡ suc left = omega arith in
    let so_far : Goes c.args.width c.args.bytes.now front (suc left) (c.loop-before.before + 1) c.loop-before.rest.now =
    rw (← room) c.loop-before.invariant.so_far in
    let after : c.split_at.result.1.now ≡ behind c.args.width c.loop-before.rest.now =
    c.split_at.ensures.back ∙ ap (λ n. drop n c.loop-before.rest.now) c.spelling_len.ensures in
    let blank : is_blank (behind c.args.width c.loop-before.rest.now) ≡ true =
    ap is_blank (sym after) ∙ sym c.is_blank.ensures ∙ c.if-is_blank.true in
    let words : map parts_of c.push.new.self.items ≡ front ++ parts_of c.in-Ok.word ∷ [] =
    ap (map parts_of) c.push.ensures.items ∙ map-append parts_of c.loop-before.words.items (c.in-Ok.word ∷ []) in
    rw words (row-last c.args.width c.args.bytes.now front c.loop-before.rest.now _ _ (parts_of c.in-Ok.word) so_far (sym c.in-Ok.ensures) blank)

pub returns-then-after-ne32 : goal.returns-then-after-ne32
returns-then-after-ne32 c =
    let front = map parts_of c.loop-before.words.items in
    let left = max_words - (c.loop-before.before + 1) in
    let room : max_words - c.loop-before.before ≡ suc left = omega arith in
    let so_far : Goes c.args.width c.args.bytes.now front (suc left) (c.loop-before.before + 1) c.loop-before.rest.now =
    rw (← room) c.loop-before.invariant.so_far in
    let after : c.split_at.result.1.now ≡ behind c.args.width c.loop-before.rest.now =
    c.split_at.ensures.back ∙ ap (λ n. drop n c.loop-before.rest.now) c.spelling_len.ensures in
    let more : is_blank (behind c.args.width c.loop-before.rest.now) ≡ false =
    ap is_blank (sym after) ∙ sym c.is_blank.ensures ∙ c.if-is_blank.false in
    let other : is_space (slice_index c.split_at.result.1.now 0) ≡ false = grind (arith, nat_tests, c.if-after-ne32.true) in
    row-bad_separator c.args.width c.args.bytes.now front c.loop-before.rest.now _ _ (parts_of c.in-Ok.word) so_far (sym c.in-Ok.ensures) more
    (ap (λ bytes. is_space (slice_index bytes 0)) (sym after) ∙ other)

pub loop-before-preserved : goal.loop-before-preserved
loop-before-preserved c =
    let front = map parts_of c.loop-before.words.items in
    let left = max_words - (c.loop-before.before + 1) in
    let room : max_words - c.loop-before.before ≡ suc left = omega arith in
    let so_far : Goes c.args.width c.args.bytes.now front (suc left) (c.loop-before.before + 1) c.loop-before.rest.now =
    rw (← room) c.loop-before.invariant.so_far in
    let after : c.split_at.result.1.now ≡ behind c.args.width c.loop-before.rest.now =
    c.split_at.ensures.back ∙ ap (λ n. drop n c.loop-before.rest.now) c.spelling_len.ensures in
    let more : is_blank (behind c.args.width c.loop-before.rest.now) ≡ false =
    ap is_blank (sym after) ∙ sym c.is_blank.ensures ∙ c.if-is_blank.false in
    let space : is_space (slice_index c.split_at.result.1.now 0) ≡ true = grind (arith, nat_tests, c.if-after-ne32.false) in
    let words : map parts_of c.push.new.self.items ≡ front ++ parts_of c.in-Ok.word ∷ [] =
    ap (map parts_of) c.push.ensures.items ∙ map-append parts_of c.loop-before.words.items (c.in-Ok.word ∷ []) in
    let rest : c.split_at-in-loop-before.result.1.now ≡ drop 1 (behind c.args.width c.loop-before.rest.now) =
    c.split_at-in-loop-before.ensures.back ∙ ap (drop 1) after in
    record {
      so_far = rw (rest, words) (row-more c.args.width c.args.bytes.now front c.loop-before.rest.now left (c.loop-before.before + 1) (parts_of c.in-Ok.word) so_far (sym c.in-Ok.ensures) more (ap (λ bytes. is_space (slice_index bytes 0)) (sym after) ∙ space));
      counted = omega (arith, c.push.ensures.len, c.loop-before.invariant.counted);
    }

pub returns : goal.returns
returns c =
    let front = map parts_of c.loop-before.words.items in
    let room : max_words - c.loop-before.before ≡ 0 = omega arith in
    let so_far : Goes c.args.width c.args.bytes.now front 0 (c.loop-before.before + 1) c.loop-before.rest.now =
    rw (← room) c.loop-before.invariant.so_far in
    row-too_many c.args.width c.args.bytes.now front c.loop-before.rest.now _ so_far
