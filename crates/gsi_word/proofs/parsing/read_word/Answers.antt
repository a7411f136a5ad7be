use Rattle.std.proofs.Common.{arith, sym}
use Rattle.std.proofs.lemmas.Bool.Decides.{nat_tests}
use Rattle.gsi_word.proofs.Spellings.{word_at_places, bad_data, good}
use Rattle.gsi_word.proofs.parsing.read_word.Goals as goal

pub returns-then-not-are_info : goal.returns-then-not-are_info
returns-then-not-are_info c =
    rw (word_at_places c.args.width c.args.bytes.now (omega arith)) (grind (arith, nat_tests))

pub returns-then-not-is_sign : goal.returns-then-not-is_sign
returns-then-not-is_sign c =
    rw (word_at_places c.args.width c.args.bytes.now (omega arith)) (grind (arith, nat_tests))

pub returns-then-not-are_data : goal.returns-then-not-are_data
returns-then-not-are_data c =
    sym (bad_data c.args.width c.args.bytes.now _ c.spelling_len-end.ensures (omega arith) (cc) (cc) (cc) (cc) (cc))

pub returns : goal.returns
returns c =
    sym (good c.args.width c.args.bytes.now _ c.spelling_len-end.ensures (omega arith) (cc) (cc) (cc) (cc) (cc))
