use Rattle.std.proofs.Common.{◌≡◌, List, ℕ, true, arith, subst, sym}
use Rattle.std.specs.List.{list_all}
use Rattle.gsi_word.specs.Bytes.{is_info}
use Rattle.th_mend.proofs.BodyLemmas.{name_body}
use Rattle.th_mend.specs.Inside.Bodies.{IsBody}
use Rattle.th_mend.proofs.new_words.with_name.Goals as goal

pub invariant_of-result : goal.invariant_of-result
invariant_of-result c =
    let word = c.args.word.now in
    let is : IsBody c.in_ok-body.body.items = name_body c.width.result c.args.name.now _ c.in_ok-body.ensures.reduced (sym c.in_ok-body.ensures.body) in
    (omega (arith, c.index.ensures, word.index_in_range), (omega arith, (subst (λ (info : List ℕ). list_all is_info info ≡ true) (sym c.info.ensures) word.info_allowed, (is.long, is.printable))))
