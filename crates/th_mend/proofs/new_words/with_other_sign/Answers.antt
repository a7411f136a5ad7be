use Rattle.std.proofs.Common.{◌≡◌, List, ℕ, true, arith, subst, sym}
use Rattle.std.specs.List.{list_all}
use Rattle.gsi_word.specs.Bytes.{is_info}
use Rattle.th_mend.proofs.BodyLemmas.{spelled_with}
use Rattle.th_mend.specs.Inside.Bodies.{IsBody}
use Rattle.th_mend.proofs.new_words.with_other_sign.Goals as goal

pub unreachable-requires : goal.unreachable-requires
unreachable-requires c =
    let word = c.args.word.now in
    let is : IsBody word.body.now = record { long = word.body_long; printable = word.body_allowed } in
    c.in-None.ensures (spelled_with _ _ _ _ (omega (arith, c.index.ensures, word.index_in_range)) (omega arith)
    (subst (λ (info : List ℕ). list_all is_info info ≡ true) (sym c.info.ensures) word.info_allowed) (subst IsBody (sym c.body.ensures) is))
