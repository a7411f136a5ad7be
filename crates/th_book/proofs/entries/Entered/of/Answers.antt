use Rattle.std.proofs.Common.{◌≡◌, ◌||◌, true, false, cond, map, None, refl, sym, ap, ◌∙◌, arith}
use Rattle.std.specs.Option.{option_or}
use Rattle.std.proofs.lemmas.Bool.Decides.{nat_tests}
use Rattle.std.proofs.lemmas.Result.{err_from_is_err_and}
use Rattle.gsi_word.specs.Words.{parts_of}
use Rattle.th_book.specs.Lines.{point_name}
use Rattle.th_book.specs.Inside.Countings.{counted_fault}
use Rattle.th_book.proofs.EntryLemmas.{entry_same, own_faults_of, setup_same, sight_same}
use Rattle.th_book.proofs.entries.Entered.of.Goals as goal
use Rattle.th_book.proofs.entries.Entered.of.Goals.{then-is_setup, else-is_setup, then-is_sight, else-is_sight}

-- a block that is neither a sight nor a setup needs no name
pub returns-in_err-check_lengths-clause-fault : goal.returns-in_err-check_lengths-clause-fault
returns-in_err-check_lengths-clause-fault c =
    let p = err_from_is_err_and c.from_residual.result c.from_residual.ensures.1 in
    let unnamed : (c.is_sight-is_sight.result || c.is_setup-is_setup.result) ≡ false = grind (arith, nat_tests) in
    rw (p.1, p.2)
    (c.in_err-check_lengths.ensures
    ∙ sym (own_faults_of (map parts_of c.args.words.now) c.args.counted.now c.is_sight-is_sight.result c.is_setup-is_setup.result false c.requires c.if-counted.false c.is_sight-is_sight.ensures c.is_setup-is_setup.ensures unnamed))

pub returns-then-not-named-clause-fault : goal.returns-then-not-named-clause-fault
returns-then-not-named-clause-fault c =
    let unnamed : (c.is_sight-is_sight.result || c.is_setup-is_setup.result) ≡ false = grind (arith, nat_tests) in
    c.in_ok-check_lengths.ensures
    ∙ sym (own_faults_of (map parts_of c.args.words.now) c.args.counted.now c.is_sight-is_sight.result c.is_setup-is_setup.result false c.requires c.if-counted.false c.is_sight-is_sight.ensures c.is_setup-is_setup.ensures unnamed)

pub returns-then-not-named-clause-entry : goal.returns-then-not-named-clause-entry
returns-then-not-named-clause-entry c =
    let words = map parts_of c.args.words.now in
    let counted = c.args.counted.now in
    let sight : c.is_sight-is_sight.result ≡ false = grind (arith, nat_tests) in
    let setup : c.is_setup-is_setup.result ≡ false = grind (arith, nat_tests) in
    let same = entry_same words counted false false None c.requires (sym sight ∙ c.is_sight-is_sight.ensures ∙ sight_same words counted c.requires) (sym setup ∙ c.is_setup-is_setup.ensures ∙ setup_same words counted c.requires) refl in
    c.with_names.ensures ∙ sym same

pub returns-in_err-check_point-clause-fault : goal.returns-in_err-check_point-clause-fault
returns-in_err-check_point-clause-fault c =
    let p = err_from_is_err_and c.from_residual-in_err-check_point.result c.from_residual-in_err-check_point.ensures.1 in
    let words = map parts_of c.args.words.now in
    let named : (c.is_sight-is_sight.result || c.is_setup-is_setup.result) ≡ true = grind (arith, nat_tests) in
    rw (p.1, p.2)
    (c.in_err-check_point.ensures
    ∙ sym (own_faults_of words c.args.counted.now c.is_sight-is_sight.result c.is_setup-is_setup.result true c.requires c.if-counted.false c.is_sight-is_sight.ensures c.is_setup-is_setup.ensures named
    ∙ ap (λ own. option_or own (counted_fault c.args.counted.now)) (sym c.in_err-check_point.ensures)
    ∙ c.in_err-check_point.ensures))

pub returns-in_err-check_lengths-2-clause-fault : goal.returns-in_err-check_lengths-2-clause-fault
returns-in_err-check_lengths-2-clause-fault c =
    let p = err_from_is_err_and c.from_residual-in_err-check_lengths-2.result c.from_residual-in_err-check_lengths-2.ensures.1 in
    let words = map parts_of c.args.words.now in
    let named : (c.is_sight-is_sight.result || c.is_setup-is_setup.result) ≡ true = grind (arith, nat_tests) in
    rw (p.1, p.2)
    (c.in_err-check_lengths-2.ensures
    ∙ sym (own_faults_of words c.args.counted.now c.is_sight-is_sight.result c.is_setup-is_setup.result true c.requires c.if-counted.false c.is_sight-is_sight.ensures c.is_setup-is_setup.ensures named
    ∙ ap (λ own. option_or own (counted_fault c.args.counted.now)) (sym c.in_ok-check_point.ensures)))

pub returns-clause-fault : goal.returns-clause-fault
returns-clause-fault c =
    let words = map parts_of c.args.words.now in
    let named : (c.is_sight-is_sight.result || c.is_setup-is_setup.result) ≡ true = grind (arith, nat_tests) in
    c.in_ok-check_lengths-2.ensures
    ∙ sym (own_faults_of words c.args.counted.now c.is_sight-is_sight.result c.is_setup-is_setup.result true c.requires c.if-counted.false c.is_sight-is_sight.ensures c.is_setup-is_setup.ensures named
    ∙ ap (λ own. option_or own (counted_fault c.args.counted.now)) (sym c.in_ok-check_point.ensures))

pub returns-clause-entry : goal.returns-clause-entry
returns-clause-entry c =
    let words = map parts_of c.args.words.now in
    let counted = c.args.counted.now in
    let point = c.point_name-point.result in
    let sight = c.is_sight-is_sight.result in
    let setup = c.is_setup-is_setup.result in
    let named : (sight || setup) ≡ true = grind (arith, nat_tests) in
    let station : c.if-is_setup.station ≡ cond setup point None = elim c.if-is_setup.branch [
      | then-is_setup w ↦ w.station-is ∙ ap (λ own. cond own point None) (sym w.if-is_setup.true)
      | else-is_setup w ↦ w.station-is ∙ ap (λ own. cond own point None) (sym w.if-is_setup.false)
    ] in
    let target : c.if-is_sight.target ≡ cond sight point None = elim c.if-is_sight.branch [
      | then-is_sight w ↦ w.target-is ∙ ap (λ own. cond own point None) (sym w.if-is_sight.true)
      | else-is_sight w ↦ w.target-is ∙ ap (λ own. cond own point None) (sym w.if-is_sight.false)
    ] in
    let begins = c.point_name-point.ensures ∙ ap (λ own. cond own (point_name words) None) (sym named) in
    let same = entry_same words counted sight setup point c.requires (c.is_sight-is_sight.ensures ∙ sight_same words counted c.requires) (c.is_setup-is_setup.ensures ∙ setup_same words counted c.requires) begins in
    c.with_names-2.ensures ∙ rw (station, target) (sym same)
