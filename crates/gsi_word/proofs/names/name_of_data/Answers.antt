use Rattle.std.proofs.Common.{◌≡◌, ◌<◌, ◌≤◌, length, arith, ◌∙◌, ap}
use Rattle.std.proofs.lemmas.Bool.Decides.{nat_tests}
use Rattle.gsi_word.specs.Names.{reduced, without_trailing}
use Rattle.gsi_word.specs.Limits.{max_name}
use Rattle.gsi_word.proofs.NameLemmas.{name_of-reduced}
use Rattle.gsi_word.proofs.names.name_of_data.Goals as goal

pub of-requires-2 : goal.of-requires-2
of-requires-2 c =
    let is_reduced : c.without_trailing-name.result.now ≡ reduced c.args.bytes.now =
    c.without_trailing-name.ensures ∙ ap without_trailing c.without_leading.ensures in
    let some : 0 < length c.without_trailing-name.result.now = grind (arith, nat_tests) in
    let fits : length c.without_trailing-name.result.now ≤ max_name = omega arith in
    rw is_reduced (name_of-reduced c.args.bytes.now (cc) (rw (← is_reduced) some) (rw (← is_reduced) fits))
