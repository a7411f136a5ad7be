use Rattle.std.proofs.Common.{◌≡◌, ◌∙◌, ℤ, ◌+ℤ◌, true, ap, rules, w64}
use Rattle.std.proofs.lemmas.Int.{to_z-of_z}
use Rattle.th_answer.specs.declared.answers.Others.TheVariants.{Differ}
use Rattle.th_answer.proofs.TellingLemmas.{different, high_is_small, low_is_small}
use Rattle.th_answer.proofs.telling.said.Goals as goal

pub differing-requires-clause-low : goal.differing-requires-clause-low
differing-requires-clause-low c = low_is_small c.args.sieve.now.case.now.network.now c.args.row.now.name c.in-Some.freed (rw c.in-Some.is at c.in_ok-freed.ensures.found)

pub differing-requires-clause-high : goal.differing-requires-clause-high
differing-requires-clause-high c = high_is_small c.args.sieve.now.case.now.network.now c.args.row.now.name c.in-Some.freed (rw c.in-Some.is at c.in_ok-freed.ensures.found)

pub returns-in-Some-clause-said : goal.returns-in-Some-clause-said
returns-in-Some-clause-said c =
    let freed = c.in-Some.freed in
    let tied : c.args.row.now.tied ≡ true = search rules in
    different c.args.sieve.now.case.now.network.now c.args.row.now.name c.args.given c.args.row.now c.requires.told tied freed (rw c.in-Some.is at c.in_ok-freed.ensures.found) c.differing.result
    (c.differing.ensures ∙ ap (λ (given : ℤ). Differ (given +ℤ freed.low) (given +ℤ freed.high)) (to_z-of_z w64 c.args.given c.ranges.given))
