use Rattle.std.proofs.Common.{◌≡◌, inl, inr, ap, sym, ◌∙◌, arith}
use Rattle.std.proofs.lemmas.Bool.{false≢true}
use Rattle.th_cuts.specs.CutWeights.{separates}
use Rattle.th_cuts.proofs.CutTreeLemmas.{apart_itself}
use Rattle.th_cuts.proofs.branches.Branches.lightest.Goals as goal

pub returns-clause-least : goal.returns-clause-least
returns-clause-least c d inside h =
    let walk = c.walking.invariant in
    elim (walk.least d inside h) [
      | inl on ↦
          let same : c.walking.early ≡ c.walking.late = omega (arith, walk.order, c.walking-test.false) in
          absurd (false≢true (sym (apart_itself (inside c.walking.early)) ∙ ap (separates inside c.walking.early) same ∙ on))
      | inr is ↦ is
    ]
