use Rattle.std.proofs.Common.{◌≡◌, Bool, true, false, MatchBool, refl, arith}
use Rattle.th_search.proofs.DistanceLemmas.{kept_from_steps}
use Rattle.th_search.proofs.distances.TightArcs.lower_all.Goals as goal

pub returns-clause-lowered : goal.returns-clause-lowered
returns-clause-lowered c =
    let labels = c.loop-step.labels in
    let test = c.loop-step-test.false in
    let i = c.loop-step.invariant in
    by c.loop-step.lowered i.fallen (λ none. kept_from_steps c.args.self.now.arcs.now labels c.args.sweep c.loop-step.step (omega arith) (i.kept none))
  where
    by : {P Q : Type 0} (b : Bool) → (b ≡ true → P) → (b ≡ false → Q) → MatchBool b P Q
    by true some none = some refl
    by false some none = none refl
