use Rattle.std.proofs.Common.{◌≡◌, ℕ, ◌<◌, ◌≤◌, ◌∙◌, Bool, true, false, not, get_or, length, refl, sym, ap, arith}
use Rattle.std.specs.Bool.{beq}
use borrow.Author.Count.{below_more}
use Rattle.std.proofs.lemmas.List.{get_or_default}
use Rattle.th_observations.specs.Observed.{Observed}
use Rattle.th_reliability.specs.Sights.{in_sights}
use Rattle.th_reliability.proofs.runs.Runs.are_same.Goals as goal

equal : (a b : Bool) → not (beq a b) ≡ false → a ≡ b
equal true true e = refl
equal true false e = cc
equal false true e = cc
equal false false e = refl

pub loop-i-preserved : goal.loop-i-preserved
loop-i-preserved c = λ k d from to. below_more (λ (k : ℕ). (d : Observed) → c.run_of-start.result.0 ≤ k → in_sights c.args.first.now (get_or c.args.self.now.observations.now k d) ≡ in_sights c.args.second.now (get_or c.args.self.now.observations.now k d)) c.loop-i.i
    (λ k h d from. c.loop-i.invariant k d from h)
    (λ d from.
    let list = c.args.self.now.observations.now in
    let i = c.loop-i.i in
    let within : i < length list = omega (arith, c.run_of-start.ensures.within, c.loop-i-test.true) in
    ap (in_sights c.args.first.now) (get_or_default list i d _ within ∙ sym c.index-observations-i.is) ∙ sym c.hold.ensures ∙ equal c.hold.result c.hold-in-loop-i.result c.if-hold.false ∙ c.hold-in-loop-i.ensures ∙ ap (in_sights c.args.second.now) (c.index-observations-i-in-loop-i.is ∙ get_or_default list i _ d within))
    k to d from
