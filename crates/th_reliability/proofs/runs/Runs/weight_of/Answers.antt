use Rattle.std.proofs.Common.{◌≡◌, ◌<◌, ◌+◌, ℕ, Bool, List, get_or, if◌then◌else◌, length, sum_by, take, subst, sym, ap, ◌∙◌, arith}
use Rattle.std.proofs.lemmas.List.{get_or-map}
use Rattle.std.proofs.lemmas.List.Sums.{sum_by_more}
use Rattle.std.proofs.lemmas.Option.{get_or_from_slice_get}
use Rattle.th_observations.specs.Observed.{Observed}
use Rattle.th_tables.specs.Rows.{weight_of}
use Rattle.th_network.specs.Networks.{weights_of}
use Rattle.th_reliability.specs.Sights.{in_sights}
use Rattle.th_reliability.specs.Runs.{HoldsSights}
use Rattle.th_reliability.proofs.RunLemmas.{none_before, none_behind, sum_to}
use Rattle.th_reliability.proofs.runs.Runs.weight_of.Goals as goal
use Rattle.th_reliability.proofs.runs.Runs.weight_of.Goals.{then-hold, else-hold}

pub loop-i-init : goal.loop-i-init
loop-i-init c =
    let run : HoldsSights c.args.network.now.observations c.args.sights.now c.run_of-start.result =
    subst (λ (observations : List Observed). HoldsSights observations c.args.sights.now c.run_of-start.result) c.requires c.run_of-start.ensures in
    record {
      sum = none_before c.args.network.now.observations c.args.sights.now (λ (o : Observed). weight_of c.args.network.now.weights o.station o.target) c.run_of-start.result.0 c.run_of-start.result.1 run;
      small = omega arith;
    }

pub loop-i-preserved : goal.loop-i-preserved
loop-i-preserved c =
    let survey = c.args.network.now in
    let sights = c.args.sights.now in
    let observations = survey.observations in
    let i = c.loop-i.i in
    let o = c.index-observations-i.result in
    let all = c.observations-observations.ensures.observations in
    let within : i < length observations = omega (arith, ap length c.requires, c.run_of-start.ensures.within, c.loop-i-test.true) in
    let is : o ≡ get_or observations i o = c.index-observations-i.is ∙ ap (λ (os : List Observed). get_or os i o) all in
    let weight_at = λ (o : Observed). weight_of survey.weights o.station o.target in
    let term = λ (o : Observed). if in_sights sights o then weight_at o else 0 in
    let more : sum_by term (take (i + 1) observations) ≡ sum_by term (take i observations) + term o = sum_by_more term observations i o within ∙ ap (λ (o : Observed). sum_by term (take i observations) + term o) (sym is) in
    elim c.if-hold.branch [
      | then-hold w ↦
          let used : term o ≡ weight_at o = ap (λ (b : Bool). if b then weight_at o else 0) (sym c.hold.ensures ∙ w.if-hold.true) in
          let weight : w.weight-sum.result ≡ weight_at o = sym (get_or_from_slice_get (weights_of survey) i w.weight-sum.result w.weight-sum.result w.weight-sum.ensures.weight) ∙ get_or-map weight_at observations i o w.weight-sum.result within ∙ ap weight_at (sym is) in
          record {
            sum = w.sum-is ∙ ap (λ n. n + w.weight-sum.result) c.loop-i.invariant.sum ∙ ap (λ n. sum_by term (take i observations) + n) (weight ∙ sym used) ∙ sym more;
            small = omega (arith, w.sum-is, w.weight-sum.ensures.in_range);
          }
      | else-hold w ↦
          let unused : term o ≡ 0 = ap (λ (b : Bool). if b then weight_at o else 0) (sym c.hold.ensures ∙ w.if-hold.false) in
          record {
            sum = w.sum-is ∙ c.loop-i.invariant.sum ∙ omega (arith, more, unused);
            small = omega (arith, w.sum-is);
          }
    ]

pub returns : goal.returns
returns c =
    let observations : List Observed = c.args.network.now.observations in
    let end : ℕ = c.run_of-start.result.1 in
    let weight_at = λ (o : Observed). weight_of c.args.network.now.weights o.station o.target in
    let run : HoldsSights observations c.args.sights.now c.run_of-start.result =
    subst (λ (observations : List Observed). HoldsSights observations c.args.sights.now c.run_of-start.result) c.requires c.run_of-start.ensures in
    let at_end : c.loop-i.i ≡ end = omega (arith, run.ordered, c.loop-i-test.false, c.loop-i.auto.i-end) in
    c.loop-i.invariant.sum ∙ ap (sum_to observations c.args.sights.now weight_at) at_end
    ∙ sym (none_behind observations c.args.sights.now weight_at c.run_of-start.result.0 end run)
