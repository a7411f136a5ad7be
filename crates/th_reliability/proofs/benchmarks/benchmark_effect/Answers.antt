use Rattle.std.proofs.Common.{◌≡◌, ◌∙◌, Bool, count_by, length, map, ap}
use Rattle.th_tables.specs.Rows.{BenchmarkRows}
use Rattle.th_reliability.specs.Benchmarks.{has_end}
use Rattle.th_reliability.proofs.BenchmarkEffectLemmas.{at_vertex, drained_strength, effect_is, strength_is}
use Rattle.th_reliability.proofs.EndLemmas.{count_of}
use Rattle.th_reliability.proofs.benchmarks.benchmark_effect.Goals as goal

pub returns : goal.returns
returns c =
    let survey = c.args.ground.now.network.now in
    let name = c.args.name.now in
    let fixed = c.requires in
    let between = c.in_ok-mistaken.ensures.between in
    let group = has_end name in
    let marked : c.deref.result.now ≡ map group survey.observations = c.deref.ensures.value ∙ c.in_ok-mistaken.ensures.marks in
    let counted = c.count_marked-sights.ensures ∙ ap (count_by (λ (mark : Bool). mark)) (c.deref-2.ensures.value ∙ c.in_ok-mistaken.ensures.marks) ∙ count_of group survey.observations in
    let at = at_vertex survey name fixed in
    let drained = c.in_ok-flowed.flowed.drained in
    let weight = c.in_ok-flowed.flowed.weight in
    let flowed = c.in_ok-flowed.ensures group marked in
    let rows = c.len-2.ensures.rows ∙ ap (λ (own : BenchmarkRows). length own) c.benchmarks.ensures in
    record {
      sights = counted;
      weight = flowed.weight;
      strength = strength_is survey name fixed between c.len-2.result _ c.strength_of.result rows (drained_strength survey name fixed between drained weight flowed.weight (flowed.drained at)) c.strength_of.ensures;
      effect = effect_is survey name fixed between c.count_marked-sights.result c.in_ok-flowed.flowed.effect c.if_some.result counted (flowed.effect at) c.if_some.ensures;
    }
