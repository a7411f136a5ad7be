use Rattle.std.proofs.Common.{◌∙◌, ap, length, arith, nat_lt}
use Rattle.std.specs.List.{count_by}
use Rattle.std.proofs.lemmas.List.{take_all}
use Rattle.th_cuts.specs.Drains.{on_side}
use Rattle.th_reliability.specs.Blames.{blamed_weights}
use Rattle.th_reliability.specs.Inside.Sides.{names_beyond}
use Rattle.th_reliability.proofs.BlameLemmas.{blamed_long, heaviest_of_all}
use Rattle.th_reliability.proofs.blames.blame_of.Goals as goal

pub returns : goal.returns
returns c =
    let survey = c.args.network.now in
    let inside = names_beyond survey (on_side c.args.side.now) in
    let weights = blamed_weights survey c.args.mistaken.now inside in
    let seen = length survey.observations in
    let long = blamed_long survey c.args.mistaken.now inside c.requires.each in
    record {
      moves = c.moved_points.ensures;
      blames = c.blamed_of-blamed.ensures.count ∙ ap (count_by (λ weight. nat_lt 0 weight)) (take_all seen weights (omega arith));
      blamed = heaviest_of_all weights seen c.blamed_of-blamed.result (omega arith) c.blamed_of-blamed.ensures;
    }
