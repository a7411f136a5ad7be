use Rattle.std.proofs.Common.{◌++◌, List, take, sym, subst, ap, ◌∙◌, append_assoc}
use Rattle.std.specs.Prelude.{option_to_list}
use Rattle.std.specs.List.{flat_map}
use Rattle.std.proofs.lemmas.List.{take_all}
use Rattle.th_entries.specs.Listed.{IsListed}
use Rattle.th_notes.specs.Twins.{pair_with, pairs_with}
use Rattle.th_notes.specs.declared.notes.Pair.{Pair}
use Rattle.th_notes.specs.declared.twins.Spot.{Spot}
use Rattle.th_notes.proofs.FindingLemmas.{given_more}
use Rattle.th_notes.proofs.twins.add_pairs.Goals as goal

pub loop-earlier-preserved : goal.loop-earlier-preserved
loop-earlier-preserved c = λ observations so_far are was.
    let before : List Spot = c.args.before.now in
    let k = c.loop-earlier.earlier-index in
    let give : Spot → List Pair = λ earlier. option_to_list (pair_with observations c.args.spot.now earlier) in
    subst (λ (own : List Pair). IsListed own c.add_pair.new.pairs)
    (append_assoc so_far (flat_map give (take k before)) (give c.earlier-item.result)
    ∙ ap (λ own. so_far ++ own) (sym (given_more give before k c.earlier-item.result c.loop-earlier-test.true c.earlier-item.is)))
    (c.in_ok-add_pair.ensures observations (so_far ++ pairs_with observations (take k before) c.args.spot.now) are (c.loop-earlier.invariant observations so_far are was))

pub returns : goal.returns
returns c = λ observations so_far are was.
    let before : List Spot = c.args.before.now in
    subst (λ (own : List Spot). IsListed (so_far ++ pairs_with observations own c.args.spot.now) c.loop-earlier.pairs)
    (take_all c.loop-earlier.earlier-index before c.loop-earlier-test.false) (c.loop-earlier.invariant observations so_far are was)
