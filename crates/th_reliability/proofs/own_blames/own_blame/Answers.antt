use Rattle.std.proofs.Common.{◌≡◌, ◌==◌, ℕ, pos, List, [], Bool, Option, Some, get_or, length, slice_get, ap, subst, sym, ◌∙◌}
use Rattle.std.proofs.lemmas.List.FromFn.{length-map-range_with_len}
use Rattle.std.proofs.lemmas.Option.{slice_get-get_or}
use Rattle.th_observations.specs.Observed.{Observed}
use Rattle.th_cuts.specs.Drains.{on_side}
use Rattle.th_reliability.specs.Blames.{IsBlame}
use Rattle.th_reliability.specs.Effects.{HasOwnBlame, only_at}
use Rattle.th_reliability.specs.Inside.Sides.{names_beyond}
use Rattle.th_reliability.specs.Numbers.{HasControl}
use Rattle.th_reliability.proofs.OwnLemmas.{ends_apart, own_is}
use Rattle.th_reliability.proofs.own_blames.own_blame.Goals as goal

none : Observed
none = record { station = []; target = []; difference = pos 0; book = 0; line = 0 }

pub least_side-requires-clause-apart : goal.least_side-requires-clause-apart
least_side-requires-clause-apart c same =
    let survey = c.args.network.now in
    let o : Observed = get_or survey.observations c.args.place none in
    let at : slice_get survey.observations c.args.place ≡ Some o = slice_get-get_or survey.observations c.args.place none c.requires.place in
    let control = subst (λ (found : Option ℕ). HasControl survey o found) c.in-Some.is (c.requires.control o at) in
    ends_apart survey c.args.edges.now c.requires.edges c.args.place o at c.in-Some.control (c.requires.between c.args.place none c.requires.place) control same

pub blame_of-blame-requires-clause-each : goal.blame_of-blame-requires-clause-each
blame_of-blame-requires-clause-each c =
    ap length (c.deref.ensures.value ∙ c.in_ok-mistaken.ensures) ∙ length-map-range_with_len (λ k. k == c.args.place) 0 (length c.args.network.now.observations)

pub returns : goal.returns
returns c o at =
    let survey = c.args.network.now in
    let place = c.args.place in
    let control = subst (λ (found : Option ℕ). HasControl survey o found) c.in-Some.is (c.requires.control o at) in
    let marked = subst (λ (mistaken : List Bool). IsBlame survey mistaken (names_beyond survey (on_side c.deref-2.result.now)) c.blame_of-blame.result) (c.deref.ensures.value ∙ c.in_ok-mistaken.ensures) c.blame_of-blame.ensures in
    let blames = subst (λ (side : List Bool). IsBlame survey (only_at survey place) (names_beyond survey (on_side side)) c.blame_of-blame.result) c.deref-2.ensures.value marked in
    let own = own_is survey c.args.edges.now c.requires.edges place o at c.args.tree.now c.in-Some.control c.in_ok-side.side.items c.blame_of-blame.result c.requires.graph control c.if-control-edge.false c.in_ok-side.ensures blames in
    subst (λ (found : Option ℕ). HasOwnBlame survey place o found (Some c.blame_of-blame.result)) (sym c.in-Some.is) own
