use Rattle.std.proofs.Common.{◌≡◌, ◌+◌, ◌++◌, ◌∷◌, [], List, drop, take, sym, ap, ◌∙◌, append_assoc}
use Rattle.std.proofs.lemmas.List.{take_more}
use Rattle.th_columns.proofs.RowLemmas.{drop-first}
use Rattle.th_notes.specs.Twins.{pairs_after, pairs_with}
use Rattle.th_notes.specs.declared.notes.Pair.{Pair}
use Rattle.th_notes.specs.declared.twins.Spot.{Spot}
use Rattle.th_notes.proofs.twins.pairs_of.Goals as goal

pub loop-k-preserved : goal.loop-k-preserved
loop-k-preserved c = λ observations are.
    let spots : List Spot = c.args.spots.now in
    let k = c.loop-k.k in
    let spot : Spot = c.index-spots-k.result in
    let own : List Pair = pairs_with observations (take k spots) spot in
    let rest : List Pair = pairs_after observations (take (k + 1) spots) (drop (k + 1) spots) in
    let was = c.loop-k.invariant observations are in
    let next : take (k + 1) spots ≡ take k spots ++ spot ∷ [] = take_more spots k spot c.loop-k-test.true ∙ ap (λ last. take k spots ++ last ∷ []) (sym c.index-spots-k.is) in
    let first : pairs_after observations (take k spots) (drop k spots) ≡ own ++ rest =
    ap (pairs_after observations (take k spots)) (drop-first spots k spot c.loop-k-test.true c.index-spots-k.is)
    ∙ ap (λ before. own ++ pairs_after observations before (drop (k + 1) spots)) (sym next) in (
      was.0 ++ own,
      c.in_ok-add_pairs.ensures observations was.0 are was.1,
      append_assoc was.0 own rest ∙ ap (λ left. was.0 ++ left) (sym first) ∙ was.2,
    )
