use Rattle.std.proofs.Common.{◌≡◌, ℕ, List, Some, slice_get, sym, ap, ◌∙◌}
use Rattle.th_points.proofs.PlaceLemmas.{insert_there, place_of_at}
use Rattle.th_points.proofs.points.place_near.Goals as goal

pub returns-then-stands_at-clause-keys : goal.returns-then-stands_at-clause-keys
returns-then-stands_at-clause-keys c =
    let at : slice_get c.args.names.now.keys c.args.near ≡ Some c.args.name =
    ap (λ (names : List (List ℕ)). slice_get names c.args.near) (sym c.as_slice.ensures.keys) ∙ c.stands_at.ensures.0 c.if-stands_at.true in
    sym (insert_there c.args.names.now.keys c.args.near c.args.name at)

pub returns-then-stands_at-clause-place : goal.returns-then-stands_at-clause-place
returns-then-stands_at-clause-place c =
    let at : slice_get c.args.names.now.keys c.args.near ≡ Some c.args.name =
    ap (λ (names : List (List ℕ)). slice_get names c.args.near) (sym c.as_slice.ensures.keys) ∙ c.stands_at.ensures.0 c.if-stands_at.true in
    sym (place_of_at c.args.names.now.keys c.args.near c.args.name c.as_slice.ensures.unique at)

pub returns-then-stands_at-2-clause-keys : goal.returns-then-stands_at-2-clause-keys
returns-then-stands_at-2-clause-keys c =
    let next = c.saturating_add-next.result in
    let at : slice_get c.args.names.now.keys next ≡ Some c.args.name =
    ap (λ (names : List (List ℕ)). slice_get names next) (sym c.as_slice-else-stands_at.ensures.keys) ∙ c.stands_at-else-stands_at.ensures.0 c.if-stands_at-2.true in
    sym (insert_there c.args.names.now.keys next c.args.name at)

pub returns-then-stands_at-2-clause-place : goal.returns-then-stands_at-2-clause-place
returns-then-stands_at-2-clause-place c =
    let next = c.saturating_add-next.result in
    let at : slice_get c.args.names.now.keys next ≡ Some c.args.name =
    ap (λ (names : List (List ℕ)). slice_get names next) (sym c.as_slice-else-stands_at.ensures.keys) ∙ c.stands_at-else-stands_at.ensures.0 c.if-stands_at-2.true in
    sym (place_of_at c.args.names.now.keys next c.args.name c.as_slice-else-stands_at.ensures.unique at)
