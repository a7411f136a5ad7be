use Rattle.std.proofs.Common.{◌≡◌, ◌<◌, ℕ, List, bytes_eq, get_or, length, sym, ap, ◌∙◌, arith}
use Rattle.std.proofs.lemmas.List.{get_or_default}
use Rattle.std.proofs.lemmas.List.Sums.{position_or_len_is}
use Rattle.th_reliability.proofs.benchmarks.place_in.Goals as goal

pub returns-then-eq : goal.returns-then-eq
returns-then-eq c =
    let name = c.args.name.now in
    let names = c.args.names.now in
    let place = c.loop-place.place in
    let other : List ℕ = c.index-names-place.result in
    let there : (place < length names) → get_or names place name ≡ other = λ within. get_or_default names place name other within ∙ sym c.index-names-place.is in
    sym (position_or_len_is (bytes_eq name) names place name (omega arith) c.loop-place.invariant
    (λ within. ap (bytes_eq name) (there within) ∙ sym c.eq.ensures ∙ c.if-eq.true))

pub returns : goal.returns
returns c =
    let name = c.args.name.now in
    let names = c.args.names.now in
    sym (position_or_len_is (bytes_eq name) names (length names) name (omega arith) (λ k below. c.loop-place.invariant k (omega arith)) (λ within. absurd (omega arith)))
