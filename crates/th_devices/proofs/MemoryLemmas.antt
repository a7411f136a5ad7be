-- What a source in memory gives.
use Rattle.std.proofs.Common.{◌≡◌, ◌≤◌, ◌+◌, ◌++◌, ◌∙◌, ℕ, List, ap, ap₂, drop, length, sym, take}
use Rattle.std.proofs.lemmas.List.{drop-drop, length-take-le, take-append-drop, take_at}

-- the bytes that come next, and those that are left then
pub given-on : (bytes rest into tail : List ℕ) (done count : ℕ) → rest ≡ drop done bytes → count ≤ length rest → into ≡ take count rest ++ tail
    → drop done bytes ≡ take count into ++ drop (done + count) bytes
given-on bytes rest into tail done count same within is =
    let front : take count into ≡ take count rest = ap (take count) is ∙ take_at (take count rest) tail count (length-take-le count rest within) in
    sym same ∙ sym (take-append-drop count rest) ∙ ap₂ (λ one other. one ++ other) (sym front) (ap (drop count) same ∙ drop-drop count done bytes)
