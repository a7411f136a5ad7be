-- Lists of numbers that are changed in place, one after another.
use Rattle.std.proofs.Common.{◌≡◌, ◌<◌, ◌+◌, ℕ, List, [], ◌∷◌, ◌++◌, drop, get_or, length, map, set, take, refl, sym, ap, ◌∙◌, append_assoc, arith}
use Rattle.std.specs.Prelude.{◌==◌, if◌then◌else◌, fold, slice_index}
use Rattle.std.specs.List.{range_with_len}
use Rattle.std.proofs.lemmas.List.FromFn.{length-range_with_len}
use Rattle.th_notes.specs.Parts.{joined, parts_of}
use Rattle.std.proofs.lemmas.List.{drop_more, get_or_at, length-map, length-take-le, map_push, set_at, take_more}

-- one number more is changed
pub set_more : (f : ℕ → ℕ) (old : List ℕ) (i v : ℕ) → i < length old → v ≡ f (get_or old i 0) → set (map f (take i old) ++ drop i old) i v ≡ map f (take (i + 1) old) ++ drop (i + 1) old
set_more f old i v within is =
    let front = map f (take i old) in
    let size : length front ≡ i = length-map (take i old) f ∙ length-take-le i old (omega (arith, within)) in
    ap (λ rest. set (front ++ rest) i v) (drop_more old i 0 within)
    ∙ set_at front (get_or old i 0) (drop (i + 1) old) v i size
    ∙ ap (λ own. front ++ own ∷ drop (i + 1) old) is
    ∙ sym (ap (λ own. own ++ drop (i + 1) old) (ap (map f) (take_more old i 0 within) ∙ map_push f (take i old) (get_or old i 0))
    ∙ append_assoc front (f (get_or old i 0) ∷ []) (drop (i + 1) old))

-- the next number is unchanged so far
pub next_old : (f : ℕ → ℕ) (old now : List ℕ) (i d : ℕ) → i < length old → now ≡ map f (take i old) ++ drop i old → get_or now i d ≡ get_or old i 0
next_old f old now i d within is =
    let front = map f (take i old) in
    let size : length front ≡ i = length-map (take i old) f ∙ length-take-le i old (omega (arith, within)) in
    ap (λ own. get_or own i d) is
    ∙ ap (λ rest. get_or (front ++ rest) i d) (drop_more old i 0 within)
    ∙ get_or_at front (get_or old i 0) (drop (i + 1) old) d i size

-- there are as many parts as places
pub length-joined : (ends : List (ℕ × ℕ)) (parts : List ℕ) → length (fold joined parts ends) ≡ length parts
length-joined [] parts = refl
length-joined (own ∷ ends) parts = length-joined ends (joined parts own) ∙ length-map parts (λ part. if part == slice_index parts own.1 then slice_index parts own.0 else part)

pub length-parts : (count : ℕ) (ends : List (ℕ × ℕ)) → length (parts_of count ends) ≡ count
length-parts count ends = length-joined ends (range_with_len 0 count) ∙ length-range_with_len 0 count
