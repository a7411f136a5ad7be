-- The last part of a name, byte by byte.
use Rattle.std.proofs.Common.{◌≡◌, ◌≢◌, ◌<◌, ◌≤◌, ◌+◌, ◌++◌, ◌∷◌, ◌∙◌, ℕ, List, [], drop, take, length, get_or, ap, refl, subst, sym, arith}
use Rattle.std.specs.Prelude.{if◌then◌else◌, nat_eq}
use Rattle.std.proofs.lemmas.Bool.{eq-eqb, ne_eqb}
use Rattle.std.proofs.lemmas.List.{drop-append-le, drop-take, length-take-le, take_more}
use Rattle.std.proofs.lemmas.List.Sums.{fold-append}
use Rattle.th_columns.specs.FileNames.{last_part}

-- one more byte
abbrev next : List ℕ → ℕ → List ℕ
next part byte = if nat_eq byte 47 then [] else part ++ byte ∷ []

one_more : (name : List ℕ) (i : ℕ) → i < length name → last_part (take (i + 1) name) ≡ next (last_part (take i name)) (get_or name i 0)
one_more name i within =
    ap last_part (take_more name i 0 within)
    ∙ fold-append (λ (part : List ℕ) (byte : ℕ). if nat_eq byte 47 then [] else part ++ byte ∷ []) [] (take i name) (get_or name i 0 ∷ [])

-- a slash begins a part
pub after_slash : (name : List ℕ) (i : ℕ) → i < length name → get_or name i 0 ≡ 47 → drop (i + 1) (take (i + 1) name) ≡ last_part (take (i + 1) name)
after_slash name i within slash =
    let begun : next (last_part (take i name)) (get_or name i 0) ≡ [] = rw (eq-eqb (get_or name i 0) 47 slash) refl in
    let nothing : drop (i + 1) (take (i + 1) name) ≡ [] =
    subst (λ (n : ℕ). drop (i + 1) (take n name) ≡ []) (omega arith) (drop-take (i + 1) 0 name) in
    nothing ∙ sym (one_more name i within ∙ begun)

-- another byte continues it
pub after_other : (name : List ℕ) (start i : ℕ) → i < length name → start ≤ i → get_or name i 0 ≢ 47 → drop start (take i name) ≡ last_part (take i name)
    → drop start (take (i + 1) name) ≡ last_part (take (i + 1) name)
after_other name start i within before other part =
    let long = length-take-le i name (omega (arith, within)) in
    let continued : next (last_part (take i name)) (get_or name i 0) ≡ last_part (take i name) ++ get_or name i 0 ∷ [] =
    rw (ne_eqb (get_or name i 0) 47 other) refl in
    ap (drop start) (take_more name i 0 within)
    ∙ drop-append-le start (take i name) (get_or name i 0 ∷ []) (omega (arith, before, long))
    ∙ ap (λ (own : List ℕ). own ++ get_or name i 0 ∷ []) part
    ∙ sym (one_more name i within ∙ continued)
