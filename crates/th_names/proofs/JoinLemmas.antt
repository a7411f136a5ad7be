-- Lists that are found one after another, and joined.
use Rattle.std.proofs.Common.{◌≡◌, ◌<◌, ◌+◌, ℕ, List, [], ◌∷◌, ◌++◌, append_assoc, get_or, length, refl, sym, take, ap, ◌∙◌, arith}
use Rattle.std.specs.List.{AllZip, enumerate_from}
use Rattle.std.proofs.lemmas.Grind.{flat_map-append}
use Rattle.std.proofs.lemmas.List.{append-nil}
use Rattle.std.proofs.lemmas.List.FromFn.{get_or-enumerate_from}
use Rattle.th_reliability.proofs.ZipLemmas.{zip_next}
use Rattle.th_names.specs.Nears.{joined}

-- what was found of some, one list for each, behind what there was before
pub record AreJoined {X Y : Type 0} (R : X → List Y → Type 0) (xs : List X) (front all : List Y) : Type 0 where
  pub each : List (List Y)
  pub are : AllZip R xs each
  pub listed : all ≡ front ++ joined each

joined_more : {Y : Type 0} (each : List (List Y)) (ys : List Y) → joined (each ++ ys ∷ []) ≡ joined each ++ ys
joined_more {Y = Y} each ys = flat_map-append (λ (own : List Y). own) each (ys ∷ []) ∙ ap (λ (rest : List Y). joined each ++ rest) (append-nil ys)

pub joined_next : {X Y : Type 0} (R : X → List Y → Type 0) (xs : List X) (front all all' ys : List Y) (i : ℕ) (x : X) → i < length xs → x ≡ get_or xs i x → all' ≡ all ++ ys → AreJoined R (take i xs) front all → R x ys → AreJoined R (take (i + 1) xs) front all'
joined_next {Y = Y} R xs front all all' ys i x within here added before one = record {
  each = before.each ++ ys ∷ [];
  are = zip_next R xs before.each (before.each ++ ys ∷ []) i x ys within here refl before.are one;
  listed = added ∙ ap (λ (own : List Y). own ++ ys) before.listed ∙ append_assoc front (joined before.each) ys ∙ ap (λ (own : List Y). front ++ own) (sym (joined_more before.each ys));
}

-- an element with its place
pub placed : {X : Type 0} (xs : List X) (k : ℕ) (x : X) → k < length xs → x ≡ get_or xs k x → (k, x) ≡ get_or (enumerate_from 0 xs) k (k, x)
placed {X = X} xs k x within here =
    let same : k ≡ 0 + k = omega arith in
    ap {B = ℕ × X} (λ own. (k, own)) here ∙ ap {B = ℕ × X} (λ n. (n, get_or xs k x)) same ∙ sym (get_or-enumerate_from 0 xs k (k, x) within)
