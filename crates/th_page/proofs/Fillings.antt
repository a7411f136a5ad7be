-- Texts that are made of pieces, whatever the texts from outside are.
use Rattle.std.proofs.Common.{◌≡◌, ◌+◌, ℕ, Bool, true, false, List, [], ◌∷◌, ◌++◌, length, map, refl, ap, ap₂, sym, ◌∙◌}
use Rattle.std.specs.Prelude.{if◌then◌else◌, filter, count_by}
use Rattle.std.specs.List.{enumerate_from, flat_map}
use Rattle.std.proofs.lemmas.List.{append-nil}
use Rattle.std.proofs.lemmas.List.Folds.{flat_map-map, fold-map}
use Rattle.std.proofs.lemmas.Grind.{flat_map-append}
use Rattle.th_html.specs.Texts.{escaped}
use Rattle.th_page.specs.Laws.{Given, Piece, filled, fixed, outside}

abbrev pub Keeps : Given → Type 0
Keeps given = (text : List ℕ) → length (given.text text) ≡ length text

pub record IsFilled (made : Given → List ℕ) : Type 0 where
  pub pieces : List Piece
  pub is : (given : Given) → Keeps given → made given ≡ flat_map (filled given.text) pieces

pub still : (text : List ℕ) → IsFilled (λ given. text)
still text = record { pieces = fixed text ∷ []; is = λ given keeps. sym (append-nil text) }

pub name : (text : List ℕ) → IsFilled (λ given. escaped (given.text text))
name text = record { pieces = outside text ∷ []; is = λ given keeps. sym (append-nil (escaped (given.text text))) }

infixl 70 ◌⊕◌
pub ◌⊕◌ : {made other : Given → List ℕ} → IsFilled made → IsFilled other → IsFilled (λ given. made given ++ other given)
◌⊕◌ first second = record {
  pieces = first.pieces ++ second.pieces;
  is = λ given keeps. ap₂ (λ a b. a ++ b) (first.is given keeps) (second.is given keeps) ∙ sym (flat_map-append (filled given.text) first.pieces second.pieces);
}

pub same : (made other : Given → List ℕ) → ((given : Given) → Keeps given → other given ≡ made given) → IsFilled made → IsFilled other
same made other alike filling = record { pieces = filling.pieces; is = λ given keeps. alike given keeps ∙ filling.is given keeps }

pub chosen : {made other : Given → List ℕ} (test : Bool) → IsFilled made → IsFilled other → IsFilled (λ given. if test then made given else other given)
chosen true first second = first
chosen false first second = second

pub each : {X : Type 0} (one : Given → X → List ℕ) (xs : List X) → ((x : X) → IsFilled (λ given. one given x)) → IsFilled (λ given. flat_map (one given) xs)
each one [] all = record { pieces = []; is = λ given keeps. refl }
each one (x ∷ xs) all = all x ⊕ each one xs all

-- of rows that are changed
pub changed : {X Y : Type 0} (one : Y → List ℕ) (change : Given → X → Y) (xs : List X) → ((x : X) → IsFilled (λ given. one (change given x))) → IsFilled (λ given. flat_map one (map (change given) xs))
changed one change xs all = same (λ given. flat_map (λ x. one (change given x)) xs) (λ given. flat_map one (map (change given) xs)) (λ given keeps. flat_map-map one (change given) xs) (each (λ given x. one (change given x)) xs all)

pub numbered : {X : Type 0} (change : X → X) (n : ℕ) (xs : List X) → enumerate_from n (map change xs) ≡ map (λ (pair : ℕ × X). (pair.0, change pair.1)) (enumerate_from n xs)
numbered change n [] = refl
numbered change n (x ∷ xs) = ap (λ rest. (n, change x) ∷ rest) (numbered change (n + 1) xs)

-- of rows that are changed, with their places
pub placed : {X : Type 0} (one : ℕ × X → List ℕ) (change : Given → X → X) (xs : List X) → ((k : ℕ) (x : X) → IsFilled (λ given. one (k, change given x))) → IsFilled (λ given. flat_map one (enumerate_from 0 (map (change given) xs)))
placed {X} one change xs all =
    same (λ given. flat_map one (map (λ (pair : ℕ × X). (pair.0, change given pair.1)) (enumerate_from 0 xs))) (λ given. flat_map one (enumerate_from 0 (map (change given) xs)))
    (λ given keeps. ap (flat_map one) (numbered (change given) 0 xs))
    (changed one (λ given (pair : ℕ × X). (pair.0, change given pair.1)) (enumerate_from 0 xs) (λ pair. all pair.0 pair.1))

pub counted : {X : Type 0} (test : X → Bool) (change : X → X) (xs : List X) → count_by test (map change xs) ≡ count_by (λ x. test (change x)) xs
counted test change xs = fold-map (λ (n : ℕ) x. n + (if test x then 1 else 0)) change 0 xs

pub passing : {X : Type 0} (test : X → Bool) (change : X → X) (xs : List X) → filter test (map change xs) ≡ map change (filter (λ x. test (change x)) xs)
passing test change [] = refl
passing {X} test change (x ∷ xs) = by (test (change x)) (passing test change xs)
  where
    by : (passes : Bool) → filter test (map change xs) ≡ map change (filter (λ x. test (change x)) xs)
        → (if passes then change x ∷ filter test (map change xs) else filter test (map change xs)) ≡ map change (if passes then x ∷ filter (λ x. test (change x)) xs else filter (λ x. test (change x)) xs)
    by true rest = ap (λ rows. change x ∷ rows) rest
    by false rest = rest
