-- Lists that grow by one, if there is room.
use Rattle.std.proofs.Common.{◌≡◌, ◌++◌, Bool, true, false, List, [], ◌∷◌, All, subst, sym}
use Rattle.std.specs.Prelude.{if◌then◌else◌}
use Rattle.std.proofs.lemmas.List.Elements.{All-push}

pub pushed : {A : Type 0} (P : A → Type 0) (xs ys : List A) (x : A) (b : Bool) → ys ≡ (if b then xs ++ x ∷ [] else xs) → All P xs → P x → All P ys
pushed P xs ys x true same all one = subst (All P) (sym same) (All-push P xs x all one)
pushed P xs ys x false same all one = subst (All P) (sym same) all
