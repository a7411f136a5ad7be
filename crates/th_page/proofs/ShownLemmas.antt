-- What is known of the names that a page shows.
use Rattle.std.proofs.Common.{◌≡◌, ℕ, List, [], ◌∷◌, map, ap, refl}
use Rattle.std.specs.List.{zip}
use Rattle.th_columns.specs.FileNames.{last_part}
use Rattle.th_inputs.specs.Inputs.{NamedInput}
use Rattle.th_inputs.specs.declared.sums.Sum.{Sum}
use Rattle.th_page.specs.Shown.{without_folder}

-- the names of inputs lose their folders with them, or beside their sums
pub without_folders : (names : List (List ℕ)) (sums : List Sum) → zip (map last_part names) sums ≡ map without_folder (zip names sums)
without_folders [] sums = refl
without_folders (name ∷ names) [] = refl
without_folders (name ∷ names) (sum ∷ sums) = ap (λ (rest : List NamedInput). (last_part name, sum) ∷ rest) (without_folders names sums)
