-- Names of files as texts show them.
use Rattle.std.specs.Prelude.{ℕ, ◌++◌, ◌∷◌, [], List, if◌then◌else◌, nat_eq}
use Rattle.std.specs.List.{fold}

-- the last part of a name: what follows its last slash, or all of it where it has none
abbrev pub last_part : List ℕ → List ℕ
last_part name = fold (λ part byte. if nat_eq byte 47 then [] else part ++ byte ∷ []) [] name
