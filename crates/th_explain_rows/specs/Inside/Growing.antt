-- What was found of numbers, compared with a lesser amount.
use Rattle.std.specs.Prelude.{◌≡◌, ◌⊎◌, ℕ, ◌≤◌, Bool, true, false, List, Option, Some, None, if◌then◌else◌, map, nat_lt, ⊤}
use Rattle.th_explain_rows.specs.declared.finder.Finding.{Finding}
use Rattle.th_explain_rows.specs.declared.finder.Finding.TheVariants.{Exactly, Mild, More, AtLeast}

-- Whether an amount is less than another one. One that is not given is above all.
abbrev pub is_less : Option ℕ → Option ℕ → Bool
is_less (Some left) (Some least) = nat_lt left least
is_less (Some left) None = true
is_less None least = false

-- an amount is no more than another one
abbrev pub IsNoMore : Option ℕ → Option ℕ → Type 0
IsNoMore (Some left) (Some least) = left ≤ least
IsNoMore (Some left) None = ⊤
IsNoMore None (Some least) = ⊥
IsNoMore None None = ⊤

-- What was found of a number that was compared with the first amount, compared with the second, which is no more.
abbrev pub lowered : Option ℕ → Option ℕ → Finding → Finding
lowered least left (Exactly freed) = Exactly freed
lowered least left Mild = Mild
lowered least left More = More
lowered least left AtLeast = if is_less left least then More else AtLeast

-- what was found of numbers that were compared with the first amount, compared with the second: the same one, or a lesser one
abbrev pub AreLowered : Option ℕ → Option ℕ → List Finding → List Finding → Type 0
AreLowered least left before after = ((left ≡ least) × (after ≡ before)) ⊎ (IsNoMore left least × (after ≡ map (lowered least left) before))
