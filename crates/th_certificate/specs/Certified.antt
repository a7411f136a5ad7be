-- The contents of a certificate.
use Rattle.std.specs.Prelude.{◌≡◌, ◌<◌, ◌^◌, ℕ, ℤ, pos, List, All, Option, Some, None, bytes_eq, unsigned_abs, unwrap_or, map}
use Rattle.std.specs.List.{IsDistinct}
use Rattle.std.specs.Map.{keys_of, lookup}
use Rattle.th_network.specs.Limits.{height_limit}
use Rattle.th_certificate.specs.Limits.{max_cost_digits, max_digits}

-- rows of heights: names, and the height of each in units of 10 nm
abbrev pub HeightRows : Type 0
HeightRows = List (List ℕ × ℤ)

-- a row for each of some names, with its height
abbrev pub rows_at : List (List ℕ) → (List ℕ → ℤ) → HeightRows
rows_at names heights = map (λ name. (name, heights name)) names

-- the height that rows state for a name; zero for any other name
abbrev pub stated_height : HeightRows → List ℕ → ℤ
stated_height rows name = unwrap_or (lookup (bytes_eq name) rows) (pos 0)

-- every flow is below this in size: 10^9
abbrev pub flow_limit : ℕ
flow_limit = 10 ^ max_digits

-- every cost is below this: 10^30 units
abbrev pub cost_limit : ℕ
cost_limit = 10 ^ max_cost_digits

-- The contents of a certificate: its version, 1 or 2; heights, and in version 2 the lowest and the highest of the best heights; a
-- flow for each observation, in their order; and a cost. Whether the certificate is right is another matter.
pub record Certified : Type 0 where
  pub version : ℕ
  pub heights : HeightRows
  pub low : Option HeightRows
  pub high : Option HeightRows
  pub flows : List ℤ
  pub cost : ℕ

-- version 1 has neither the lowest nor the highest heights, and version 2 has both
abbrev pub IsOfVersion : ℕ → Option HeightRows → Option HeightRows → Type 0
IsOfVersion version None None = version ≡ 1
IsOfVersion version (Some low) (Some high) = version ≡ 2
IsOfVersion version _ _ = ⊥

-- each name has one row, and each height is below 10^17 units in size
pub record AreHeightRows (rows : HeightRows) : Type 0 where
  pub distinct : IsDistinct bytes_eq (keys_of rows)
  pub in_range : All (λ row. unsigned_abs row.1 < height_limit) rows

-- each flow is below 10^9 in size
abbrev pub AreFlows : List ℤ → Type 0
AreFlows flows = All (λ flow. unsigned_abs flow < flow_limit) flows
