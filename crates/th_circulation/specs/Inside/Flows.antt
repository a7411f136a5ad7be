use Rattle.std.specs.Prelude.{◌≡◌, ℕ, ◌*◌, ◌≤◌, ℤ, pos, ◌+ℤ◌, ◌-ℤ◌, ◌*ℤ◌, ◌≤ℤ◌, List, zip, map, eqb, length, if◌then◌else◌, sum_by, unsigned_abs}
use Rattle.std.specs.List.{AllZip}
use Rattle.th_network.specs.Circulation.{total_by}
use Rattle.th_network.specs.declared.links.Link.{Link}

-- the gain of flows: the sum of each flow times its difference
abbrev pub gain : List ℤ → List ℤ → ℤ
gain flows diffs = total_by (λ pair. pair.0 *ℤ pair.1) (zip flows diffs)

-- the sum of the flows of the links with this head
abbrev pub arriving : List Link → List ℤ → ℕ → ℤ
arriving links flows vertex = total_by (λ pair. if eqb pair.0.head vertex then pair.1 else pos 0) (zip links flows)

-- the sum of the flows of the links with this tail
abbrev pub leaving : List Link → List ℤ → ℕ → ℤ
leaving links flows vertex = total_by (λ pair. if eqb pair.0.tail vertex then pair.1 else pos 0) (zip links flows)

-- one flow for each weight, at most that weight in size
abbrev pub AreBounded : List ℕ → List ℤ → Type 0
AreBounded weights flows = AllZip (λ weight flow. unsigned_abs flow ≤ weight) weights flows

-- one flow for each link, at most its weight in size; at each vertex as much arrives as leaves
pub record IsFlow (links : List Link) (weights : List ℕ) (flows : List ℤ) : Type 0 where
  pub sized : length weights ≡ length links
  pub bounded : AreBounded weights flows
  pub balanced : (vertex : ℕ) → arriving links flows vertex ≡ leaving links flows vertex

-- the difference, less the height of the head above the tail
abbrev pub residual : (ℕ → ℤ) → Link → ℤ → ℤ
residual heights link diff = diff -ℤ (heights link.head -ℤ heights link.tail)

-- the residuals of the links with these differences
abbrev pub residuals : List Link → List ℤ → (ℕ → ℤ) → List ℤ
residuals links diffs heights = map (λ pair. residual heights pair.0 pair.1) (zip links diffs)

-- the sum of weight times size of the residual
abbrev pub cost : List ℕ → List ℤ → ℕ
cost weights rests = sum_by (λ pair. pair.0 * unsigned_abs pair.1) (zip weights rests)

-- each flow is the whole weight, with the sign of the residual, where the residual is not zero
abbrev pub ShowsLinks : List ℕ → List ℤ → List ℤ → Type 0
ShowsLinks weights flows rests = AllZip (λ pair rest. pair.1 *ℤ rest ≡ pos (pair.0 * unsigned_abs rest)) (zip weights flows) rests

-- each next difference is twice the one before it, or one more
abbrev pub Next : List ℤ → List ℤ → Type 0
Next diffs next = AllZip (λ diff finer. ((pos 2 *ℤ diff) ≤ℤ finer) × (finer ≤ℤ (pos 2 *ℤ diff +ℤ pos 1))) diffs next
