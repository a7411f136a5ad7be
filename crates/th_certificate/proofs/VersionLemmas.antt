-- A version that is read has its lowest and its highest heights.
use Rattle.std.proofs.Common.{◌≡◌, ◌≤◌, ◌==◌, ℕ, Bool, true, false, Some, None, if◌then◌else◌, refl, arith}
use Rattle.std.proofs.lemmas.Bool.Decides.{nat_tests}
use Rattle.th_certificate.specs.Certified.{HeightRows, IsOfVersion}
use Rattle.th_certificate.specs.Reading.{in_version_2}

pub of_version : (version : ℕ) (low high : HeightRows) → (1 ≤ version) × (version ≤ 2) → IsOfVersion version (in_version_2 version low) (in_version_2 version high)
of_version version low high known = by (version == 2) refl
  where
    by : (two : Bool) → (version == 2) ≡ two → IsOfVersion version (if two then Some low else None) (if two then Some high else None)
    by true e = grind (arith, nat_tests)
    by false e = (let least = known.0 in let most = known.1 in grind (arith, nat_tests))
