-- Rows of heights.
use Rattle.std.proofs.Common.{◌≡◌, ◌<◌, ◌++◌, ◌∷◌, [], ℕ, ℤ, List, All, None, bytes_eq, unsigned_abs}
use Rattle.std.specs.Map.{lookup}
use Rattle.std.proofs.lemmas.List.Elements.{All-push}
use Rattle.indexmap.specs.IndexMap.{IndexMap, insert_entry}
use Rattle.indexmap.proofs.CallerLemmas.{insert_entry-new}
use Rattle.th_certificate.specs.Certified.{AreHeightRows, HeightRows}
use Rattle.th_network.specs.Limits.{height_limit}

-- a row of a new name goes last
pub added_last : {S : Type 0} (rows : IndexMap (List ℕ) ℤ S) (name : List ℕ) (height : ℤ) → lookup (bytes_eq name) rows.entries ≡ None → insert_entry bytes_eq rows.entries name height ≡ rows.entries ++ (name, height) ∷ []
added_last rows name height absent = insert_entry-new bytes_eq rows name height absent

-- and is in its range like those before it
pub added_in_range : (rows : HeightRows) (name : List ℕ) (height : ℤ) → AreHeightRows rows → unsigned_abs height < height_limit → All (λ row. unsigned_abs row.1 < height_limit) (rows ++ (name, height) ∷ [])
added_in_range rows name height valid small = All-push (λ row. unsigned_abs row.1 < height_limit) rows (name, height) valid.in_range small
