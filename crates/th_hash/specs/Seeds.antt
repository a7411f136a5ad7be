-- The initial hashers, without a seed and with one.
use Rattle.std.specs.Prelude.{ℕ, Bool, true, false, List, if◌then◌else◌, ◌&&◌, nat_le}
use Rattle.std.specs.Hash.DefaultHasher as sip
use Rattle.std.specs.Hash.FoldHasher as folding
use Rattle.sha2.specs.Sha256.{sha256}
use Rattle.th_hash.specs.declared.hashers.NameHasher.{NameHasher}
use Rattle.th_hash.specs.declared.hashers.NameHasher.TheVariants.{Fast, Seeded}

-- the hasher without a seed
abbrev pub fast : NameHasher
fast = Fast folding.initial

-- the hasher that has already hashed the SHA-256 digest of some content
abbrev pub seeded : List ℕ → NameHasher
seeded content = Seeded (sip.write sip.initial (sha256 content))

-- whether a hasher has no seed
abbrev pub is_fast : NameHasher → Bool
is_fast (Fast _) = true
is_fast (Seeded _) = false

-- the hasher of a map of so many entries when one more is inserted: from `few` entries on it is seeded
abbrev pub hasher_from : ℕ → List ℕ → ℕ → NameHasher → NameHasher
hasher_from few content len hasher = if nat_le few len && is_fast hasher then seeded content else hasher
