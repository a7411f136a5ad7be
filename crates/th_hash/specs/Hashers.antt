-- A hasher of names does what the hasher inside it does.
use Rattle.std.specs.Prelude.{ℕ, List}
use Rattle.std.specs.Hash.DefaultHasher as sip
use Rattle.std.specs.Hash.FoldHasher as folding
use Rattle.th_hash.specs.declared.hashers.NameHasher.{NameHasher}
use Rattle.th_hash.specs.declared.hashers.NameHasher.TheVariants.{Fast, Seeded}

-- the hasher after some more bytes
abbrev pub write : NameHasher → List ℕ → NameHasher
write (Fast hasher) bytes = Fast (folding.write hasher bytes)
write (Seeded hasher) bytes = Seeded (sip.write hasher bytes)

-- the hash of the bytes so far
abbrev pub finish : NameHasher → ℕ
finish (Fast hasher) = folding.finish hasher
finish (Seeded hasher) = sip.finish hasher
