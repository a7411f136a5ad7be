-- The spaces of a column together with those between it and its neighbour.
use Rattle.std.proofs.Common.{◌≡◌, ◌+◌, ◌++◌, ℕ, replicate, sym}
use Rattle.std.proofs.lemmas.List.{replicate-append-replicate}
use Rattle.th_columns.specs.Columns.{gap}

pub gap_after : (n : ℕ) → replicate (n + 2) 32 ≡ replicate n 32 ++ gap
gap_after n = sym (replicate-append-replicate n 2 32)

pub gap_before : (n : ℕ) → replicate (2 + n) 32 ≡ gap ++ replicate n 32
gap_before n = sym (replicate-append-replicate 2 n 32)
