-- What is kept of a line is read as the line.
use Rattle.std.proofs.Common.{◌≡◌, ℕ, true, false, nat_lt, List, length, refl, ap, arith}
use Rattle.std.proofs.lemmas.Bool.Decides.{nat_tests}
use Rattle.std.proofs.lemmas.List.{take_all, length-take-le}
use Rattle.gsi_block.specs.Limits.{max_line, max_kept}
use Rattle.gsi_block.specs.Pieces.{cut_line}
use Rattle.gsi_block.specs.Blocks.{block_at}

pub block_at-cut_line : (line : List ℕ) → block_at (cut_line line) ≡ block_at line
block_at-cut_line line =
    elim (nat_lt max_line (length line)) as (λ test. nat_lt max_line (length line) ≡ test → block_at (cut_line line) ≡ block_at line) [
      | true ↦ λ long.
          let kept : length (cut_line line) ≡ max_kept = length-take-le max_kept line (grind (arith, nat_tests)) in
          let cut : nat_lt max_line (length (cut_line line)) ≡ true = grind (arith, nat_tests) in
          rw (cut, long) refl
      | false ↦ λ short. ap block_at (take_all max_kept line (grind (arith, nat_tests)))
    ] refl
