-- The counts of lines, with one more.
use Rattle.std.specs.Prelude.{ℕ, ◌+◌, ◌-◌, ◌^◌, min, if◌then◌else◌, is_some}
use Rattle.th_book.specs.declared.entries.Entered.{Entered}
use Rattle.th_entries.specs.declared.counts.BookCount.{BookCount}

-- the counts before the first line
abbrev pub no_lines : BookCount
no_lines = record { lines = 0; blocks = 0; setups = 0; sights = 0 }

-- one more, but at most 2^32 - 1
abbrev pub one_more : ℕ → ℕ
one_more count = min (count + 1) (2 ^ 32 - 1)

-- the counts with one more line
abbrev pub with_line : BookCount → BookCount
with_line counts = record counts { lines = one_more counts.lines }

-- the counts with one more block, given what it enters
abbrev pub with_block : Entered → BookCount → BookCount
with_block entered counts = record {
  lines = counts.lines;
  blocks = one_more counts.blocks;
  setups = if is_some entered.station then one_more counts.setups else counts.setups;
  sights = if is_some entered.target then one_more counts.sights else counts.sights;
}
