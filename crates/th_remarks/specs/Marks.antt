-- Marked sights: those whose residuals are above the limit of blunders.
use Rattle.std.specs.Prelude.{◌≡◌, ◌<◌, ◌≤◌, ℕ, ℤ, List, All, Contains, Option, Some, None, length, map, unsigned_abs}
use Rattle.std.specs.List.{count_by}
use Rattle.th_blunders.specs.Blunders.{is_blunder}
use Rattle.th_remarks.specs.declared.residuals.Marks.{Marks}

-- the note says how many of the sights with these residuals are marked, and the largest size of a residual
pub record AreMarksOf (limit : ℤ) (residuals : List ℤ) (note : Marks) : Type 0 where
  pub count : note.count ≡ count_by (is_blunder limit) residuals
  pub sights : note.sights ≡ length residuals
  pub largest : All (λ residual. unsigned_abs residual ≤ note.largest) residuals
  pub reached : Contains (map unsigned_abs residuals) note.largest

-- the note on marked sights; there is none if no sight is marked
abbrev pub IsMarksNote : ℤ → List ℤ → Option Marks → Type 0
IsMarksNote limit residuals None = count_by (is_blunder limit) residuals ≡ 0
IsMarksNote limit residuals (Some note) = (0 < note.count) × AreMarksOf limit residuals note
