-- What laws say of mended texts.
use Rattle.std.specs.Prelude.{◌≡◌, ℕ, ◌+◌, List, [], ◌∷◌, ◌++◌, false, Ok}
use Rattle.std.specs.List.{flat_map}
use Rattle.th_mend.specs.Edits.{is_named}
use Rattle.th_mend.specs.Ends.{Ended}
use Rattle.th_mend.specs.MendedLines.{mended_line}
use Rattle.th_mend.specs.declared.edits.Edit.{Edit}

-- the text of lines with their ends
abbrev pub joined : List Ended → List ℕ
joined lines = flat_map (λ line. line.0 ++ line.1) lines

-- a line was mended by itself, and ends as it did; if no edit reaches it, it is the same
pub record IsMended (edits : List Edit) (place : ℕ) (old new : Ended) : Type 0 where
  pub line : mended_line edits place old.0 ≡ Ok new.0
  pub end : new.1 ≡ old.1
  pub same : is_named edits place ≡ false → new.0 ≡ old.0

-- lines from a place on were mended, one by one
abbrev pub AreMended : List Edit → ℕ → List Ended → List Ended → Type 0
AreMended edits place [] [] = Unit {0}
AreMended edits place [] (line ∷ lines) = ⊥
AreMended edits place (line ∷ lines) [] = ⊥
AreMended edits place (line ∷ lines) (own ∷ others) = IsMended edits place line own × AreMended edits (place + 1) lines others
