use Rattle.std.proofs.Common.{◌≡◌, ◌≢◌, ◌<◌, ◌+◌, ℕ, List, Some, map, true}
use Rattle.std.specs.Prelude.{slice_get}
use Rattle.th_files.proofs.overwrites.changed_book.Given as goal

abbrev pub invariant-loop-name : goal.invariant-loop-name
invariant-loop-name g l =
    (l.number ≡ l.name-index + 1)
    × (g.F.Folder.tells ≡ true → (place : ℕ) (name : List ℕ) → place < l.name-index → slice_get (map (λ name. name.now) l.names) place ≡ Some name → l.fn.output ≢ name)
