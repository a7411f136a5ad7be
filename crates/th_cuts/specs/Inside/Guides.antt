use Rattle.std.specs.Prelude.{ℕ, List, slice_index_or}

-- the level of a vertex
abbrev pub level_at : List ℕ → ℕ → ℕ
level_at levels vertex = slice_index_or levels vertex 4294967295
