use Rattle.std.specs.Prelude.{◌≡◌, ℕ, ◌<◌, ℤ, List, Option, All, IfSome, length}

-- the first arc of each vertex, and the arc that follows each arc, if there is one; all are among this many arcs
pub record AreTails (vertices arcs : ℕ) (firsts followings : List (Option ℕ)) : Type 0 where
  pub each_vertex : length firsts ≡ vertices
  pub each_arc : length followings ≡ arcs
  pub firsts_are_arcs : All (λ first. IfSome first (λ number. number < arcs)) firsts
  pub followings_are_arcs : All (λ following. IfSome following (λ number. number < arcs)) followings

-- the entries of a queue are vertices, each with a label
abbrev pub AreVertices : ℕ → List (ℕ × ℤ) → Type 0
AreVertices vertices entries = All (λ entry. entry.0 < vertices) entries
