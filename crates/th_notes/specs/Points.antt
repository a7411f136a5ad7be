-- The notes of a review on points.
use Rattle.std.specs.Prelude.{ℕ, ◌||◌, ◌++◌, Bool, List, [], ◌∷◌, if◌then◌else◌, is_some}
use Rattle.std.specs.List.{flat_map}
use Rattle.th_observations.specs.Observed.{Observed}
use Rattle.th_tables.specs.Rows.{BenchmarkRows, height_of}
use Rattle.th_notes.specs.Limited.{limited}
use Rattle.th_notes.specs.Uses.{all_ends, is_used_again}
use Rattle.th_notes.specs.declared.notes.Kind.TheVariants.{Once}
use Rattle.th_notes.specs.declared.notes.Note.{Note}
use Rattle.th_notes.specs.declared.notes.Note.TheVariants.{SightedOnce}

-- the note on an end of an observation in a book and on a line, unless it is seen `again` or is a benchmark
abbrev pub end_note : Bool → Bool → ℕ → ℕ → List ℕ → List Note
end_note again fixed book line name = if again || fixed then [] else SightedOnce book line name ∷ []

-- the note on an end of an observation, if that is its only one and it is no benchmark
abbrev pub end_notes : List Observed → BenchmarkRows → Observed → List ℕ → List Note
end_notes observations benchmarks o name = end_note (is_used_again (all_ends observations) name) (is_some (height_of benchmarks name)) o.book o.line name

-- the notes on points with one observation, in the order of these
abbrev pub once_notes : List Observed → BenchmarkRows → List Note
once_notes observations benchmarks =
    limited Once (flat_map (λ o. end_notes observations benchmarks o o.station ++ end_notes observations benchmarks o o.target) observations)
