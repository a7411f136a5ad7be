-- Outputs that would change an input, or would not.
use Rattle.std.proofs.Common.{◌≡◌, ◌≢◌, ◌<◌, ◌+◌, ◌++◌, ◌∙◌, ℕ, Bool, true, List, [], ◌∷◌, Some, length, get_or, map, ap, inl, inr, subst, sym, take, arith}
use Rattle.std.specs.Borrow.{Bor}
use Rattle.std.specs.Prelude.{option_map, slice_get}
use Rattle.std.proofs.lemmas.Bool.{cases_lt}
use Rattle.std.proofs.lemmas.Option.{slice_get-get_or, slice_get-map}
use Rattle.std.specs.List.{Contains}
use Rattle.std.proofs.lemmas.List.Elements.{Contains-push_cases}
use Rattle.th_devices.specs.Spots.{Spot, file}
use Rattle.th_commands.specs.Asked.{Files}
use Rattle.th_files.proofs.OutputLemmas.{spot_among, spots_more}
use Rattle.th_files.specs.Stops.{AreKept, IsStop}
use Rattle.th_files.specs.Outputs.{spot_at, spots_of}
use Rattle.th_files.specs.declared.overwrites.Stop.{Stop}
use Rattle.th_files.specs.declared.overwrites.Stop.TheVariants as stop
use Rattle.th_run_parts.specs.Outputs.{ending_of}
use Rattle.th_run_parts.specs.declared.outputs.Output.{Output}

-- the names that borrows have
abbrev pub names_of : List (Bor (List ℕ)) → List (List ℕ)
names_of names = map (λ (name : Bor (List ℕ)). name.now) names

pub at_place : (names : List (Bor (List ℕ))) (i : ℕ) (none : Bor (List ℕ)) → i < length names → slice_get (names_of names) i ≡ Some (get_or names i none).now
at_place names i none within =
    slice_get-map (λ (name : Bor (List ℕ)). name.now) names i ∙ ap (option_map (λ (name : Bor (List ℕ)). name.now)) (slice_get-get_or names i none within)

-- one more book that the output would not change
pub no_more : (tells : Bool) (names : List (Bor (List ℕ))) (i : ℕ) (none : Bor (List ℕ)) (output : List ℕ) → i < length names
    → (tells ≡ true → (place : ℕ) (name : List ℕ) → place < i → slice_get (names_of names) place ≡ Some name → output ≢ name)
    → (tells ≡ true → output ≢ (get_or names i none).now)
    → tells ≡ true → (place : ℕ) (name : List ℕ) → place < i + 1 → slice_get (names_of names) place ≡ Some name → output ≢ name
no_more tells names i none output within before here telling place name below at = elim (cases_lt place i) [
  | inl less ↦ before telling place name less at
  | inr least ↦
      let is : place ≡ i = omega (arith, below, least) in
      let found : Some name ≡ Some (get_or names i none).now = sym at ∙ ap (slice_get (names_of names)) is ∙ at_place names i none within in
      let one : name ≡ (get_or names i none).now = cc in
      λ same. here telling (same ∙ one)
]

-- the one spot of one
only : (spot own : Spot) → Contains (spot ∷ []) own → spot ≡ own
only spot own has = elim (Contains-push_cases [] spot own has) [ inl none ↦ absurd (omega (arith, none.1)) | inr is ↦ is ]

-- one more output that is no input
pub kept_more : (tells : Bool) (from : Files) (prefix : List ℕ) (outputs : List Output) (i : ℕ) (d : Output) → i < length outputs
    → AreKept tells from (spots_of prefix (take i outputs)) → AreKept tells from (spot_at prefix (ending_of (get_or outputs i d)) ∷ [])
    → AreKept tells from (spots_of prefix (take (i + 1) outputs))
kept_more tells from prefix outputs i d within kept one = subst (AreKept tells from) (sym (spots_more prefix outputs i d within)) more
  where
    spot : Spot
    spot = spot_at prefix (ending_of (get_or outputs i d))

    more : AreKept tells from (spots_of prefix (take i outputs) ++ spot ∷ [])
    more telling which name read has = elim (Contains-push_cases (spots_of prefix (take i outputs)) spot (file name) has) [
      | inl before ↦ kept telling which name read before
      | inr here ↦ one telling which name read (0, omega arith, here)
    ]

-- what stops one output stops all
pub stop_wider : (tells : Bool) (from : Files) (prefix : List ℕ) (outputs : List Output) (i : ℕ) (d : Output) (own : Stop) → i < length outputs
    → IsStop tells from (spot_at prefix (ending_of (get_or outputs i d)) ∷ []) own → IsStop tells from (spots_of prefix outputs) own
stop_wider tells from prefix outputs i d (stop.Overwrite own) within is =
    (subst (Contains (spots_of prefix outputs)) (only _ _ is.0) (spot_among prefix outputs i d within), is.1, is.2)
stop_wider tells from prefix outputs i d stop.NoMemory within is = tt
