-- The heights that are computed are those that are named.
use Rattle.std.proofs.Common.{◌≡◌, ◌++◌, ℤ, List, [], ◌∷◌, Result, Ok, Err, IfOk, map, refl, sym, ap, ◌∙◌}
use Rattle.std.specs.List.{AllZip, flat_map}
use Rattle.th_entries.specs.declared.entries.Entry.{Entry}
use Rattle.th_explain_texts.specs.declared.rows.Named.{Named}
use Rattle.th_explain_texts.specs.declared.rows.Row.{Row}
use Rattle.th_meant.specs.Inside.Nearest.{meant_in}
use Rattle.th_meant.specs.Meant.{AreNamed}
use Rattle.th_meant.specs.declared.proposed.Proposed.{Proposed}
use Rattle.th_meant.specs.declared.typed.Typed.{Typed}
use Rattle.th_meant.specs.Inside.Named.{named_by, named_in}
use Rattle.th_meant.specs.Keyed.{keyed_in, tolerance_of}
use Rattle.th_meant.specs.Named.{AreNamedBy, AreNamedIn, joined, others_of, poles_first, typed_of}
use Rattle.th_meant.specs.declared.keyed.Keyed.{Keyed}

pub if_ok : {A E : Type 0} {P Q : A → Type 0} (result : Result A E) → ((x : A) → P x → Q x) → IfOk result P → IfOk result Q
if_ok (Ok x) weaker holds = weaker x holds
if_ok (Err e) weaker holds = tt

abbrev Computes : Type 0
Computes = (typed : Typed) (others : List ℤ) (proposed : Proposed) → AreNamed typed others proposed (meant_in typed others proposed)

module _ (entries : List Entry) (computes : Computes) where
  each_named : (all : List Keyed) → AllZip (AreNamedBy entries) all (map (named_by entries) all)
  each_named [] = tt
  each_named (keyed ∷ all) = (
    (meant_in (typed_of keyed.entry) (others_of entries keyed) keyed.proposed, computes (typed_of keyed.entry) (others_of entries keyed) keyed.proposed, refl),
    each_named all,
  )

all_joined : (f : Keyed → List Named) (all : List Keyed) → flat_map f all ≡ joined (map f all)
all_joined f [] = refl
all_joined f (keyed ∷ all) = ap (λ (rest : List Named). f keyed ++ rest) (all_joined f all)

pub are_named_in : (entries : List Entry) (limit : ℤ) (rows : List Row) (named : List Named) → Computes → named ≡ named_in entries limit rows → AreNamedIn entries limit rows named
are_named_in entries limit rows named computes same =
    let all : List Keyed = keyed_in entries (tolerance_of limit) rows in
    (map (named_by entries) all, each_named entries computes all, same ∙ ap poles_first (all_joined (named_by entries) all))
