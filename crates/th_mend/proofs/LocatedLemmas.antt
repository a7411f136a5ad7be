-- What is known of changes after one more line, and the edits of what is known behind the last.
use Rattle.std.proofs.Common.{◌≡◌, ℕ, suc, ◌+◌, ◌<◌, ◌==◌, ◌⊎◌, inl, inr, Bool, true, false, cond, List, [], ◌∷◌, ◌++◌, Option, Some, None, Result, Ok, Err, length, map, refl, sym, ap, ◌∙◌, arith}
use Rattle.std.specs.Prelude.{nat_lt}
use Rattle.std.proofs.lemmas.Bool.{cases_order, true≢false}
use Rattle.std.proofs.lemmas.Bool.Decides.{nat_tests}
use Rattle.gsi_word.specs.Words.{Parts}
use Rattle.th_book.specs.Lines.{ParsedLine}
use Rattle.th_book.specs.Places.{last_below, words_at}
use Rattle.th_entries.specs.Entries.{index_of}
use Rattle.th_entries.specs.declared.entries.HeightKind.{HeightKind}
use Rattle.th_entries.specs.declared.entries.HeightKind.TheVariants.{Reflector, Instrument}
use Rattle.th_mend.proofs.LastLemmas.{last-none}
use Rattle.th_mend.specs.declared.changes.Change.{Change}
use Rattle.th_mend.specs.declared.changes.What.{What}
use Rattle.th_mend.specs.declared.changes.What.TheVariants.{Height, LeftOut, OtherSign, Sighted, Station, Target}
use Rattle.th_mend.specs.Edits.{edit_of, edit_then, edits_after, edits_of, unless_clash}
use Rattle.th_mend.specs.Reached.{are_one, home, own_fault, place_of, spot_at, spot_below}
use Rattle.th_mend.specs.Inside.Forces.{AreForces, IsLocating, force_at, force_of, home_in, seen_all, seen_one, sought_below, spot_here, spot_later, unknown}
use Rattle.th_mend.specs.Inside.Located.{edits_then}
use Rattle.th_mend.specs.declared.edits.Edit.{Edit}
use Rattle.th_mend.specs.declared.faults.MendKind.{MendKind}
use Rattle.th_mend.specs.declared.forces.Forces.{Forces}
use Rattle.th_mend.specs.declared.sought.Locating.{Locating}
use Rattle.th_mend.specs.declared.sought.Sought.{Sought}
use Rattle.th_mend.specs.declared.spots.Spot.{Spot}

-- the home of a line is what is in force behind it
force_same : (kind : HeightKind) (parsed : List ParsedLine) (n : ℕ) (forces : Forces) → AreForces parsed (suc n) forces → force_of kind forces ≡ force_at (index_of kind) parsed (suc n)
force_same Reflector parsed n forces are = are.reflector
force_same Instrument parsed n forces are = are.instrument

home_same : (what : What) (parsed : List ParsedLine) (n : ℕ) (forces : Forces) → AreForces parsed (suc n) forces → home_in what n forces ≡ home what parsed n
home_same (Height kind reach own) parsed n forces are = force_same kind parsed n forces are
home_same (Sighted own) parsed n forces are = refl
home_same LeftOut parsed n forces are = refl
home_same OtherSign parsed n forces are = refl
home_same (Target name) parsed n forces are = refl
home_same (Station name) parsed n forces are = refl

-- the last place up to a line that has its home is the line itself, where it has one
last_here : (what : What) (parsed : List ParsedLine) (n : ℕ) → cond (are_one (home what parsed n) (home what parsed n)) (Some n) None ≡ last_below (λ other. are_one (home what parsed n) (home what parsed other)) (suc n)
last_here what parsed n = go (home what parsed n)
  where
    go : (own : Option ℕ) → cond (are_one own own) (Some n) None ≡ cond (are_one own own) (Some n) (last_below (λ other. are_one own (home what parsed other)) n)
    go None = sym (last-none (λ other. are_one None (home what parsed other)) n (λ k below. refl))
    go (Some own) = by (own == own) refl
      where
        by : (same : Bool) → (own == own) ≡ same → cond same (Some n) None ≡ cond same (Some n) (last_below (λ other. are_one (Some own) (home what parsed other)) n)
        by true is = refl
        by false is = let same : (own == own) ≡ true = grind (arith, nat_tests) in absurd (true≢false (sym same ∙ is))

-- a change after one more line
one_more : (parsed : List ParsedLine) (n : ℕ) (change : Change) (forces : Forces) → AreForces parsed (suc n) forces → seen_one n forces (words_at parsed n) (sought_below parsed n change) ≡ sought_below parsed (suc n) change
one_more parsed n change forces are =
    ap (λ (spot : Option Spot). record { change = change; spot = spot }) (ap seen (home_same change.what parsed n forces are) ∙ go (cases_order place n))
  where
    place : ℕ
    place = place_of change

    words : List Parts
    words = words_at parsed n

    own : Option ℕ
    own = home change.what parsed n

    seen : Option ℕ → Option Spot
    seen own = cond (place == n) (Some (spot_here change.what words own n)) (spot_later own n (spot_below change parsed n))

    at : ℕ → ℕ → Option Spot
    at place bound = Some (spot_at change.what parsed place bound)

    below : Bool → ℕ → Option Spot
    below within bound = cond within (at place bound) None

    go : (place ≡ n) ⊎ ((place < n) ⊎ (n < place)) → seen own ≡ spot_below change parsed (suc n)
    go (inl same) =
        let is : (place == n) ≡ true = grind (arith, nat_tests) in
        let within : nat_lt place (suc n) ≡ true = grind (arith, nat_tests) in
        ap (λ here. cond here (Some (spot_here change.what words own n)) (spot_later own n (spot_below change parsed n))) is
        ∙ ap (λ last. Some (record { fault = own_fault change.what words own; home = own; last = last })) (last_here change.what parsed n)
        ∙ ap (λ place. at place (suc n)) (sym same)
        ∙ sym (ap (λ within. below within (suc n)) within)
    go (inr (inl before)) =
        let is : (place == n) ≡ false = grind (arith, nat_tests) in
        let was : nat_lt place n ≡ true = grind (arith, nat_tests) in
        let within : nat_lt place (suc n) ≡ true = grind (arith, nat_tests) in
        ap (λ here. cond here (Some (spot_here change.what words own n)) (spot_later own n (spot_below change parsed n))) is
        ∙ ap (λ within. spot_later own n (below within n)) was
        ∙ sym (ap (λ within. below within (suc n)) within)
    go (inr (inr behind)) =
        let is : (place == n) ≡ false = grind (arith, nat_tests) in
        let was : nat_lt place n ≡ false = grind (arith, nat_tests) in
        let within : nat_lt place (suc n) ≡ false = grind (arith, nat_tests) in
        ap (λ here. cond here (Some (spot_here change.what words own n)) (spot_later own n (spot_below change parsed n))) is
        ∙ ap (λ within. spot_later own n (below within n)) was
        ∙ sym (ap (λ within. below within (suc n)) within)

-- all changes after one more line
pub all_more : (parsed : List ParsedLine) (n : ℕ) (changes : List Change) (forces : Forces) → AreForces parsed (suc n) forces → seen_all n forces (words_at parsed n) (map (sought_below parsed n) changes) ≡ map (sought_below parsed (suc n)) changes
all_more parsed n [] forces are = refl
all_more parsed n (change ∷ changes) forces are =
    ap (λ first. first ∷ seen_all n forces (words_at parsed n) (map (sought_below parsed n) changes)) (one_more parsed n change forces are)
    ∙ ap (λ later. sought_below parsed (suc n) change ∷ later) (all_more parsed n changes forces are)

-- the same for what a line was seen as
pub seen_next : (parsed : List ParsedLine) (n : ℕ) (changes : List Change) (forces : Forces) (words : List Parts) (place : ℕ) (old new : List Sought) → AreForces parsed (suc n) forces → place ≡ n → words ≡ words_at parsed n
    → old ≡ map (sought_below parsed n) changes → new ≡ seen_all place forces words old → new ≡ map (sought_below parsed (suc n)) changes
seen_next parsed n changes forces words place old new are here says was is =
    is ∙ ap (λ place. seen_all place forces words old) here ∙ ap (λ words. seen_all n forces words old) says ∙ ap (seen_all n forces (words_at parsed n)) was ∙ all_more parsed n changes forces are

-- the edits of what is known behind the last line
pub edits_same : (parsed : List ParsedLine) (changes : List Change) (earlier : List Edit) (row : ℕ) → edits_then earlier row (map (sought_below parsed (length parsed)) changes) ≡ edits_after parsed earlier row changes
edits_same parsed [] earlier row = refl
edits_same parsed (change ∷ changes) earlier row = by (unless_clash earlier (edit_of parsed row change)) (λ edit. edits_same parsed changes (earlier ++ edit ∷ []) (row + 1))
  where
    known : List Sought
    known = map (sought_below parsed (length parsed)) changes

    by : (next : Result Edit MendKind) → ((edit : Edit) → edits_then (earlier ++ edit ∷ []) (row + 1) known ≡ edits_after parsed (earlier ++ edit ∷ []) (row + 1) changes)
        → edit_then row next (λ edit. edits_then (earlier ++ edit ∷ []) (row + 1) known) ≡ edit_then row next (λ edit. edits_after parsed (earlier ++ edit ∷ []) (row + 1) changes)
    by (Err kind) later = refl
    by (Ok edit) later = later edit

-- the edits of a book whose lines were all seen
pub edits_all : (changes : List Change) (number : ℕ) (parsed : List ParsedLine) (locating : Locating) (sought : List Sought) (before : List Edit) → IsLocating changes number parsed (length parsed) locating → sought ≡ locating.sought.items → before ≡ []
    → edits_then before 2 sought ≡ edits_of parsed changes
edits_all changes number parsed locating sought before seen is none =
    ap (λ before. edits_then before 2 sought) none ∙ ap (edits_then [] 2) (is ∙ seen.sought) ∙ edits_same parsed changes [] 2
