-- What the lines of a book without a fault have.
use Rattle.std.proofs.Common.{◌≡◌, ℕ, ◌<◌, ◌&&◌, ◌||◌, Bool, true, false, not, cond, List, [], Option, Some, None, Ok, Err, length, refl, sym, ap, ◌∙◌}
use Rattle.std.specs.Option.{option_or}
use Rattle.std.specs.Prelude.{is_none, is_some}
use Rattle.std.proofs.lemmas.Bool.{false≢true, not-false, or_left, or_right, true≢false}
use Rattle.std.proofs.lemmas.Option.{none-some}
use Rattle.gsi_word.specs.Indexes.{height_difference, instrument_height, reflector_height}
use Rattle.gsi_word.specs.Words.{Parts}
use Rattle.th_book.specs.Faults.{Standing, begins_with_point, first_applying, first_fault, kind_of, own_faults, sight_faults, standing_at}
use Rattle.th_book.specs.Lines.{ParsedLine, holds, is_setup, is_sight, length_in, point_name, words_in}
use Rattle.th_book.specs.Places.{last_with, line_at, setup_of, words_at}
use Rattle.th_book.specs.declared.faults.BookKind.{BookKind}
use Rattle.th_book.proofs.EntryLemmas.{first_applying-append}
use Rattle.th_book.proofs.Faultless.{IsFaultless, faultless, held_is_read}
use Rattle.th_book.proofs.Soundness.{no_kind}

-- the words of a line without a fault
pub words_fine : (parsed : List ParsedLine) (place : ℕ) → first_fault parsed ≡ None → place < length parsed → IsFaultless (words_at parsed place)
words_fine parsed place none within = faultless (standing_at parsed place) (line_at parsed place) (no_kind parsed place none within)

-- a sight or a setup begins with a point number, and has a name
pub pointed : (words : List Parts) → IsFaultless words → (is_sight words || is_setup words) ≡ true → begins_with_point words ≡ true
pointed words fine is = by (is_sight words || is_setup words) (begins_with_point words) is fine.pointed
  where
    by : (needed point : Bool) → needed ≡ true → (needed && not point) ≡ false → point ≡ true
    by true point e h = not-false point h
    by false point e h = absurd (false≢true e)

pub named : (words : List Parts) → IsFaultless words → (is_sight words || is_setup words) ≡ true → (name : List ℕ) × (point_name words ≡ Some name)
named words fine is = by (is_sight words || is_setup words) (point_name words) refl is fine.named
  where
    by : (needed : Bool) (name : Option (List ℕ)) → point_name words ≡ name → needed ≡ true → (needed && is_none name) ≡ false → (name : List ℕ) × (point_name words ≡ Some name)
    by true None same e h = absurd (true≢false h)
    by true (Some name) same e h = (name, same)
    by false name same e h = absurd (false≢true e)

-- a length that is held is read
abbrev pub IsRead : ℕ → List Parts → Type 0
IsRead index words = holds index words ≡ true → is_some (length_in index words) ≡ true

pub sighted_read : (words : List Parts) → IsFaultless words → IsRead height_difference words
sighted_read words fine = held_is_read height_difference (λ word counts. or_left _ _ counts) words fine.numbers fine.units fine.sizes

pub reflector_read : (words : List Parts) → IsFaultless words → IsRead reflector_height words
reflector_read words fine = held_is_read reflector_height (λ word counts. or_right _ _ (or_left _ _ counts)) words fine.numbers fine.units fine.sizes

pub instrument_read : (words : List Parts) → IsFaultless words → IsRead instrument_height words
instrument_read words fine = held_is_read instrument_height (λ word counts. or_right _ _ (or_right _ _ counts)) words fine.numbers fine.units fine.sizes

-- what a sight has before it or in it
pub record HasStanding (parsed : List ParsedLine) (place : ℕ) : Type 0 where
  pub setup : is_some (setup_of parsed place) ≡ true
  pub instrument : is_some (last_with instrument_height parsed place) ≡ true
  pub reflector : is_some (last_with reflector_height parsed place) ≡ true

passed : (applies : Bool) (kind : BookKind) (rest : Option BookKind) → cond applies (Some kind) rest ≡ None → (applies ≡ false) × (rest ≡ None)
passed true kind rest h = absurd (none-some kind (sym h))
passed false kind rest h = (refl, h)

-- the rows of a sight do not apply
rows_pass : (standing : Standing) (target : Option (List ℕ)) → first_applying (sight_faults standing target) ≡ None → (standing.setup ≡ true) × (standing.instrument ≡ true) × (standing.reflector ≡ true)
rows_pass standing target h =
    let setup = passed (not standing.setup) _ _ h in
    let instrument = passed (not standing.instrument) _ _ setup.1 in
    let reflector = passed (not standing.reflector) _ _ instrument.1 in
    (not-false standing.setup setup.0, not-false standing.instrument instrument.0, not-false standing.reflector reflector.0)

second_none : (first second : Option BookKind) → option_or first second ≡ None → second ≡ None
second_none None second h = h
second_none (Some kind) second h = absurd (none-some kind (sym h))

pub standing : (parsed : List ParsedLine) (place : ℕ) → first_fault parsed ≡ None → place < length parsed → is_sight (words_at parsed place) ≡ true → HasStanding parsed place
standing parsed place none within sight = by (line_at parsed place) refl (no_kind parsed place none within)
  where
    own : Standing
    own = standing_at parsed place

    by : (line : ParsedLine) → line_at parsed place ≡ line → kind_of own line ≡ None → HasStanding parsed place
    by (Err fault) is h = absurd (none-some _ (sym h))
    by (Ok None) is h = let never : false ≡ true = sym (ap (λ line. is_sight (words_in line)) is) ∙ sight in absurd (false≢true never)
    by (Ok (Some block)) is h =
        let here : is_sight block.words ≡ true = sym (ap (λ line. is_sight (words_in line)) is) ∙ sight in
        let rows : option_or (first_applying (own_faults block.words)) (first_applying (cond (is_sight block.words) (sight_faults own (point_name block.words)) [])) ≡ None =
        sym (first_applying-append (own_faults block.words) (cond (is_sight block.words) (sight_faults own (point_name block.words)) [])) ∙ h in
        let all : first_applying (sight_faults own (point_name block.words)) ≡ None =
        sym (ap (λ sight. first_applying (cond sight (sight_faults own (point_name block.words)) [])) here) ∙ second_none (first_applying (own_faults block.words)) _ rows in
        let three = rows_pass own (point_name block.words) all in
        record { setup = three.0; instrument = three.1; reflector = three.2 }
