-- Which sights use a line: those from it to the last one that does.
use Rattle.std.proofs.Common.{◌≡◌, ℕ, suc, ◌<◌, ◌≤◌, ◌⊎◌, inl, inr, true, false, not, ◌&&◌, ◌||◌, ◌==◌, List, Option, Some, None, refl, sym, ap, ◌∙◌, arith}
use Rattle.std.specs.Prelude.{nat_le, option_and_then}
use Rattle.std.specs.Option.{option_map_or}
use Rattle.std.proofs.lemmas.Bool.{and_parts, and_from, cases_order, cond-false, eq-eqb, eqb-true, false≢true, leb-true}
use Rattle.gsi_word.specs.Indexes.{station_easting, station_northing, station_height}
use Rattle.th_book.specs.Lines.{ParsedLine, holds, is_setup, is_sight, point_name}
use Rattle.th_book.specs.Places.{last_below, setup_of, station_at, words_at}
use Rattle.th_entries.specs.Entries.{begins, begins_from, entry_line, uses}
use Rattle.th_entries.proofs.BelowLemmas.{last-after, last-is, last-lt, last-true}

-- what it is that a sight uses a line: there is a setup before the sight, no later line than that one begins an entry up to the sight, and no line
-- between the setup and the sight begins another
pub record IsUsed (index : ℕ) (parsed : List ParsedLine) (line place : ℕ) : Type 0 where
  pub sight : is_sight (words_at parsed place) ≡ true
  pub setup : ℕ
  pub running : setup_of parsed place ≡ Some setup
  pub last : last_below (begins_from parsed index setup) (suc place) ≡ Some line

pub used : (index : ℕ) (parsed : List ParsedLine) (line place : ℕ) → uses index parsed line place ≡ true → IsUsed index parsed line place
used index parsed line place h = go (setup_of parsed place) refl parts.1
  where
    parts : (is_sight (words_at parsed place) ≡ true) × (option_map_or (λ own. own == line) (entry_line index parsed place) false ≡ true)
    parts = and_parts _ _ h

    found : (last : Option ℕ) → option_map_or (λ own. own == line) last false ≡ true → last ≡ Some line
    found None e = absurd (false≢true e)
    found (Some own) e = ap Some (eqb-true own line e)

    go : (setup : Option ℕ) → setup_of parsed place ≡ setup → option_map_or (λ own. own == line) (option_and_then (λ from. last_below (begins_from parsed index from) (suc place)) setup) false ≡ true → IsUsed index parsed line place
    go None is e = absurd (false≢true e)
    go (Some setup) is e = record { sight = parts.0; setup = setup; running = is; last = found _ e }

pub uses-from : (index : ℕ) (parsed : List ParsedLine) (line place : ℕ) → IsUsed index parsed line place → uses index parsed line place ≡ true
uses-from index parsed line place u =
    let last : entry_line index parsed place ≡ Some line = ap (option_and_then (λ from. last_below (begins_from parsed index from) (suc place))) u.running ∙ u.last in
    and_from (is_sight (words_at parsed place)) _ u.sight (ap (λ own. option_map_or (λ own. own == line) own false) last ∙ eq-eqb line line refl)

-- a sight is no setup
pub no-setup : (parsed : List ParsedLine) (place : ℕ) → is_sight (words_at parsed place) ≡ true → is_setup (words_at parsed place) ≡ false
no-setup parsed place sight =
    let words = words_at parsed place in
    ap (λ own. not own && (holds station_easting words || (holds station_northing words || holds station_height words))) sight

-- a line that is used lies between the setup and the sight, and begins an entry
pub used-begins : (index : ℕ) (parsed : List ParsedLine) (line place : ℕ) → (u : IsUsed index parsed line place) → (u.setup ≤ line) × (begins index parsed line ≡ true)
used-begins index parsed line place u =
    let parts = and_parts (nat_le u.setup line) (begins index parsed line) (last-true (begins_from parsed index u.setup) (suc place) line u.last) in
    (leb-true u.setup line parts.0, parts.1)

pub used-le : (index : ℕ) (parsed : List ParsedLine) (line place : ℕ) → IsUsed index parsed line place → line ≤ place
used-le index parsed line place u = omega (arith, last-lt (begins_from parsed index u.setup) (suc place) line u.last)

-- the setup of a sight is the setup that runs behind the line that it uses, or any place up to the sight
pub same-setup : (index : ℕ) (parsed : List ParsedLine) (line place k : ℕ) → (u : IsUsed index parsed line place) → line < k → k ≤ suc place → setup_of parsed k ≡ Some u.setup
same-setup index parsed line place k u after below =
    last-is (λ own. is_setup (words_at parsed own)) k u.setup (omega (arith, (used-begins index parsed line place u).0, after)) begins (λ j behind within. none j behind (cases_order j place) (omega (arith, within, below)))
  where
    begins : is_setup (words_at parsed u.setup) ≡ true
    begins = last-true (λ own. is_setup (words_at parsed own)) place u.setup u.running

    none : (j : ℕ) → u.setup < j → (j ≡ place) ⊎ ((j < place) ⊎ (place < j)) → j ≤ place → is_setup (words_at parsed j) ≡ false
    none j behind (inl same) within = ap (λ own. is_setup (words_at parsed own)) same ∙ no-setup parsed place u.sight
    none j behind (inr (inl before)) within = last-after (λ own. is_setup (words_at parsed own)) place u.setup j u.running behind before
    none j behind (inr (inr above)) within = absurd (omega (arith, above, within))

-- the sights from a line to one that uses it use it
pub between : (index : ℕ) (parsed : List ParsedLine) (line last place : ℕ) → IsUsed index parsed line last → is_sight (words_at parsed place) ≡ true → line ≤ place → place ≤ last → IsUsed index parsed line place
between index parsed line last place u sight after before = record {
  sight = sight;
  setup = u.setup;
  running = runs (cases_order line place);
  last = last-is (begins_from parsed index u.setup) (suc place) line (omega (arith, after)) (last-true (begins_from parsed index u.setup) (suc last) line u.last) (λ k behind within. last-after (begins_from parsed index u.setup) (suc last) line k u.last behind (omega (arith, within, before)));
}
  where
    -- a sight that enters the height itself
    own : line ≡ place → setup_of parsed place ≡ Some u.setup
    own same =
        let behind : setup_of parsed (suc place) ≡ Some u.setup = same-setup index parsed line last (suc place) u (omega (arith, same)) (omega (arith, before)) in
        sym (cond-false (is_setup (words_at parsed place)) (Some place) (setup_of parsed place) (no-setup parsed place sight)) ∙ behind

    runs : (line ≡ place) ⊎ ((line < place) ⊎ (place < line)) → setup_of parsed place ≡ Some u.setup
    runs (inl same) = own same
    runs (inr (inl behind)) = same-setup index parsed line last place u behind (omega (arith, before))
    runs (inr (inr above)) = absurd (omega (arith, above, after))

-- the station of a sight is that of the setup that runs behind the line that it uses
pub same-station : (index : ℕ) (parsed : List ParsedLine) (line place : ℕ) → IsUsed index parsed line place → station_at parsed (suc line) ≡ station_at parsed place
same-station index parsed line place u =
    ap station (same-setup index parsed line place (suc line) u (omega arith) (omega (arith, used-le index parsed line place u)) ∙ sym u.running)
  where
    station : Option ℕ → Option (List ℕ)
    station setup = option_and_then (λ own. point_name (words_at parsed own)) setup
