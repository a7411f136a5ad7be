-- A number that a table changes, in the book and in its survey.
use Rattle.std.proofs.Common.{◌≡◌, ◌≢◌, ℕ, ℤ, zero, suc, ◌+◌, ◌-◌, ◌≤◌, ◌<◌, ◌==◌, ◌&&◌, ◌+ℤ◌, ◌-ℤ◌, ◌*ℤ◌, negsuc, pos, Bool, true, false, cond, List, [], ◌∷◌, ◌++◌, Option, Some, None, Result, Ok, Err, length, map, refl, sym, ap, subst, ◌∙◌, arith}
use Rattle.std.specs.Option.{option_map_or}
use Rattle.std.specs.Prelude.{All, Contains, nat_le, option_map, option_to_list, unwrap_or}
use Rattle.std.proofs.Math.IntN.{*ℤ-zero}
use Rattle.std.proofs.lemmas.Bool.{and_from, and_left, and_parts, eq-eqb, eqb-true, false≢true, le-leb, leb-true, ne_eqb}
use Rattle.std.proofs.lemmas.List.{map-append}
use Rattle.std.proofs.lemmas.List.Elements.{All-append, All-cons, All-contains, All-head, All-nil, All-tail}
use Rattle.std.proofs.lemmas.Option.{same_Some}
use Rattle.std.proofs.lemmas.Int.{ints}
use Rattle.gsi_word.specs.Indexes.{height_difference}
use Rattle.th_observations.specs.Observed.{Observed}
use Rattle.th_book.specs.Books.{known, observations_of, observed_at}
use Rattle.th_book.specs.Lines.{ParsedLine, is_sight, length_in}
use Rattle.th_book.specs.Places.{height_at, last_below, words_at}
use Rattle.th_changes.specs.Numbers.{changed, changed_observation, changed_row, lift, share}
use Rattle.th_changes.specs.declared.numbers.Number.{Number}
use Rattle.th_changes.specs.declared.numbers.Number.TheVariants as numbers
use Rattle.th_entries.specs.Below.{all_below}
use Rattle.th_entries.specs.Entries.{entries_at, entries_of, entry_at, entry_behind, entry_line, entry_until, index_of, length_at, uses}
use Rattle.th_entries.specs.declared.entries.Entry.{Entry}
use Rattle.th_entries.specs.declared.entries.HeightKind.{HeightKind}
use Rattle.th_entries.specs.declared.entries.HeightKind.TheVariants.{Instrument, Reflector}
use Rattle.th_mend.specs.declared.changes.Change.{Change}
use Rattle.th_mend.specs.declared.changes.Reach.{Reach}
use Rattle.th_mend.specs.declared.changes.Reach.TheVariants.{Since, Whole}
use Rattle.th_mend.specs.declared.changes.What.TheVariants.{Height}
use Rattle.th_mend.specs.Edits.{covers, edit_of, edit_then, edits_of, first_of, index_changed, unless_clash}
use Rattle.th_mend.specs.Reached.{home, place_of}
use Rattle.th_mend.specs.declared.edits.Edit.{Edit}
use Rattle.th_mend.specs.declared.faults.MendKind.{MendKind}
use Rattle.th_mend.proofs.ForceLemmas.{in_force-sight}
use Rattle.th_mend.proofs.LastLemmas.{last-lt}
use Rattle.th_network.specs.Networks.{surveyed}
use Rattle.th_numbers.specs.Candidates.{given_of, number_of, number_over, sight_of, sights_since}
use Rattle.th_numbers.specs.declared.candidates.Candidate.{Candidate}
use Rattle.th_numbers.specs.declared.candidates.Candidate.TheVariants as candidates
use Rattle.th_reliability.specs.Sights.{in_sights}
use Rattle.th_reliability.specs.declared.sights.Sights.{Sights}
use Rattle.th_review_rows.specs.Entries.{sights_of}
use Rattle.th_tables.specs.Rows.{BenchmarkRows, WeightRows}
use Rattle.th_explain_laws.specs.Corrected.{corrected}
use Rattle.th_explain_laws.specs.Typed.{AreOfOthers, IsOfBook, entry_typed, sight_typed, since_typed, typed}
use Rattle.th_explain_laws.proofs.EditLemmas.{IsLocated, IsOfHeight, IsReadable, covered, covers_at, is_height, located, of_height, own_place}
use Rattle.th_explain_laws.proofs.ForceLemmas.{force_between}
use Rattle.th_explain_laws.proofs.LastLemmas.{last-true}
use Rattle.th_explain_laws.proofs.SingleLemmas.{all_grow, height_grows, height_leaves, length_leaves, sight_grows}

-- two tests that imply each other are one
tests_agree : (one other : Bool) → (one ≡ true → other ≡ true) → (other ≡ true → one ≡ true) → one ≡ other
tests_agree true true a b = refl
tests_agree true false a b = absurd (false≢true (a refl))
tests_agree false true a b = absurd (false≢true (b refl))
tests_agree false false a b = refl

-- the edit of one change
pub record IsOnly (parsed : List ParsedLine) (change : Change) (edits : List Edit) : Type 0 where
  pub edit : Edit
  pub is : edits ≡ edit ∷ []
  pub located : IsLocated parsed edit
  pub what : edit.what ≡ change.what
  pub place : located.place ≡ place_of change

pub only_edit : (parsed : List ParsedLine) (change : Change) (edits : List Edit) → IsReadable change.what → edits_of parsed (change ∷ []) ≡ Ok edits → IsOnly parsed change edits
only_edit parsed change edits readable h = by (edit_of parsed 2 change) refl h
  where
    by : (found : Result Edit MendKind) → edit_of parsed 2 change ≡ found → edit_then 2 (unless_clash [] found) (λ edit. Ok ([] ++ edit ∷ [])) ≡ Ok edits → IsOnly parsed change edits
    by (Err kind) e h = absurd (cc h)
    by (Ok edit) e h =
        let is : edit ∷ [] ≡ edits = cc h in
        let loc = located parsed 2 change edit readable e in
        record { edit = edit; is = sym is; located = loc.0; what = loc.1; place = loc.2 }

-- a sight uses an entry just where that is in force behind it
uses_force : (index : ℕ) (parsed : List ParsedLine) (line s : ℕ) → is_sight (words_at parsed s) ≡ true → uses index parsed line s ≡ true → entry_behind index parsed s ≡ Some line
uses_force index parsed line s sight h = in_force-sight index parsed s sight ∙ by (entry_line index parsed s) (and_parts (is_sight (words_at parsed s)) (option_map_or (λ own. own == line) (entry_line index parsed s) false) h).1
  where
    by : (found : Option ℕ) → option_map_or (λ own. own == line) found false ≡ true → found ≡ Some line
    by None h = absurd (false≢true h)
    by (Some own) h = ap Some (eqb-true own line h)

force_uses : (index : ℕ) (parsed : List ParsedLine) (line s : ℕ) → is_sight (words_at parsed s) ≡ true → entry_behind index parsed s ≡ Some line → uses index parsed line s ≡ true
force_uses index parsed line s sight h =
    and_from (is_sight (words_at parsed s)) (option_map_or (λ own. own == line) (entry_line index parsed s) false) sight
    (ap (λ found. option_map_or (λ own. own == line) found false) (sym (in_force-sight index parsed s sight) ∙ h) ∙ eq-eqb line line refl)

-- what the laws of entries say
pub record EntryLaws : Type 0 where
  pub all : (index : ℕ) (parsed : List ParsedLine) (line last place : ℕ) → last_below (uses index parsed line) (length parsed) ≡ Some last → is_sight (words_at parsed place) ≡ true → line ≤ place → place ≤ last → uses index parsed line place ≡ true
  pub others : (index : ℕ) (parsed : List ParsedLine) (line last place : ℕ) → last_below (uses index parsed line) (length parsed) ≡ Some last → place < length parsed → uses index parsed line place ≡ true → (line ≤ place) × (place ≤ last)
  pub height : (index : ℕ) (parsed : List ParsedLine) (line place : ℕ) → uses index parsed line place ≡ true → known (height_at index parsed place) ≡ length_at index parsed line

-- an edit of an entry from one of its lines on
module _ (laws : EntryLaws) (number : ℕ) (parsed : List ParsedLine) (kind : HeightKind) (line last : ℕ) (found : last_below (uses (index_of kind) parsed line) (length parsed) ≡ Some last) where
  abbrev index : ℕ
  index = index_of kind

  last_uses : uses (index_of kind) parsed line last ≡ true
  last_uses = last-true (uses (index_of kind) parsed line) (length parsed) last found

  last_within : last < length parsed
  last_within = last-lt (uses (index_of kind) parsed line) (length parsed) last found

  last_sight : is_sight (words_at parsed last) ≡ true
  last_sight = (and_parts (is_sight (words_at parsed last)) _ last_uses).0

  last_force : entry_behind (index_of kind) parsed last ≡ Some line
  last_force = uses_force (index_of kind) parsed line last last_sight last_uses

  pub line_le : line ≤ last
  line_le = (laws.others (index_of kind) parsed line last last found last_within last_uses).0

  pub force_on : (k : ℕ) → line ≤ k → k ≤ last → entry_behind (index_of kind) parsed k ≡ Some line
  force_on k after before = force_between (index_of kind) parsed last line k last_force after before

  module _ (edit : Edit) (reach : Reach) (first : ℕ) (is : IsOfHeight (index_of kind) reach parsed edit) (begins : edit.first ≡ first) (after : line ≤ first) (before : first ≤ last) where
    same_entry : is.entry ≡ line
    same_entry = same_Some is.entry line (sym is.here ∙ ap (entry_behind (index_of kind) parsed) begins ∙ force_on first after before)

    abbrev sights : Sights
    sights = record { book = number; first = first + 1; last = last + 1 }

    reached_uses : (s : ℕ) → is_sight (words_at parsed s) ≡ true → covers s edit ≡ true → uses (index_of kind) parsed line s ≡ true
    reached_uses s sight h = force_uses (index_of kind) parsed line s sight (is.same s h ∙ ap Some same_entry)

    pub reached_among : (s : ℕ) → s < length parsed → is_sight (words_at parsed s) ≡ true → covers s edit ≡ in_sights (record { book = number; first = first + 1; last = last + 1 }) (observed_at number parsed s)
    reached_among s within sight = tests_agree (covers s edit) (in_sights sights (observed_at number parsed s)) there back
      where
        there : covers s edit ≡ true → in_sights sights (observed_at number parsed s) ≡ true
        there h =
            let low = covers_at s edit h in
            let range = laws.others (index_of kind) parsed line last s found within (reached_uses s sight h) in
            and_from (number == number) (nat_le (first + 1) (s + 1) && nat_le (s + 1) (last + 1)) (eq-eqb number number refl)
            (and_from (nat_le (first + 1) (s + 1)) (nat_le (s + 1) (last + 1)) (le-leb (first + 1) (s + 1) (omega (arith, low.0, begins))) (le-leb (s + 1) (last + 1) (omega (arith, range.1))))

        back : in_sights sights (observed_at number parsed s) ≡ true → covers s edit ≡ true
        back h =
            let parts = and_parts (number == number) (nat_le (first + 1) (s + 1) && nat_le (s + 1) (last + 1)) h in
            let range = and_parts (nat_le (first + 1) (s + 1)) (nat_le (s + 1) (last + 1)) parts.1 in
            let low = leb-true (first + 1) (s + 1) range.0 in
            let high = leb-true (s + 1) (last + 1) range.1 in
            let used = laws.all (index_of kind) parsed line last s found sight (omega (arith, low, after)) (omega (arith, high)) in
            is.all s within (omega (arith, low, begins)) (uses_force (index_of kind) parsed line s sight used ∙ ap Some (sym same_entry))

    -- all observations of the book
    pub entry_grows : (own : ℤ) → edit.what ≡ Height kind reach own
        → corrected (edit ∷ []) number parsed ≡ map (changed_observation (number_over kind (record { book = number; first = first + 1; last = last + 1 })) (own -ℤ length_at (index_of kind) parsed line)) (observations_of number parsed)
    entry_grows own what =
        all_grow edit (number_over kind sights) (own -ℤ length_at (index_of kind) parsed line) number parsed (not_point kind what) (height_leaves edit kind reach own what)
        (λ s within sight. height_grows edit kind reach own (length_at (index_of kind) parsed line) sights number parsed s what (reached_among s within sight)
        (λ h. laws.height (index_of kind) parsed line s (reached_uses s sight h)))
      where
        not_point : (kind : HeightKind) → edit.what ≡ Height kind reach own → (index_changed edit.what == 11) ≡ false
        not_point Instrument what = ap (λ what. index_changed what == 11) what
        not_point Reflector what = ap (λ what. index_changed what == 11) what

-- where an entry comes from
pub record IsEntry (number : ℕ) (parsed : List ParsedLine) (entry : Entry) : Type 0 where
  pub kind : HeightKind
  pub line : ℕ
  pub last : ℕ
  pub found : last_below (uses (index_of kind) parsed line) (length parsed) ≡ Some last
  pub is : entry ≡ entry_until number parsed kind line last

one_entry : (number : ℕ) (parsed : List ParsedLine) (kind : HeightKind) (line : ℕ) → All (IsEntry number parsed) (option_to_list (entry_at number parsed kind line))
one_entry number parsed kind line = go (last_below (uses (index_of kind) parsed line) (length parsed)) refl
  where
    go : (found : Option ℕ) → last_below (uses (index_of kind) parsed line) (length parsed) ≡ found → All (IsEntry number parsed) (option_to_list (option_map (entry_until number parsed kind line) found))
    go None is = All-nil (IsEntry number parsed)
    go (Some last) is = All-cons (IsEntry number parsed) (entry_until number parsed kind line last) [] (record { kind = kind; line = line; last = last; found = is; is = refl }) (All-nil (IsEntry number parsed))

all_of_places : {X : Type 0} → (P : X → Type 0) (gives : ℕ → List X) (bound : ℕ) → ((k : ℕ) → All P (gives k)) → All P (all_below gives bound)
all_of_places P gives zero each = All-nil P
all_of_places P gives (suc bound) each = All-append P (all_below gives bound) (gives bound) (all_of_places P gives bound each) (each bound)

pub entry_of_book : (number : ℕ) (parsed : List ParsedLine) (entry : Entry) → Contains (entries_of number parsed) entry → IsEntry number parsed entry
entry_of_book number parsed entry among =
    All-contains (IsEntry number parsed) (entries_of number parsed) entry
    (all_of_places (IsEntry number parsed) (entries_at number parsed) (length parsed)
    (λ line. All-append (IsEntry number parsed) (option_to_list (entry_at number parsed Reflector line)) (option_to_list (entry_at number parsed Instrument line)) (one_entry number parsed Reflector line) (one_entry number parsed Instrument line)))
    among

-- what is typed for an entry
pub entry_changed : EntryLaws → (number : ℕ) (parsed : List ParsedLine) (entry : Entry) (own : ℤ) (edits : List Edit) → Contains (entries_of number parsed) entry → IsOnly parsed (entry_typed entry own) edits
    → corrected edits number parsed ≡ map (changed_observation (number_over entry.kind (sights_of entry)) (own -ℤ entry.length)) (observations_of number parsed)
entry_changed laws number parsed entry own edits among only = by entry (entry_of_book number parsed entry among).is only
  where
    e : IsEntry number parsed entry
    e = entry_of_book number parsed entry among

    one : IsOnly parsed (entry_typed (entry_until number parsed e.kind e.line e.last) own) edits → corrected edits number parsed
        ≡ map (changed_observation (number_over e.kind (record { book = number; first = e.line + 1; last = e.last + 1 })) (own -ℤ length_at (index_of e.kind) parsed e.line)) (observations_of number parsed)
    one only =
        let line_last = line_le laws number parsed e.kind e.line e.last e.found in
        let place : only.located.place ≡ e.line = only.place ∙ omega arith in
        let here : home (Height e.kind Whole own) parsed only.located.place ≡ Some e.line = ap (entry_behind (index_of e.kind) parsed) place ∙ force_on laws number parsed e.kind e.line e.last e.found e.line (omega arith) line_last in
        let first : only.edit.first ≡ e.line =
        only.located.first ∙ ap (λ what. first_of what (unwrap_or (home what parsed only.located.place) only.located.place) only.located.place) only.what ∙ ap (λ found. unwrap_or found only.located.place) here in
        ap (λ edits. corrected edits number parsed) only.is
        ∙ entry_grows laws number parsed e.kind e.line e.last e.found only.edit Whole e.line (of_height parsed only.edit e.kind Whole own only.what only.located) first (omega arith) line_last own only.what

    by : (entry : Entry) → entry ≡ entry_until number parsed e.kind e.line e.last → IsOnly parsed (entry_typed entry own) edits
        → corrected edits number parsed ≡ map (changed_observation (number_over entry.kind (sights_of entry)) (own -ℤ entry.length)) (observations_of number parsed)
    by entry is only =
        one (subst (λ (entry : Entry). IsOnly parsed (entry_typed entry own) edits) is only)
        ∙ sym (ap (λ (entry : Entry). map (changed_observation (number_over entry.kind (sights_of entry)) (own -ℤ entry.length)) (observations_of number parsed)) is)

-- an observation of a book is that of a sight
abbrev pub IsSightOf : ℕ → List ParsedLine → Observed → Type 0
IsSightOf number parsed o = (place : ℕ) × (is_sight (words_at parsed place) ≡ true) × (o ≡ observed_at number parsed place)

-- what is typed for a change that was forgotten
pub since_changed : EntryLaws → (number : ℕ) (parsed : List ParsedLine) (entry : Entry) (o : Observed) (own : ℤ) (edits : List Edit) → Contains (entries_of number parsed) entry → IsSightOf number parsed o → in_sights (sights_of entry) o ≡ true
    → IsOnly parsed (since_typed entry o.line own) edits
    → corrected edits number parsed ≡ map (changed_observation (number_over entry.kind (sights_since entry o.line)) (own -ℤ entry.length)) (observations_of number parsed)
since_changed laws number parsed entry o own edits among sight inside only = by entry o (entry_of_book number parsed entry among).is sight.2 inside only
  where
    e : IsEntry number parsed entry
    e = entry_of_book number parsed entry among

    p : ℕ
    p = sight.0

    one : in_sights (record { book = number; first = e.line + 1; last = e.last + 1 }) (observed_at number parsed sight.0) ≡ true → IsOnly parsed (since_typed (entry_until number parsed e.kind e.line e.last) (sight.0 + 1) own) edits
        → corrected edits number parsed ≡ map (changed_observation (number_over e.kind (record { book = number; first = sight.0 + 1; last = e.last + 1 })) (own -ℤ length_at (index_of e.kind) parsed e.line)) (observations_of number parsed)
    one inside only =
        let parts = and_parts (number == number) (nat_le (e.line + 1) (sight.0 + 1) && nat_le (sight.0 + 1) (e.last + 1)) inside in
        let range = and_parts (nat_le (e.line + 1) (sight.0 + 1)) (nat_le (sight.0 + 1) (e.last + 1)) parts.1 in
        let low = leb-true (e.line + 1) (sight.0 + 1) range.0 in
        let high = leb-true (sight.0 + 1) (e.last + 1) range.1 in
        let place : only.located.place ≡ sight.0 = only.place ∙ omega arith in
        let first : only.edit.first ≡ sight.0 =
        only.located.first ∙ ap (λ what. first_of what (unwrap_or (home what parsed only.located.place) only.located.place) only.located.place) only.what ∙ place in
        ap (λ edits. corrected edits number parsed) only.is
        ∙ entry_grows laws number parsed e.kind e.line e.last e.found only.edit Since sight.0 (of_height parsed only.edit e.kind Since own only.what only.located) first (omega (arith, low)) (omega (arith, high)) own only.what

    by : (entry : Entry) (o : Observed) → entry ≡ entry_until number parsed e.kind e.line e.last → o ≡ observed_at number parsed sight.0 → in_sights (sights_of entry) o ≡ true → IsOnly parsed (since_typed entry o.line own) edits
        → corrected edits number parsed ≡ map (changed_observation (number_over entry.kind (sights_since entry o.line)) (own -ℤ entry.length)) (observations_of number parsed)
    by entry o is same inside only =
        one (subst (λ (o : Observed). in_sights (record { book = number; first = e.line + 1; last = e.last + 1 }) o ≡ true) same (subst (λ (entry : Entry). in_sights (sights_of entry) o ≡ true) is inside))
        (subst (λ (o : Observed). IsOnly parsed (since_typed (entry_until number parsed e.kind e.line e.last) o.line own) edits) same (subst (λ (entry : Entry). IsOnly parsed (since_typed entry o.line own) edits) is only))
        ∙ sym (ap (λ (entry : Entry). map (changed_observation (number_over entry.kind (sights_since entry o.line)) (own -ℤ entry.length)) (observations_of number parsed)) is
        ∙ ap (λ (o : Observed). map (changed_observation (number_over e.kind (sights_since (entry_until number parsed e.kind e.line e.last) o.line)) (own -ℤ length_at (index_of e.kind) parsed e.line)) (observations_of number parsed)) same)

-- what is typed for a sight
pub sight_changed : (number : ℕ) (parsed : List ParsedLine) (o : Observed) (own : ℤ) (edits : List Edit) → IsSightOf number parsed o → IsOnly parsed (sight_typed parsed o own) edits
    → corrected edits number parsed ≡ map (changed_observation (numbers.Added (sight_of o)) (own -ℤ o.difference)) (observations_of number parsed)
sight_changed number parsed o own edits sight only = by o sight.2 only
  where
    one : IsOnly parsed (sight_typed parsed (observed_at number parsed sight.0) own) edits
        → corrected edits number parsed ≡ map (changed_observation (numbers.Added (sight_of (observed_at number parsed sight.0))) (own -ℤ (observed_at number parsed sight.0).difference)) (observations_of number parsed)
    one only =
        let o = observed_at number parsed sight.0 in
        let x = own -ℤ o.difference in
        let typed = known (length_in height_difference (words_at parsed (sight.0 + 1 - 1))) +ℤ x in
        let back : sight.0 + 1 - 1 ≡ sight.0 = omega arith in
        let place : only.located.place ≡ sight.0 = only.place ∙ back in
        let reach = own_place parsed only.edit only.located (ap is_height only.what) in
        ap (λ edits. corrected edits number parsed) only.is
        ∙ all_grow only.edit (numbers.Added (sight_of o)) x number parsed (ap (λ what. index_changed what == 11) only.what) (length_leaves only.edit typed only.what)
        (λ s within here. sight_grows only.edit typed x (sight_of o) number parsed s only.what (agree s reach place)
        (λ h. let same : sight.0 + 1 - 1 ≡ s = back ∙ meets s reach place h in ap (λ k. known (length_in height_difference (words_at parsed k)) +ℤ x) same))
      where
        meets : (s : ℕ) → (only.edit.first ≡ only.located.place) × (only.edit.last ≡ only.located.place) → only.located.place ≡ sight.0 → covers s only.edit ≡ true → sight.0 ≡ s
        meets s reach place h = let range = covers_at s only.edit h in omega (arith, range.0, range.1, reach.0, reach.1, place)

        agree : (s : ℕ) → (only.edit.first ≡ only.located.place) × (only.edit.last ≡ only.located.place) → only.located.place ≡ sight.0 → covers s only.edit ≡ in_sights (sight_of (observed_at number parsed sight.0)) (observed_at number parsed s)
        agree s reach place = tests_agree (covers s only.edit) (in_sights (sight_of (observed_at number parsed sight.0)) (observed_at number parsed s))
            (λ h.
            let same = meets s reach place h in
            and_from (number == number) (nat_le (sight.0 + 1) (s + 1) && nat_le (s + 1) (sight.0 + 1)) (eq-eqb number number refl)
            (and_from (nat_le (sight.0 + 1) (s + 1)) (nat_le (s + 1) (sight.0 + 1)) (le-leb (sight.0 + 1) (s + 1) (omega (arith, same))) (le-leb (s + 1) (sight.0 + 1) (omega (arith, same)))))
            (λ h.
            let parts = and_parts (number == number) (nat_le (sight.0 + 1) (s + 1) && nat_le (s + 1) (sight.0 + 1)) h in
            let range = and_parts (nat_le (sight.0 + 1) (s + 1)) (nat_le (s + 1) (sight.0 + 1)) parts.1 in
            let low = leb-true (sight.0 + 1) (s + 1) range.0 in
            let high = leb-true (s + 1) (sight.0 + 1) range.1 in
            covered s only.edit (omega (arith, low, high, reach.0, place)) (omega (arith, low, high, reach.1, place)))

    by : (o : Observed) → o ≡ observed_at number parsed sight.0 → IsOnly parsed (sight_typed parsed o own) edits
        → corrected edits number parsed ≡ map (changed_observation (numbers.Added (sight_of o)) (own -ℤ o.difference)) (observations_of number parsed)
    by o is only =
        one (subst (λ (o : Observed). IsOnly parsed (sight_typed parsed o own) edits) is only)
        ∙ sym (ap (λ (o : Observed). map (changed_observation (numbers.Added (sight_of o)) (own -ℤ o.difference)) (observations_of number parsed)) is)

-- a number of a book: it is added or subtracted over sights of that book
pub record IsOver (number : ℕ) (own : Number) : Type 0 where
  pub share : (o : Observed) → o.book ≢ number → share own o ≡ pos 0
  pub lift : (name : List ℕ) → lift own name ≡ pos 0

over_sights : (number : ℕ) (sights : Sights) (one : ℤ) → sights.book ≡ number → (o : Observed) → o.book ≢ number → cond (in_sights sights o) one (pos 0) ≡ pos 0
over_sights number sights one is o other =
    ap (λ among. cond among one (pos 0)) (and_left (o.book == sights.book) (nat_le sights.first o.line && nat_le o.line sights.last) (ne_eqb o.book sights.book (λ same. other (same ∙ is))))

pub over_height : (number : ℕ) (kind : HeightKind) (sights : Sights) → sights.book ≡ number → IsOver number (number_over kind sights)
over_height number Instrument sights is = record { share = over_sights number sights (pos 1) is; lift = λ name. refl }
over_height number Reflector sights is = record { share = over_sights number sights (negsuc 0) is; lift = λ name. refl }

pub over_sight : (number : ℕ) (sights : Sights) → sights.book ≡ number → IsOver number (numbers.Added sights)
over_sight number sights is = record { share = over_sights number sights (pos 1) is; lift = λ name. refl }

zero_more : (a x share : ℤ) → share ≡ pos 0 → a +ℤ x *ℤ share ≡ a
zero_more a x share h = ap (λ share. a +ℤ x *ℤ share) h ∙ (let none = *ℤ-zero x in omega (arith, ints, none))

-- the observations of other books stay
others_stay : (number : ℕ) (own : Number) (x : ℤ) (observations : List Observed) → IsOver number own → AreOfOthers number observations → map (changed_observation own x) observations ≡ observations
others_stay number own x [] over other = refl
others_stay number own x (o ∷ observations) over other =
    ap (λ first. first ∷ map (changed_observation own x) observations) (ap (λ difference. record o { difference = difference }) (zero_more o.difference x (share own o) (over.share o (All-head (λ (o : Observed). o.book ≢ number) o observations other))))
    ∙ ap (λ rest. o ∷ rest) (others_stay number own x observations over (All-tail (λ (o : Observed). o.book ≢ number) o observations other))

-- and so do benchmarks
rows_stay : (number : ℕ) (own : Number) (x : ℤ) (rows : BenchmarkRows) → IsOver number own → map (changed_row own x) rows ≡ rows
rows_stay number own x [] over = refl
rows_stay number own x (row ∷ rows) over =
    ap (λ first. first ∷ map (changed_row own x) rows) (ap (λ height. (row.0, height)) (zero_more row.1 x (lift own row.0) (over.lift row.0))) ∙ ap (λ rest. row ∷ rest) (rows_stay number own x rows over)

-- the survey of several books
pub survey_changed : (number : ℕ) (own : Number) (x : ℤ) (before observations behind news : List Observed) (benchmarks : BenchmarkRows) (weights : WeightRows) → IsOver number own → AreOfOthers number before → AreOfOthers number behind
    → news ≡ map (changed_observation own x) observations → changed own x (surveyed (before ++ observations ++ behind) benchmarks weights) ≡ surveyed (before ++ news ++ behind) benchmarks weights
survey_changed number own x before observations behind news benchmarks weights over first last is =
    ap (λ rows. surveyed (map (changed_observation own x) (before ++ observations ++ behind)) rows weights) (rows_stay number own x benchmarks over)
    ∙ ap (λ items. surveyed items benchmarks weights)
    (map-append (changed_observation own x) (before ++ observations) behind
    ∙ ap (λ front. front ++ map (changed_observation own x) behind) (map-append (changed_observation own x) before observations ∙ ap (λ front. front ++ map (changed_observation own x) observations) (others_stay number own x before over first) ∙ ap (λ items. before ++ items) (sym is))
    ∙ ap (λ items. before ++ news ++ items) (others_stay number own x behind over last))

-- the book of an entry
entry_book : (number : ℕ) (parsed : List ParsedLine) (entry : Entry) → Contains (entries_of number parsed) entry → entry.book ≡ number
entry_book number parsed entry among = ap (λ (entry : Entry). entry.book) (entry_of_book number parsed entry among).is

-- what the change of one number does to its book
pub record IsChanged (number : ℕ) (own : Number) (x : ℤ) (observations news : List Observed) : Type 0 where
  pub grows : news ≡ map (changed_observation own x) observations
  pub over : IsOver number own

pub number_changed : EntryLaws → (number : ℕ) (parsed : List ParsedLine) (candidate : Candidate) (own : ℤ) (change : Change) (edits : List Edit) (benchmarks : BenchmarkRows)
    → ((o : Observed) → Contains (observations_of number parsed) o → IsSightOf number parsed o) → IsOfBook number parsed (observations_of number parsed) candidate → typed parsed candidate own ≡ Some change → IsReadable change.what
    → edits_of parsed (change ∷ []) ≡ Ok edits → IsChanged number (number_of candidate) (own -ℤ given_of benchmarks candidate) (observations_of number parsed) (corrected edits number parsed)
number_changed laws number parsed (candidates.Entered entry) own change edits benchmarks each among is readable found = record {
  grows = entry_changed laws number parsed entry own edits among (subst (λ change. IsOnly parsed change edits) (sym (same_Some (entry_typed entry own) change is)) (only_edit parsed change edits readable found));
  over = over_height number entry.kind (sights_of entry) (entry_book number parsed entry among);
}
number_changed laws number parsed (candidates.Since entry line) own change edits benchmarks each forgotten is readable found =
    let only = subst (λ change. IsOnly parsed change edits) (sym (same_Some (since_typed entry line own) change is)) (only_edit parsed change edits readable found) in
    let Goal : ℕ → Type 0 = λ line. corrected edits number parsed ≡ map (changed_observation (number_over entry.kind (sights_since entry line)) (own -ℤ entry.length)) (observations_of number parsed) in
    record {
      grows = subst Goal (sym forgotten.at)
          (since_changed laws number parsed entry forgotten.sight own edits forgotten.entered (each forgotten.sight forgotten.among) forgotten.uses (subst (λ line. IsOnly parsed (since_typed entry line own) edits) forgotten.at only));
      over = over_height number entry.kind (sights_since entry line) (entry_book number parsed entry forgotten.entered);
    }
number_changed laws number parsed (candidates.Sight o) own change edits benchmarks each among is readable found = record {
  grows = sight_changed number parsed o own edits (each o among) (subst (λ change. IsOnly parsed change edits) (sym (same_Some (sight_typed parsed o own) change is)) (only_edit parsed change edits readable found));
  over = over_sight number (sight_of o) (ap (λ (o : Observed). o.book) (each o among).2);
}
number_changed laws number parsed (candidates.Benchmark place name) own change edits benchmarks each none is readable found = absurd none
