-- The height that a sight of the mended book uses.
use Rattle.std.proofs.Common.{◌≡◌, ℕ, ℤ, suc, ◌<◌, ◌≤◌, ◌==◌, ◌&&◌, Bool, true, false, cond, List, [], ◌∷◌, Option, Some, None, length, refl, sym, ap, subst, ◌∙◌, arith}
use Rattle.std.specs.Option.{option_or}
use Rattle.std.specs.Prelude.{All, Contains, nat_le, option_and_then}
use Rattle.std.proofs.lemmas.Bool.{and_from, and_parts, eq-eqb, eqb-true, le-leb, leb-false, leb-true, true≢false}
use Rattle.std.proofs.lemmas.List.Elements.{All-cons, All-contains, All-nil, Contains-append_left, Contains-append_right, Contains-push}
use Rattle.std.proofs.lemmas.Option.{none-some, same_Some}
use Rattle.th_book.specs.Books.{known}
use Rattle.th_book.specs.Lines.{ParsedLine, holds, is_sight, length_in}
use Rattle.th_book.specs.Places.{height_at, holds_from, last_below, setup_of, words_at}
use Rattle.th_entries.specs.Entries.{entry_behind, index_of}
use Rattle.th_entries.specs.declared.entries.HeightKind.{HeightKind}
use Rattle.th_mend.specs.declared.changes.Reach.{Reach}
use Rattle.th_mend.specs.declared.changes.Reach.TheVariants.{Since, Whole}
use Rattle.th_mend.specs.declared.changes.What.{What}
use Rattle.th_mend.specs.declared.changes.What.TheVariants.{Height, LeftOut, OtherSign, Sighted, Station, Target}
use Rattle.gsi_word.specs.Words.{Parts}
use Rattle.th_mend.specs.Edits.{covers, index_changed}
use Rattle.th_mend.specs.declared.edits.Edit.{Edit}
use Rattle.th_mend.proofs.LastLemmas.{last-lt}
use Rattle.th_explain_laws.specs.Corrected.{edit_on, edited, edited_by}
use Rattle.th_explain_laws.proofs.AddedLemmas.{adding_by, first_adding}
use Rattle.th_explain_laws.proofs.EditLemmas.{AreApart, IsOfHeight, covers_at, found_among, none_found}
use Rattle.th_explain_laws.proofs.ForceLemmas.{force_le, force_stays, sight_running}
use Rattle.th_explain_laws.proofs.LastLemmas.{last-after, last-is, last-true}
use Rattle.th_explain_laws.proofs.LineLemmas.{HasLength}

-- the edit that adds a length at a place
pub record IsAdding (edits : List Edit) (index place : ℕ) (own : ℤ) : Type 0 where
  pub edit : Edit
  pub among : Contains edits edit
  pub kind : HeightKind
  pub what : edit.what ≡ Height kind Since own
  pub indexed : (index_of kind == index) ≡ true
  pub first : edit.first ≡ place

adding_more : (edit : Edit) (edits : List Edit) (index place : ℕ) (own : ℤ) → IsAdding edits index place own → IsAdding (edit ∷ edits) index place own
adding_more edit edits index place own is = record {
  edit = is.edit;
  among = Contains-append_right (edit ∷ []) edits is.edit is.among;
  kind = is.kind;
  what = is.what;
  indexed = is.indexed;
  first = is.first;
}

pub adding : (edits : List Edit) (index place : ℕ) (own : ℤ) → first_adding index place edits ≡ Some own → IsAdding edits index place own
adding [] index place own h = absurd (none-some own h)
adding (edit ∷ edits) index place own h = by edit.what refl h (adding edits index place own)
  where
    later : Option ℤ
    later = first_adding index place edits

    from : (kind : HeightKind) (new : ℤ) (here same : Bool) → edit.what ≡ Height kind Since new → (edit.first == place) ≡ here → (index_of kind == index) ≡ same
        → option_or (cond (here && same) (Some new) None) later ≡ Some own → (later ≡ Some own → IsAdding edits index place own) → IsAdding (edit ∷ edits) index place own
    from kind new false same is e i h rest = adding_more edit edits index place own (rest h)
    from kind new true false is e i h rest = adding_more edit edits index place own (rest h)
    from kind new true true is e i h rest = record {
      edit = edit;
      among = Contains-append_left (edit ∷ []) edits edit (Contains-push [] edit);
      kind = kind;
      what = is ∙ ap (Height kind Since) (same_Some new own h);
      indexed = i;
      first = eqb-true edit.first place e;
    }

    by : (what : What) → edit.what ≡ what → option_or (adding_by index place edit what) later ≡ Some own → (later ≡ Some own → IsAdding edits index place own) → IsAdding (edit ∷ edits) index place own
    by (Height kind Since new) is h rest = from kind new (edit.first == place) (index_of kind == index) is refl refl h rest
    by (Height kind Whole new) is h rest = adding_more edit edits index place own (rest h)
    by (Sighted new) is h rest = adding_more edit edits index place own (rest h)
    by LeftOut is h rest = adding_more edit edits index place own (rest h)
    by OtherSign is h rest = adding_more edit edits index place own (rest h)
    by (Target name) is h rest = adding_more edit edits index place own (rest h)
    by (Station name) is h rest = adding_more edit edits index place own (rest h)

-- where none adds a length, each adds none
none_adding : (edits : List Edit) (index place : ℕ) → first_adding index place edits ≡ None → All (λ (edit : Edit). adding_by index place edit edit.what ≡ None) edits
none_adding [] index place h = All-nil (λ (edit : Edit). adding_by index place edit edit.what ≡ None)
none_adding (edit ∷ edits) index place h = by (adding_by index place edit edit.what) refl h (none_adding edits index place)
  where
    None_adds : List Edit → Type 0
    None_adds edits = All (λ (edit : Edit). adding_by index place edit edit.what ≡ None) edits

    by : (own : Option ℤ) → adding_by index place edit edit.what ≡ own → option_or own (first_adding index place edits) ≡ None → (first_adding index place edits ≡ None → None_adds edits) → None_adds (edit ∷ edits)
    by None is h rest = All-cons (λ (edit : Edit). adding_by index place edit edit.what ≡ None) edit edits is (rest h)
    by (Some own) is h rest = absurd (none-some own (sym h))

-- an edit that begins at a place adds a length there
adds_some : (edits : List Edit) (edit : Edit) (index place : ℕ) (kind : HeightKind) (own : ℤ) → Contains edits edit → edit.what ≡ Height kind Since own → (index_of kind == index) ≡ true → edit.first ≡ place
    → (length : ℤ) × (first_adding index place edits ≡ Some length)
adds_some edits edit index place kind own among is same first = by (first_adding index place edits) refl
  where
    adds : adding_by index place edit edit.what ≡ Some own
    adds =
        ap (adding_by index place edit) is
        ∙ ap (λ here. cond (here && (index_of kind == index)) (Some own) None) (eq-eqb edit.first place first)
        ∙ ap (λ here. cond here (Some own) None) same

    by : (found : Option ℤ) → first_adding index place edits ≡ found → (length : ℤ) × (first_adding index place edits ≡ Some length)
    by None e = absurd (none-some own (sym (All-contains (λ (edit : Edit). adding_by index place edit edit.what ≡ None) edits edit (none_adding edits index place e) among) ∙ adds))
    by (Some length) e = (length, e)

-- what the words of a line become for an index
pub record IsHeightLine (edits : List Edit) (index place : ℕ) (words own : List Parts) : Type 0 where
  pub kept : holds index words ≡ true → HasLength index own (edited_by (edit_on edits index place) (known (length_in index words)))
  pub added : (length : ℤ) → holds index words ≡ false → first_adding index place edits ≡ Some length → HasLength index own length
  pub none : holds index words ≡ false → first_adding index place edits ≡ None → holds index own ≡ false

-- what an edit of an index is
pub record IsOfKind (index : ℕ) (parsed : List ParsedLine) (edit : Edit) : Type 0 where
  pub kind : HeightKind
  pub reach : Reach
  pub own : ℤ
  pub what : edit.what ≡ Height kind reach own
  pub indexed : (index_of kind == index) ≡ true
  pub is : IsOfHeight index reach parsed edit

module _ (edits : List Edit) (index : ℕ) (parsed new : List ParsedLine) (apart : AreApart edits)
    (lines : (k : ℕ) → k < length parsed → IsHeightLine edits index k (words_at parsed k) (words_at new k))
    (heights : (edit : Edit) → Contains edits edit → (index_changed edit.what == index) ≡ true → IsOfKind index parsed edit) where
  -- the test of an edit at a place
  abbrev reaches : ℕ → Edit → Bool
  reaches k edit = covers k edit && (index_changed edit.what == index)

  -- two edits of the index that reach a place are one
  one_edit : (k : ℕ) (one other : Edit) → Contains edits one → Contains edits other → (index_changed one.what == index) ≡ true → (index_changed other.what == index) ≡ true → covers k one ≡ true → covers k other ≡ true → one ≡ other
  one_edit k one other a b i j c d =
      let first = covers_at k one c in
      let second = covers_at k other d in
      apart one other a b
      (and_from (index_changed one.what == index_changed other.what) (nat_le one.first other.last && nat_le other.first one.last)
      (eq-eqb (index_changed one.what) (index_changed other.what) (eqb-true (index_changed one.what) index i ∙ sym (eqb-true (index_changed other.what) index j)))
      (and_from (nat_le one.first other.last) (nat_le other.first one.last) (le-leb one.first other.last (omega (arith, first.0, second.1))) (le-leb other.first one.last (omega (arith, second.0, first.1)))))

  -- an edit that adds a length is of the index, and reaches its place
  adds_index : (k : ℕ) (own : ℤ) → (is : IsAdding edits index k own) → (index_changed is.edit.what == index) ≡ true
  adds_index k own is = ap (λ what. index_changed what == index) is.what ∙ is.indexed

  adds_here : (k : ℕ) (own : ℤ) → (is : IsAdding edits index k own) → covers k is.edit ≡ true
  adds_here k own is =
      let height = (heights is.edit is.among (adds_index k own is)).is in
      subst (λ k. covers k is.edit ≡ true) is.first (height.all is.edit.first height.within (omega arith) height.here)

  -- a sight, its setup, and the last line before it that holds the index
  pub record IsUsing (s : ℕ) : Type 0 where
    pub within : s < length parsed
    pub sight : is_sight (words_at parsed s) ≡ true
    pub setup : ℕ
    pub line : ℕ
    pub runs : setup_of parsed s ≡ Some setup
    pub new_runs : setup_of new s ≡ Some setup
    pub last : last_below (holds_from parsed index setup) (suc s) ≡ Some line

  module _ (s : ℕ) (u : IsUsing s) where
    held : (nat_le u.setup u.line ≡ true) × (holds index (words_at parsed u.line) ≡ true)
    held = and_parts (nat_le u.setup u.line) (holds index (words_at parsed u.line)) (last-true (holds_from parsed index u.setup) (suc s) u.line u.last)

    late : u.setup ≤ u.line
    late = leb-true u.setup u.line held.0

    before : u.line < suc s
    before = last-lt (holds_from parsed index u.setup) (suc s) u.line u.last

    none_behind : (j : ℕ) → u.line < j → j ≤ s → holds index (words_at parsed j) ≡ false
    none_behind j behind within =
        let after : nat_le u.setup j ≡ true = le-leb u.setup j (omega (arith, late)) in
        sym (ap (λ own. own && holds index (words_at parsed j)) after) ∙ last-after (holds_from parsed index u.setup) (suc s) u.line j u.last behind (omega (arith, within))

    force : (j : ℕ) → u.line ≤ j → j ≤ s → entry_behind index parsed s ≡ entry_behind index parsed j
    force j behind within =
        force_stays index parsed u.setup j s (sight_running parsed s u.setup u.sight u.runs) (omega (arith, late)) within (λ i after below. none_behind i (omega (arith, after, behind)) below)

    -- the old height, and the new one by its line
    old_height : height_at index parsed s ≡ length_in index (words_at parsed u.line)
    old_height =
        ap (λ setup. option_and_then (λ k. length_in index (words_at parsed k)) (option_and_then (λ setup. last_below (holds_from parsed index setup) (suc s)) setup)) u.runs
        ∙ ap (option_and_then (λ k. length_in index (words_at parsed k))) u.last

    new_height : (j : ℕ) → u.line ≤ j → j ≤ s → holds index (words_at new j) ≡ true → ((i : ℕ) → j < i → i ≤ s → holds index (words_at new i) ≡ false) → height_at index new s ≡ length_in index (words_at new j)
    new_height j behind within there none =
        let passes : holds_from new index u.setup j ≡ true = and_from (nat_le u.setup j) (holds index (words_at new j)) (le-leb u.setup j (omega (arith, late))) there in
        let last : last_below (holds_from new index u.setup) (suc s) ≡ Some j =
        last-is (holds_from new index u.setup) (suc s) j (omega (arith, within)) passes (λ i after below. fails i (none i after (omega (arith, below)))) in
        ap (λ setup. option_and_then (λ k. length_in index (words_at new k)) (option_and_then (λ setup. last_below (holds_from new index setup) (suc s)) setup)) u.new_runs
        ∙ ap (option_and_then (λ k. length_in index (words_at new k))) last
      where
        fails : (i : ℕ) → holds index (words_at new i) ≡ false → holds_from new index u.setup i ≡ false
        fails i never = by (nat_le u.setup i)
          where
            by : (after : Bool) → (after && holds index (words_at new i)) ≡ false
            by true = never
            by false = refl

    -- an edit that reaches a line from the last word on reaches the sight
    reaches_sight : (edit : Edit) (j : ℕ) → Contains edits edit → (index_changed edit.what == index) ≡ true → u.line ≤ j → j ≤ s → covers j edit ≡ true → covers s edit ≡ true
    reaches_sight edit j among i behind within c =
        let height = (heights edit among i).is in
        height.all s u.within (omega (arith, (covers_at j edit c).0, within)) (force j behind within ∙ height.same j c)

    -- and the other way round, if it begins at the line or before it
    reached_back : (edit : Edit) (j : ℕ) → Contains edits edit → (index_changed edit.what == index) ≡ true → u.line ≤ j → j ≤ s → edit.first ≤ j → covers s edit ≡ true → covers j edit ≡ true
    reached_back edit j among i behind within after c =
        let height = (heights edit among i).is in
        height.all j (omega (arith, u.within, within)) after (sym (force j behind within) ∙ height.same s c)

    -- where no line behind a place gets a word, none holds one
    none_new : (j : ℕ) → u.line ≤ j → ((i : ℕ) (own : ℤ) → j < i → i ≤ s → IsAdding edits index i own → ⊥) → (i : ℕ) → j < i → i ≤ s → holds index (words_at new i) ≡ false
    none_new j behind never i after within = (lines i (omega (arith, within, u.within))).none (none_behind i (omega (arith, behind, after)) within) (by (first_adding index i edits) refl)
      where
        by : (own : Option ℤ) → first_adding index i edits ≡ own → first_adding index i edits ≡ None
        by None e = e
        by (Some own) e = absurd (never i own after within (adding edits index i own e))

    abbrev value : ℤ
    value = known (length_in index (words_at parsed u.line))

    kept : HasLength index (words_at new u.line) (edited_by (edit_on edits index u.line) value)
    kept = (lines u.line (omega (arith, before, u.within))).kept held.1

    -- no edit of the index reaches the sight
    no_edit : edit_on edits index s ≡ None → known (height_at index new s) ≡ value
    no_edit none =
        ap known (new_height u.line (omega arith) (omega (arith, before)) kept.holds (none_new u.line (omega arith) no_added) ∙ kept.length)
        ∙ ap (λ edit. edited_by edit value) (by (edit_on edits index u.line) refl)
      where
        uncovered : (edit : Edit) → Contains edits edit → (index_changed edit.what == index) ≡ true → covers s edit ≡ true → ⊥
        uncovered edit among i c =
            true≢false (sym (and_from (covers s edit) (index_changed edit.what == index) c i) ∙ All-contains (λ (edit : Edit). reaches s edit ≡ false) edits edit (none_found (reaches s) edits none) among)

        no_added : (i : ℕ) (own : ℤ) → u.line < i → i ≤ s → IsAdding edits index i own → ⊥
        no_added i own after within is =
            uncovered is.edit is.among (adds_index i own is) (reaches_sight is.edit i is.among (adds_index i own is) (omega (arith, after)) within (adds_here i own is))

        by : (edit : Option Edit) → edit_on edits index u.line ≡ edit → edit_on edits index u.line ≡ None
        by None e = e
        by (Some edit) e =
            let found = found_among (reaches u.line) edits edit e in
            let both = and_parts (covers u.line edit) (index_changed edit.what == index) found.1 in
            absurd (uncovered edit found.0 both.1 (reaches_sight edit u.line found.0 both.1 (omega arith) (omega (arith, before)) both.0))

    -- the edit of the index that reaches the sight
    with_edit : (edit : Edit) → edit_on edits index s ≡ Some edit → known (height_at index new s) ≡ edited edit.what value
    with_edit edit is = by (nat_le edit.first u.line) refl
      where
        found : Contains edits edit × (reaches s edit ≡ true)
        found = found_among (reaches s) edits edit is

        both : (covers s edit ≡ true) × ((index_changed edit.what == index) ≡ true)
        both = and_parts (covers s edit) (index_changed edit.what == index) found.1

        height : IsOfKind index parsed edit
        height = heights edit found.0 both.1

        -- no other line behind its beginning gets a word
        no_added : (j : ℕ) → u.line ≤ j → edit.first ≤ j → (i : ℕ) (own : ℤ) → j < i → i ≤ s → IsAdding edits index i own → ⊥
        no_added j behind after i own more within adds =
            let same : adds.edit ≡ edit = one_edit i adds.edit edit adds.among found.0 (adds_index i own adds) both.1 (adds_here i own adds) (reached_back edit i found.0 both.1 (omega (arith, behind, more)) within (omega (arith, after, more)) both.0) in
            let begins : edit.first ≡ i = sym (ap (λ (edit : Edit). edit.first) same) ∙ adds.first in
            omega (arith, begins, after, more)

        -- it begins at the last word or before it
        early : edit.first ≤ u.line → known (height_at index new s) ≡ edited edit.what value
        early first =
            ap known (new_height u.line (omega arith) (omega (arith, before)) kept.holds (none_new u.line (omega arith) (no_added u.line (omega arith) first)) ∙ kept.length)
            ∙ ap (λ edit. edited_by edit value) (at_line (edit_on edits index u.line) refl)
          where
            here : covers u.line edit ≡ true
            here = reached_back edit u.line found.0 both.1 (omega arith) (omega (arith, before)) first both.0

            at_line : (own : Option Edit) → edit_on edits index u.line ≡ own → edit_on edits index u.line ≡ Some edit
            at_line None e =
                absurd (true≢false (sym (and_from (covers u.line edit) (index_changed edit.what == index) here both.1) ∙ All-contains (λ (edit : Edit). reaches u.line edit ≡ false) edits edit (none_found (reaches u.line) edits e) found.0))
            at_line (Some own) e =
                let other = found_among (reaches u.line) edits own e in
                let parts = and_parts (covers u.line own) (index_changed own.what == index) other.1 in
                e ∙ ap Some (one_edit u.line own edit other.0 found.0 parts.1 both.1 parts.0 here)

        -- it begins behind the last word, so its first line gets one
        later : u.line < edit.first → known (height_at index new s) ≡ edited edit.what value
        later behind = from height.reach height.what height.is
          where
            reach : (edit.first ≤ s) × (s ≤ edit.last)
            reach = covers_at s edit both.0

            from : (reach : Reach) → edit.what ≡ Height height.kind reach height.own → IsOfHeight index reach parsed edit → known (height_at index new s) ≡ edited edit.what value
            from Whole what is =
                let in_force : entry_behind index parsed u.line ≡ Some is.entry = sym (force u.line (omega arith) (omega (arith, before))) ∙ is.same s both.0 in
                absurd (omega (arith, force_le index parsed u.line is.entry in_force, is.begun, behind))
            from Since what is =
                let some = adds_some edits edit index edit.first height.kind height.own found.0 what height.indexed refl in
                let adds = adding edits index edit.first some.0 some.1 in
                let same : adds.edit ≡ edit = one_edit edit.first adds.edit edit adds.among found.0 (adds_index edit.first some.0 adds) both.1 (adds_here edit.first some.0 adds) (reached_back edit edit.first found.0 both.1 (omega (arith, behind)) reach.0 (omega arith) both.0) in
                let whats : Height adds.kind Since some.0 ≡ Height height.kind Since height.own = sym adds.what ∙ ap (λ (edit : Edit). edit.what) same ∙ what in
                let lengths : some.0 ≡ height.own = cc in
                let has : HasLength index (words_at new edit.first) some.0 = (lines edit.first is.within).added some.0 (none_behind edit.first behind reach.0) some.1 in
                ap known (new_height edit.first (omega (arith, behind)) reach.0 has.holds (none_new edit.first (omega (arith, behind)) (no_added edit.first (omega (arith, behind)) (omega arith))) ∙ has.length)
                ∙ lengths
                ∙ sym (ap (λ what. edited what value) what)

        by : (early_enough : Bool) → nat_le edit.first u.line ≡ early_enough → known (height_at index new s) ≡ edited edit.what value
        by true e = early (leb-true edit.first u.line e)
        by false e = later (leb-false edit.first u.line e)

    -- the new height is the old one, as its edit changes it
    pub height_new : known (height_at index new s) ≡ edited_by (edit_on edits index s) (known (height_at index parsed s))
    height_new = by (edit_on edits index s) refl ∙ ap (edited_by (edit_on edits index s)) (sym (ap known old_height))
      where
        by : (edit : Option Edit) → edit_on edits index s ≡ edit → known (height_at index new s) ≡ edited_by (edit_on edits index s) value
        by None e = no_edit e ∙ sym (ap (λ edit. edited_by edit value) e)
        by (Some edit) e = with_edit edit e ∙ sym (ap (λ edit. edited_by edit value) e)
