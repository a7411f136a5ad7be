-- What is known of the edits of changes: where each reaches, and that no two change one word.
use Rattle.std.proofs.Common.{◌≡◌, ℕ, ℤ, ◌+◌, ◌<◌, ◌≤◌, ◌==◌, ◌&&◌, ◌||◌, ◌⊎◌, inl, inr, Bool, true, false, cond, List, [], ◌∷◌, ◌++◌, Option, Some, None, Result, Ok, Err, length, nat_lt, unsigned_abs, refl, sym, ap, subst, ◌∙◌, arith}
use Rattle.std.specs.List.{find, list_any}
use Rattle.std.specs.Prelude.{All, Contains, is_none, nat_le, unwrap_or}
use Rattle.std.proofs.lemmas.Bool.{and_from, and_parts, eq-eqb, eqb-true, false≢true, le-leb, leb-true, ltb-true, or_parts, true≢false}
use Rattle.std.proofs.lemmas.Bool.Decides.{nat_tests}
use Rattle.std.proofs.lemmas.List.Elements.{All-cons, All-contains, All-nil, All-push, Contains-append_left, Contains-append_right, Contains-push, Contains-push_cases}
use Rattle.std.proofs.lemmas.Option.{none-some, same_Some}
use Rattle.th_units.specs.Limits.{max_len}
use Rattle.gsi_word.specs.Names.{name_of}
use Rattle.gsi_word.specs.Words.{Parts}
use Rattle.th_book.specs.Lines.{ParsedLine}
use Rattle.th_book.specs.Places.{last_below, words_at}
use Rattle.th_entries.specs.Entries.{entry_behind, index_of}
use Rattle.th_entries.specs.declared.entries.HeightKind.{HeightKind}
use Rattle.th_mend.specs.declared.changes.Change.{Change}
use Rattle.th_mend.specs.declared.changes.Reach.{Reach}
use Rattle.th_mend.specs.declared.changes.Reach.TheVariants.{Since, Whole}
use Rattle.th_mend.specs.declared.changes.What.{What}
use Rattle.th_mend.specs.declared.changes.What.TheVariants.{Height, LeftOut, OtherSign, Sighted, Station, Target}
use Rattle.th_mend.specs.Edits.{clash, covers, edit_from, edit_of, edit_then, edit_unless, edit_with, edits_after, first_of, index_changed, unless_clash}
use Rattle.th_mend.specs.Reached.{are_one, height_fault, home, is_empty, own_fault, place_of, spot_at}
use Rattle.th_mend.specs.declared.edits.Edit.{Edit}
use Rattle.th_mend.specs.declared.faults.MendKind.{MendKind}
use Rattle.th_mend.specs.declared.faults.MendKind.TheVariants.{Clash, NoHeight}
use Rattle.th_mend.specs.declared.faults.RowFault.{RowFault}
use Rattle.th_explain_laws.proofs.ForceLemmas.{force_between, force_le}
use Rattle.th_explain_laws.proofs.LastLemmas.{last-after, last-is, last-some, last-true}

-- what is found is among the items, and passes the test
pub found_among : {X : Type 0} (test : X → Bool) (items : List X) (item : X) → find test items ≡ Some item → Contains items item × (test item ≡ true)
found_among test [] item h = absurd (none-some item h)
found_among {X} test (first ∷ items) item h = by (test first) refl h (found_among test items item)
  where
    by : (passes : Bool) → test first ≡ passes → cond passes (Some first) (find test items) ≡ Some item → (find test items ≡ Some item → Contains items item × (test item ≡ true)) → Contains (first ∷ items) item × (test item ≡ true)
    by true is h rest =
        let same : first ≡ item = same_Some first item h in
        let P : X → Type 0 = λ own. Contains (first ∷ items) own × (test own ≡ true) in
        subst P same (Contains-append_left (first ∷ []) items first (Contains-push [] first), is)
    by false is h rest = let found = rest h in (Contains-append_right (first ∷ []) items item found.0, found.1)

-- where nothing is found, nothing passes
pub none_found : {X : Type 0} (test : X → Bool) (items : List X) → find test items ≡ None → All (λ item. test item ≡ false) items
none_found test [] h = All-nil (λ item. test item ≡ false)
none_found test (first ∷ items) h = by (test first) refl h (none_found test items)
  where
    by : (passes : Bool) → test first ≡ passes → cond passes (Some first) (find test items) ≡ None → (find test items ≡ None → All (λ item. test item ≡ false) items) → All (λ item. test item ≡ false) (first ∷ items)
    by true is h rest = absurd (none-some first (sym h))
    by false is h rest = All-cons (λ item. test item ≡ false) first items is (rest h)

-- where none passes
none_passes : {X : Type 0} (test : X → Bool) (items : List X) → list_any test items ≡ false → All (λ item. test item ≡ false) items
none_passes test [] h = All-nil (λ item. test item ≡ false)
none_passes test (first ∷ items) h =
    let parts = or_parts (test first) (list_any test items) h in
    All-cons (λ item. test item ≡ false) first items parts.0 (none_passes test items parts.1)

pub fails : {X : Type 0} (test : X → Bool) (items : List X) (item : X) → list_any test items ≡ false → Contains items item → test item ≡ false
fails test items item h among = All-contains (λ item. test item ≡ false) items item (none_passes test items h) among

-- a length that can be written, and a name
abbrev pub IsReadable : What → Type 0
IsReadable (Height kind reach own) = unsigned_abs own ≤ max_len
IsReadable (Sighted own) = unsigned_abs own ≤ max_len
IsReadable LeftOut = Unit {0}
IsReadable OtherSign = Unit {0}
IsReadable (Target name) = name_of name ≡ Some name
IsReadable (Station name) = name_of name ≡ Some name

abbrev pub AreReadable : List Change → Type 0
AreReadable [] = Unit {0}
AreReadable (change ∷ changes) = IsReadable change.what × AreReadable changes

-- an edit of a change without a fault
pub record IsLocated (parsed : List ParsedLine) (edit : Edit) : Type 0 where
  pub place : ℕ
  pub within : place < length parsed
  pub fault : own_fault edit.what (words_at parsed place) (home edit.what parsed place) ≡ None
  pub first : edit.first ≡ first_of edit.what (unwrap_or (home edit.what parsed place) place) place
  pub last : edit.last ≡ unwrap_or (last_below (λ other. are_one (home edit.what parsed place) (home edit.what parsed other)) (length parsed)) place
  pub readable : IsReadable edit.what

pub located : (parsed : List ParsedLine) (row : ℕ) (change : Change) (edit : Edit) → IsReadable change.what → edit_of parsed row change ≡ Ok edit
    → (is : IsLocated parsed edit) × (edit.what ≡ change.what) × (is.place ≡ place_of change)
located parsed row change edit readable h = by (nat_lt place (length parsed)) refl h
  where
    place : ℕ
    place = place_of change

    made : Edit
    made = edit_with row change (spot_at change.what parsed place (length parsed))

    Found : Edit → Type 0
    Found edit = (is : IsLocated parsed edit) × (edit.what ≡ change.what) × (is.place ≡ place)

    from : (fault : Option MendKind) → own_fault change.what (words_at parsed place) (home change.what parsed place) ≡ fault → place < length parsed → edit_unless fault made ≡ Ok edit → Found edit
    from (Some kind) is within h = absurd (cc h)
    from None is within h =
        let same : made ≡ edit = cc h in
        subst Found same (record { place = place; within = within; fault = is; first = refl; last = refl; readable = readable }, refl, refl)

    by : (within : Bool) → nat_lt place (length parsed) ≡ within → edit_from row change (cond within (Some (spot_at change.what parsed place (length parsed))) None) ≡ Ok edit → Found edit
    by false e h = absurd (cc h)
    by true e h = from (own_fault change.what (words_at parsed place) (home change.what parsed place)) refl (ltb-true place (length parsed) e) h

-- no two edits change one word
abbrev pub AreApart : List Edit → Type 0
AreApart edits = (one other : Edit) → Contains edits one → Contains edits other → clash one other ≡ true → one ≡ other

swapped_true : (a b : ℕ) → (a == b) ≡ true → (b == a) ≡ true
swapped_true a b h = eq-eqb b a (sym (eqb-true a b h))

clash_back : (one other : Edit) → clash one other ≡ true → clash other one ≡ true
clash_back one other h =
    let parts = and_parts (index_changed one.what == index_changed other.what) (nat_le one.first other.last && nat_le other.first one.last) h in
    let reach = and_parts (nat_le one.first other.last) (nat_le other.first one.last) parts.1 in
    and_from (index_changed other.what == index_changed one.what) (nat_le other.first one.last && nat_le one.first other.last)
    (swapped_true (index_changed one.what) (index_changed other.what) parts.0) (and_from (nat_le other.first one.last) (nat_le one.first other.last) reach.1 reach.0)

apart_more : (earlier : List Edit) (edit : Edit) → AreApart earlier → list_any (clash edit) earlier ≡ false → AreApart (earlier ++ edit ∷ [])
apart_more earlier edit apart none = λ one other among too h. by one other h (Contains-push_cases earlier edit one among) (Contains-push_cases earlier edit other too)
  where
    by : (one other : Edit) → clash one other ≡ true → Contains earlier one ⊎ (edit ≡ one) → Contains earlier other ⊎ (edit ≡ other) → one ≡ other
    by one other h (inl a) (inl b) = apart one other a b h
    by one other h (inr a) (inr b) = sym a ∙ b
    by one other h (inr a) (inl b) = absurd (false≢true (sym (fails (clash edit) earlier other none b) ∙ ap (λ own. clash own other) a ∙ h))
    by one other h (inl a) (inr b) = absurd (false≢true (sym (fails (clash edit) earlier one none a) ∙ ap (λ own. clash own one) b ∙ clash_back one other h))

-- all edits of changes
pub all_located : (parsed : List ParsedLine) (changes : List Change) (row : ℕ) (earlier edits : List Edit) → AreReadable changes → All (IsLocated parsed) earlier → AreApart earlier
    → edits_after parsed earlier row changes ≡ Ok edits → All (IsLocated parsed) edits × AreApart edits
all_located parsed [] row earlier edits readable are apart h =
    let same : earlier ≡ edits = cc h in
    let P : List Edit → Type 0 = λ own. All (IsLocated parsed) own × AreApart own in
    subst P same (are, apart)
all_located parsed (change ∷ changes) row earlier edits readable are apart h =
    by (edit_of parsed row change) refl h (λ edit. all_located parsed changes (row + 1) (earlier ++ edit ∷ []) edits readable.1)
  where
    Goes : Type 0
    Goes = (edit : Edit) → All (IsLocated parsed) (earlier ++ edit ∷ []) → AreApart (earlier ++ edit ∷ []) → edits_after parsed (earlier ++ edit ∷ []) (row + 1) changes ≡ Ok edits → All (IsLocated parsed) edits × AreApart edits

    later : Edit → Result (List Edit) RowFault
    later edit = edits_after parsed (earlier ++ edit ∷ []) (row + 1) changes

    from : (edit : Edit) (clashes : Bool) → list_any (clash edit) earlier ≡ clashes → edit_of parsed row change ≡ Ok edit → edit_then row (cond clashes (Err Clash) (Ok edit)) later ≡ Ok edits → Goes → All (IsLocated parsed) edits × AreApart edits
    from edit true is found h goes = absurd (cc h)
    from edit false is found h goes = goes edit (All-push (IsLocated parsed) earlier edit are (located parsed row change edit readable.0 found).0) (apart_more earlier edit apart is) h

    by : (found : Result Edit MendKind) → edit_of parsed row change ≡ found → edit_then row (unless_clash earlier found) later ≡ Ok edits → Goes → All (IsLocated parsed) edits × AreApart edits
    by (Err kind) is h goes = absurd (cc h)
    by (Ok edit) is h goes = from edit (list_any (clash edit) earlier) refl is h goes

-- where an edit of a height begins: at its entry, or at a line that has words
abbrev pub IsBegun : Reach → List ParsedLine → Edit → ℕ → Type 0
IsBegun Whole parsed edit entry = edit.first ≡ entry
IsBegun Since parsed edit entry = is_empty (words_at parsed edit.first) ≡ false

-- an edit of a height reaches the lines from its first on behind which the entry is in force
pub record IsOfHeight (index : ℕ) (reach : Reach) (parsed : List ParsedLine) (edit : Edit) : Type 0 where
  pub entry : ℕ
  pub within : edit.first < length parsed
  pub here : entry_behind index parsed edit.first ≡ Some entry
  pub same : (k : ℕ) → covers k edit ≡ true → entry_behind index parsed k ≡ Some entry
  pub all : (k : ℕ) → k < length parsed → edit.first ≤ k → entry_behind index parsed k ≡ Some entry → covers k edit ≡ true
  pub begun : IsBegun reach parsed edit entry

one_home : (entry : ℕ) (found : Option ℕ) → are_one (Some entry) found ≡ true → found ≡ Some entry
one_home entry None h = absurd (false≢true h)
one_home entry (Some own) h = ap Some (sym (eqb-true entry own h))

home_one : (entry : ℕ) (found : Option ℕ) → found ≡ Some entry → are_one (Some entry) found ≡ true
home_one entry found h = ap (are_one (Some entry)) h ∙ eq-eqb entry entry refl

pub covers_at : (k : ℕ) (edit : Edit) → covers k edit ≡ true → (edit.first ≤ k) × (k ≤ edit.last)
covers_at k edit h = let parts = and_parts (nat_le edit.first k) (nat_le k edit.last) h in (leb-true edit.first k parts.0, leb-true k edit.last parts.1)

pub covered : (k : ℕ) (edit : Edit) → edit.first ≤ k → k ≤ edit.last → covers k edit ≡ true
covered k edit after before = and_from (nat_le edit.first k) (nat_le k edit.last) (le-leb edit.first k after) (le-leb k edit.last before)

pub of_height : (parsed : List ParsedLine) (edit : Edit) (kind : HeightKind) (reach : Reach) (own : ℤ) → edit.what ≡ Height kind reach own → IsLocated parsed edit → IsOfHeight (index_of kind) reach parsed edit
of_height parsed edit kind reach own is loc = by (is_empty words) (entry_behind index parsed place) refl refl fault
  where
    index : ℕ
    index = index_of kind

    place : ℕ
    place = loc.place

    words : List Parts
    words = words_at parsed place

    fault : height_fault words (entry_behind index parsed place) ≡ None
    fault = sym (ap (λ what. own_fault what words (home what parsed place)) is) ∙ loc.fault

    found : (entry : ℕ) → entry_behind index parsed place ≡ Some entry → is_empty words ≡ false → IsOfHeight index reach parsed edit
    found entry entered some = record {
      entry = entry;
      within = omega (arith, loc.within, begins.1);
      here = force_between index parsed last.0 entry edit.first at_end begins.0 (omega (arith, begins.1, last.2));
      same = λ k h. let reach = covers_at k edit h in force_between index parsed last.0 entry k at_end (omega (arith, begins.0, reach.0)) (omega (arith, reach.1, end));
      all = λ k below after h. covered k edit after (at k below (home_one entry (entry_behind index parsed k) h));
      begun = begins.2;
    }
      where
        test : ℕ → Bool
        test k = are_one (Some entry) (entry_behind index parsed k)

        last : (last : ℕ) × (last_below test (length parsed) ≡ Some last) × (place ≤ last)
        last = last-some test (length parsed) place loc.within (home_one entry (entry_behind index parsed place) entered)

        end : edit.last ≡ last.0
        end =
            loc.last
            ∙ ap (λ what. unwrap_or (last_below (λ other. are_one (home what parsed place) (home what parsed other)) (length parsed)) place) is
            ∙ ap (λ found. unwrap_or (last_below (λ other. are_one found (entry_behind index parsed other)) (length parsed)) place) entered
            ∙ ap (λ found. unwrap_or found place) last.1

        at_end : entry_behind index parsed last.0 ≡ Some entry
        at_end = one_home entry (entry_behind index parsed last.0) (last-true test (length parsed) last.0 last.1)

        start : edit.first ≡ first_of (Height kind reach own) entry place
        start = loc.first ∙ ap (λ what. first_of what (unwrap_or (home what parsed place) place) place) is ∙ ap (λ found. first_of (Height kind reach own) (unwrap_or found place) place) entered

        low : entry ≤ place
        low = force_le index parsed place entry entered

        with_reach : (reach : Reach) → edit.first ≡ first_of (Height kind reach own) entry place → (entry ≤ edit.first) × (edit.first ≤ place) × IsBegun reach parsed edit entry
        with_reach Whole e = (omega (arith, e), omega (arith, e, low), e)
        with_reach Since e = (omega (arith, e, low), omega (arith, e), ap (λ k. is_empty (words_at parsed k)) e ∙ some)

        begins : (entry ≤ edit.first) × (edit.first ≤ place) × IsBegun reach parsed edit entry
        begins = with_reach reach start

        at : (k : ℕ) → k < length parsed → test k ≡ true → k ≤ edit.last
        at k below passes = go (nat_lt last.0 k) refl
          where
            go : (behind : Bool) → nat_lt last.0 k ≡ behind → k ≤ edit.last
            go true e = absurd (true≢false (sym passes ∙ last-after test (length parsed) last.0 k last.1 (ltb-true last.0 k e) below))
            go false e = let before : k ≤ last.0 = grind (arith, nat_tests) in omega (arith, before, end)

    by : (empty : Bool) (entry : Option ℕ) → is_empty words ≡ empty → entry_behind index parsed place ≡ entry → cond (empty || is_none entry) (Some NoHeight) None ≡ None → IsOfHeight index reach parsed edit
    by true entry a b h = absurd (none-some NoHeight (sym h))
    by false None a b h = absurd (none-some NoHeight (sym h))
    by false (Some entry) a b h = found entry b a

-- something that changes a height
abbrev pub is_height : What → Bool
is_height (Height kind reach own) = true
is_height (Sighted own) = false
is_height LeftOut = false
is_height OtherSign = false
is_height (Target name) = false
is_height (Station name) = false

-- any other edit is of its own line alone
pub own_place : (parsed : List ParsedLine) (edit : Edit) → (loc : IsLocated parsed edit) → is_height edit.what ≡ false → (edit.first ≡ loc.place) × (edit.last ≡ loc.place)
own_place parsed edit loc other = by edit.what refl other
  where
    place : ℕ
    place = loc.place

    apart : (j : ℕ) → place < j → (place == j) ≡ false
    apart j behind = grind (arith, nat_tests)

    here : (what : What) → edit.what ≡ what → ((j : ℕ) → home what parsed j ≡ Some j) → ((entry : ℕ) → first_of what entry place ≡ place) → (edit.first ≡ place) × (edit.last ≡ place)
    here what is homes starts =
        let start : edit.first ≡ place = loc.first ∙ ap (λ own. first_of own (unwrap_or (home own parsed place) place) place) is ∙ starts (unwrap_or (home what parsed place) place) in
        let test : ℕ → Bool = λ other. are_one (home what parsed place) (home what parsed other) in
        let tells : (j : ℕ) → test j ≡ (place == j) = λ j. ap (λ own. are_one own (home what parsed j)) (homes place) ∙ ap (are_one (Some place)) (homes j) in
        let last : last_below test (length parsed) ≡ Some place =
        last-is test (length parsed) place loc.within (tells place ∙ eq-eqb place place refl) (λ j behind within. tells j ∙ apart j behind) in
        (start, loc.last ∙ ap (λ own. unwrap_or (last_below (λ other. are_one (home own parsed place) (home own parsed other)) (length parsed)) place) is ∙ ap (λ found. unwrap_or found place) last)

    by : (what : What) → edit.what ≡ what → is_height what ≡ false → (edit.first ≡ place) × (edit.last ≡ place)
    by (Height kind reach own) is never = absurd (true≢false never)
    by (Sighted own) is never = here (Sighted own) is (λ j. refl) (λ entry. refl)
    by LeftOut is never = here LeftOut is (λ j. refl) (λ entry. refl)
    by OtherSign is never = here OtherSign is (λ j. refl) (λ entry. refl)
    by (Target name) is never = here (Target name) is (λ j. refl) (λ entry. refl)
    by (Station name) is never = here (Station name) is (λ j. refl) (λ entry. refl)

-- and this line has no fault for it
pub on_place : (parsed : List ParsedLine) (edit : Edit) (k : ℕ) → IsLocated parsed edit → is_height edit.what ≡ false → covers k edit ≡ true → own_fault edit.what (words_at parsed k) (home edit.what parsed k) ≡ None
on_place parsed edit k loc other h =
    let place = own_place parsed edit loc other in
    let reach = covers_at k edit h in
    let same : loc.place ≡ k = omega (arith, place.0, place.1, reach.0, reach.1) in
    subst (λ place. own_fault edit.what (words_at parsed place) (home edit.what parsed place) ≡ None) same loc.fault

-- each edit reaches its first line
pub reaches_first : (parsed : List ParsedLine) (edit : Edit) → IsLocated parsed edit → covers edit.first edit ≡ true
reaches_first parsed edit loc = by edit.what refl
  where
    alone : is_height edit.what ≡ false → covers edit.first edit ≡ true
    alone other = let place = own_place parsed edit loc other in covered edit.first edit (omega arith) (omega (arith, place.0, place.1))

    by : (what : What) → edit.what ≡ what → covers edit.first edit ≡ true
    by (Height kind reach own) is = let height = of_height parsed edit kind reach own is loc in height.all edit.first height.within (omega arith) height.here
    by (Sighted own) is = alone (ap is_height is)
    by LeftOut is = alone (ap is_height is)
    by OtherSign is = alone (ap is_height is)
    by (Target name) is = alone (ap is_height is)
    by (Station name) is = alone (ap is_height is)
