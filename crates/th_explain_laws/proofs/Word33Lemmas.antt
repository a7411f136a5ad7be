-- What was read at a sight is told by the entries that it is among.
use Rattle.std.proofs.Common.{◌≡◌, ◌+◌, ◌<◌, ◌≤◌, ◌⊎◌, inl, inr, ◌-◌, ◌==◌, ◌&&◌, ◌||◌, ℕ, zero, suc, ℤ, pos, ◌+ℤ◌, ◌-ℤ◌, Bool, true, false, not, cond, List, [], ◌∷◌, ◌++◌, Option, Some, None, Ok, length, refl, ap, ap₂, sym, subst, ◌∙◌, arith}
use Rattle.std.specs.Prelude.{All, Contains, find, nat_le, option_and_then, option_map, option_to_list, slice_index_or}
use Rattle.std.specs.Option.{option_map_or}
use Rattle.std.specs.List.{AllByRecursion, AllZip}
use Rattle.std.specs.Ordering.{int_eq}
use Rattle.std.proofs.lemmas.Int.{ints}
use Rattle.std.proofs.lemmas.Bool.{and_from, and_parts, cases_order, cond-false, eq-eqb, eqb-true, false≢true, le-leb, leb-true}
use Rattle.std.proofs.lemmas.List.Elements.{All-append, All-cons, All-contains, All-contains_itself, All-from_recursion, All-nil, All-weaker, Contains-append_cases, Contains-append_left, Contains-append_right, recursion_from_All}
use Rattle.std.proofs.lemmas.List.{get_or_past}
use Rattle.std.proofs.lemmas.Option.{none-some, same_Some}
use Rattle.gsi_word.specs.Indexes.{height_difference, station_easting, station_height, station_northing}
use Rattle.th_observations.specs.Observed.{Observed}
use Rattle.th_entries.specs.declared.entries.Entry.{Entry}
use Rattle.th_entries.specs.declared.entries.HeightKind.{HeightKind}
use Rattle.th_entries.specs.declared.entries.HeightKind.TheVariants.{Instrument, Reflector}
use Rattle.th_entries.specs.declared.reviews.BookReview.{BookReview}
use Rattle.th_entries.specs.Below.{all_below}
use Rattle.th_book.specs.Books.{book_answer, known, observed_at}
use Rattle.th_entries.specs.Reviews.{Reviews, parsed_of}
use Rattle.th_book.specs.Lines.{ParsedLine, holds, is_setup, is_sight, length_in, words_in}
use Rattle.th_book.specs.Places.{height_at, holds_from, last_below, setup_of, words_at}
use Rattle.th_entries.specs.Entries.{begins_from, continues, entries_at, entries_of, entry_at, entry_line, entry_until, index_of, last_before, length_at, uses}
use Rattle.th_entries.specs.Several.{AreObserved, entries_of_books, numbered}
use Rattle.th_reliability.specs.Sights.{in_sights}
use Rattle.th_review_rows.specs.Entries.{sights_of, entries_of as entries_in}
use Rattle.th_numbers.specs.Lists.{is_kind, is_used}
use Rattle.th_numbers.specs.Readings.{height_in, word_33}
use Rattle.th_explain_laws.specs.Word33.{AreReviews, IsWord33}

-- what laws of books and of entries say
pub record Laws : Type 0 where
  pub all : (index : ℕ) (parsed : List ParsedLine) (line last place : ℕ) → last_below (uses index parsed line) (length parsed) ≡ Some last
      → is_sight (words_at parsed place) ≡ true → line ≤ place → place ≤ last → uses index parsed line place ≡ true
  pub height : (index : ℕ) (parsed : List ParsedLine) (line place : ℕ) → uses index parsed line place ≡ true → known (height_at index parsed place) ≡ length_at index parsed line
  pub sight : (book : ℕ) (bytes : List ℕ) (observations : List Observed) (o : Observed) → book_answer book bytes ≡ Ok observations → Contains observations o
      → (place : ℕ) × (is_sight (words_at (parsed_of bytes) place) ≡ true) × (o ≡ observed_at book (parsed_of bytes) place)

-- ---- the last place that passes a test
last_passes : (test : ℕ → Bool) (bound place : ℕ) → last_below test bound ≡ Some place → (test place ≡ true) × (place < bound)
last_passes test zero place h = absurd (none-some place h)
last_passes test (suc bound) place h = go (test bound) refl h (last_passes test bound place)
  where
    go : (passes : Bool) → test bound ≡ passes → cond passes (Some bound) (last_below test bound) ≡ Some place → (last_below test bound ≡ Some place → (test place ≡ true) × (place < bound)) → (test place ≡ true) × (place < suc bound)
    go true is e below = (ap test (sym (same_Some bound place e)) ∙ is, omega (arith, same_Some bound place e))
    go false is e below = let rest = below e in (rest.0, omega (arith, rest.1))

-- there is one, at or behind each place that passes
some_last : (test : ℕ → Bool) (bound place : ℕ) → place < bound → test place ≡ true → (last : ℕ) × (last_below test bound ≡ Some last) × (place ≤ last)
some_last test zero place within passes = absurd (omega (arith, within))
some_last test (suc bound) place within passes = go (test bound) refl (cases_order place bound) (λ before. some_last test bound place before passes)
  where
    go : (here : Bool) → test bound ≡ here → (place ≡ bound) ⊎ ((place < bound) ⊎ (bound < place)) → (place < bound → (last : ℕ) × (last_below test bound ≡ Some last) × (place ≤ last))
        → (last : ℕ) × (cond here (Some bound) (last_below test bound) ≡ Some last) × (place ≤ last)
    go true is order rest = (bound, refl, omega (arith, within))
    go false is (inl equal) rest = absurd (false≢true (sym is ∙ ap test (sym equal) ∙ passes))
    go false is (inr (inl before)) rest = rest before
    go false is (inr (inr behind)) rest = absurd (omega (arith, behind, within))

-- a setup that runs at a place runs behind each line from its own on
none_last : (test : ℕ → Bool) (bound from k : ℕ) → last_below test bound ≡ Some from → from ≤ k → k < bound → last_below test (suc k) ≡ Some from
none_last test zero from k runs after below = absurd (omega (arith, below))
none_last test (suc bound) from k runs after below = go (test bound) refl runs (cases_order k bound) (none_last test bound from k)
  where
    go : (here : Bool) → test bound ≡ here → cond here (Some bound) (last_below test bound) ≡ Some from → (k ≡ bound) ⊎ ((k < bound) ⊎ (bound < k))
        → (last_below test bound ≡ Some from → from ≤ k → k < bound → last_below test (suc k) ≡ Some from) → last_below test (suc k) ≡ Some from
    go here is e (inl equal) rest = subst (λ n. last_below test (suc n) ≡ Some from) (sym equal) (subst (λ b. cond b (Some bound) (last_below test bound) ≡ Some from) (sym is) e)
    go true is e (inr (inl before)) rest = absurd (omega (arith, same_Some bound from e, after, before))
    go false is e (inr (inl before)) rest = rest e after before
    go here is e (inr (inr behind)) rest = absurd (omega (arith, behind, below))

-- where no line from a setup on begins an entry, none holds the index
nothing_held : (index : ℕ) (parsed : List ParsedLine) (from n : ℕ) → ((k : ℕ) → from ≤ k → k < n → setup_of parsed (suc k) ≡ Some from)
    → last_below (begins_from parsed index from) n ≡ None → last_below (holds_from parsed index from) n ≡ None
nothing_held index parsed from zero runs none = refl
nothing_held index parsed from (suc n) runs none =
    go (nat_le from n) (holds index (words_at parsed n)) refl refl none (nothing_held index parsed from n (λ k after below. runs k after (omega (arith, below))))
  where
    held : Option ℕ
    held = last_below (holds_from parsed index from) n

    begun : Option ℕ
    begun = last_below (begins_from parsed index from) n

    before : nat_le from n ≡ true → last_before index parsed n ≡ held
    before late = ap (option_and_then (λ own. last_below (holds_from parsed index own) n)) (runs n (leb-true from n late) (omega arith))

    free : nat_le from n ≡ true → held ≡ None → continues index parsed n ≡ false
    free late e = ap (λ found. option_map_or (λ own. int_eq (length_at index parsed own) (length_at index parsed n)) found false) (before late ∙ e)

    by : (late : nat_le from n ≡ true) → (continued : Bool) → continues index parsed n ≡ continued → cond (not continued) (Some n) begun ≡ None → (begun ≡ None → held ≡ None) → Some n ≡ None
    by late false own e rest = e
    by late true own e rest = absurd (false≢true (sym (free late (rest e)) ∙ own))

    go : (late holding : Bool) → nat_le from n ≡ late → holds index (words_at parsed n) ≡ holding → cond (late && (holding && not (continues index parsed n))) (Some n) begun ≡ None
        → (begun ≡ None → held ≡ None) → cond (late && holding) (Some n) held ≡ None
    go false holding is has e rest = rest e
    go true false is has e rest = rest e
    go true true is has e rest = by is (continues index parsed n) refl e rest

-- ---- the entry that a sight uses
-- where a sight uses no entry, it has no height
no_height : (index : ℕ) (parsed : List ParsedLine) (place : ℕ) → is_sight (words_at parsed place) ≡ true → entry_line index parsed place ≡ None → known (height_at index parsed place) ≡ pos 0
no_height index parsed place sight none = go (setup_of parsed place) refl none
  where
    unset : is_setup (words_at parsed place) ≡ false
    unset = let words = words_at parsed place in ap (λ own. not own && (holds station_easting words || (holds station_northing words || holds station_height words))) sight

    running : (from : ℕ) → setup_of parsed place ≡ Some from → setup_of parsed (suc place) ≡ Some from
    running from is = cond-false (is_setup (words_at parsed place)) (Some place) (setup_of parsed place) unset ∙ is

    go : (setup : Option ℕ) → setup_of parsed place ≡ setup → option_and_then (λ from. last_below (begins_from parsed index from) (suc place)) setup ≡ None
        → known (height_at index parsed place) ≡ pos 0
    go None is e = ap (λ own. known (option_and_then (λ k. length_in index (words_at parsed k)) (option_and_then (λ from. last_below (holds_from parsed index from) (suc place)) own))) is
    go (Some from) is e =
        ap (λ own. known (option_and_then (λ k. length_in index (words_at parsed k)) (option_and_then (λ from. last_below (holds_from parsed index from) (suc place)) own))) is
        ∙ ap (λ own. known (option_and_then (λ k. length_in index (words_at parsed k)) own)) (nothing_held index parsed from (suc place) (λ k after below. none_last (λ own. is_setup (words_at parsed own)) (suc place) from k (running from is) after below) e)

-- where an entry comes from
record IsEntry (number : ℕ) (parsed : List ParsedLine) (entry : Entry) : Type 0 where
  kind : HeightKind
  line : ℕ
  last : ℕ
  found : last_below (uses (index_of kind) parsed line) (length parsed) ≡ Some last
  is : entry ≡ entry_until number parsed kind line last

all_below_are : {X : Type 0} (P : X → Type 0) (gives : ℕ → List X) (bound : ℕ) → ((k : ℕ) → All P (gives k)) → All P (all_below gives bound)
all_below_are P gives zero all = All-nil P
all_below_are P gives (suc bound) all = All-append P (all_below gives bound) (gives bound) (all_below_are P gives bound all) (all bound)

one_entry : (number : ℕ) (parsed : List ParsedLine) (kind : HeightKind) (line : ℕ) → All (IsEntry number parsed) (option_to_list (entry_at number parsed kind line))
one_entry number parsed kind line = go (last_below (uses (index_of kind) parsed line) (length parsed)) refl
  where
    go : (found : Option ℕ) → last_below (uses (index_of kind) parsed line) (length parsed) ≡ found → All (IsEntry number parsed) (option_to_list (option_map (entry_until number parsed kind line) found))
    go None is = All-nil (IsEntry number parsed)
    go (Some last) is = All-cons (IsEntry number parsed) (entry_until number parsed kind line last) [] (record { kind = kind; line = line; last = last; found = is; is = refl }) (All-nil (IsEntry number parsed))

entries_come : (number : ℕ) (parsed : List ParsedLine) → All (IsEntry number parsed) (entries_of number parsed)
entries_come number parsed =
    all_below_are (IsEntry number parsed) (entries_at number parsed) (length parsed)
    (λ line. All-append (IsEntry number parsed) (option_to_list (entry_at number parsed Reflector line)) (option_to_list (entry_at number parsed Instrument line)) (one_entry number parsed Reflector line) (one_entry number parsed Instrument line))

-- what a place gives is among all
given_below : {X : Type 0} (gives : ℕ → List X) (bound k : ℕ) (x : X) → k < bound → Contains (gives k) x → Contains (all_below gives bound) x
given_below gives zero k x within among = absurd (omega (arith, within))
given_below gives (suc bound) k x within among = go (cases_order k bound) (λ before. given_below gives bound k x before among)
  where
    go : (k ≡ bound) ⊎ ((k < bound) ⊎ (bound < k)) → (k < bound → Contains (all_below gives bound) x) → Contains (all_below gives bound ++ gives bound) x
    go (inl equal) rest = Contains-append_right (all_below gives bound) (gives bound) x (subst (λ n. Contains (gives n) x) equal among)
    go (inr (inl before)) rest = Contains-append_left (all_below gives bound) (gives bound) x (rest before)
    go (inr (inr behind)) rest = absurd (omega (arith, behind, within))

alone : {X : Type 0} (x : X) → Contains (x ∷ []) x
alone x = (0, omega arith, refl)

the_one : {X : Type 0} (x y : X) → Contains (x ∷ []) y → x ≡ y
the_one x y among = go among.0 among.1 among.2
  where
    go : (k : ℕ) → k < 1 → slice_index_or (x ∷ []) k y ≡ y → x ≡ y
    go zero within e = e
    go (suc k) within e = absurd (omega (arith, within))

-- the entry that a sight uses is listed
listed : (number : ℕ) (parsed : List ParsedLine) (kind : HeightKind) (line last : ℕ) → line < length parsed → last_below (uses (index_of kind) parsed line) (length parsed) ≡ Some last
    → Contains (entries_of number parsed) (entry_until number parsed kind line last)
listed number parsed kind line last within found = given_below (entries_at number parsed) (length parsed) line (entry_until number parsed kind line last) within (by kind refl)
  where
    one : Contains (option_to_list (entry_at number parsed kind line)) (entry_until number parsed kind line last)
    one = subst (λ own. Contains (option_to_list (option_map (entry_until number parsed kind line) own)) (entry_until number parsed kind line last)) (sym found) (alone (entry_until number parsed kind line last))

    by : (own : HeightKind) → kind ≡ own → Contains (entries_at number parsed line) (entry_until number parsed kind line last)
    by Reflector is = Contains-append_left (option_to_list (entry_at number parsed Reflector line)) (option_to_list (entry_at number parsed Instrument line)) (entry_until number parsed kind line last)
        (subst (λ k. Contains (option_to_list (entry_at number parsed k line)) (entry_until number parsed kind line last)) is one)
    by Instrument is = Contains-append_right (option_to_list (entry_at number parsed Reflector line)) (option_to_list (entry_at number parsed Instrument line)) (entry_until number parsed kind line last)
        (subst (λ k. Contains (option_to_list (entry_at number parsed k line)) (entry_until number parsed kind line last)) is one)

-- ---- a test over kinds, books and lines
same_kind : (kind own : HeightKind) → is_kind kind own ≡ true → kind ≡ own
same_kind Instrument Instrument e = refl
same_kind Reflector Reflector e = refl
same_kind Instrument Reflector e = absurd (false≢true e)
same_kind Reflector Instrument e = absurd (false≢true e)

kind_is : (kind : HeightKind) → is_kind kind kind ≡ true
kind_is Instrument = refl
kind_is Reflector = refl

record IsUsedAt (kind : HeightKind) (o : Observed) (entry : Entry) : Type 0 where
  of_kind : entry.kind ≡ kind
  of_book : o.book ≡ entry.book
  from : entry.line ≤ o.line
  upto : o.line ≤ entry.last

used_at : (kind : HeightKind) (o : Observed) (entry : Entry) → is_used kind o entry ≡ true → IsUsedAt kind o entry
used_at kind o entry e =
    let parts = and_parts (is_kind entry.kind kind) (in_sights (sights_of entry) o) e in
    let books = and_parts (o.book == entry.book) (nat_le entry.line o.line && nat_le o.line entry.last) parts.1 in
    let lines = and_parts (nat_le entry.line o.line) (nat_le o.line entry.last) books.1 in
    record { of_kind = same_kind entry.kind kind parts.0; of_book = eqb-true o.book entry.book books.0; from = leb-true entry.line o.line lines.0; upto = leb-true o.line entry.last lines.1 }

-- ---- what is found
found_is : {X : Type 0} (test : X → Bool) (value : X → ℤ) (height : ℤ) (xs : List X) → AllByRecursion (λ x. test x ≡ true → value x ≡ height) xs → (AllByRecursion (λ x. test x ≡ false) xs → height ≡ pos 0)
    → option_map_or value (find test xs) (pos 0) ≡ height
found_is test value height [] all none = sym (none tt)
found_is {X} test value height (x ∷ xs) all none = go (test x) refl (λ here. found_is test value height xs all.1 (λ rest. none (here, rest)))
  where
    go : (passes : Bool) → test x ≡ passes → (test x ≡ false → option_map_or value (find test xs) (pos 0) ≡ height) → option_map_or value (cond passes (Some x) (find test xs)) (pos 0) ≡ height
    go true is rest = all.0 is
    go false is rest = rest is

-- ---- books with their numbers
among_books : (books : List (ℕ × List ParsedLine)) (entry : Entry) → Contains (entries_of_books books) entry → (book : ℕ × List ParsedLine) × Contains books book × Contains (entries_of book.0 book.1) entry
among_books [] entry among = absurd (omega (arith, among.1))
among_books (book ∷ books) entry among = go (Contains-append_cases (entries_of book.0 book.1) (entries_of_books books) entry among) (among_books books entry)
  where
    go : Contains (entries_of book.0 book.1) entry ⊎ Contains (entries_of_books books) entry → (Contains (entries_of_books books) entry → (own : ℕ × List ParsedLine) × Contains books own × Contains (entries_of own.0 own.1) entry)
        → (own : ℕ × List ParsedLine) × Contains (book ∷ books) own × Contains (entries_of own.0 own.1) entry
    go (inl here) rest = (book, Contains-append_left (book ∷ []) books book (alone book), here)
    go (inr later) rest = let own = rest later in (own.0, Contains-append_right (book ∷ []) books own.0 own.1, own.2)

of_books : (books : List (ℕ × List ParsedLine)) (book : ℕ × List ParsedLine) (entry : Entry) → Contains books book → Contains (entries_of book.0 book.1) entry → Contains (entries_of_books books) entry
of_books [] book entry among own = absurd (omega (arith, among.1))
of_books (first ∷ books) book entry among own = go (Contains-append_cases (first ∷ []) books book among) (λ later. of_books books book entry later own)
  where
    go : Contains (first ∷ []) book ⊎ Contains books book → (Contains books book → Contains (entries_of_books books) entry) → Contains (entries_of first.0 first.1 ++ entries_of_books books) entry
    go (inl here) rest = Contains-append_left (entries_of first.0 first.1) (entries_of_books books) entry (subst (λ (own : ℕ × List ParsedLine). Contains (entries_of own.0 own.1) entry) (sym (the_one first book here)) own)
    go (inr later) rest = Contains-append_right (entries_of first.0 first.1) (entries_of_books books) entry (rest later)

at_least : (texts : List (List ℕ)) (number : ℕ) (book : ℕ × List ParsedLine) → Contains (numbered number texts) book → number ≤ book.0
at_least [] number book among = absurd (omega (arith, among.1))
at_least (text ∷ texts) number book among = go (Contains-append_cases ((number, parsed_of text) ∷ []) (numbered (number + 1) texts) book among) (at_least texts (number + 1) book)
  where
    go : Contains ((number, parsed_of text) ∷ []) book ⊎ Contains (numbered (number + 1) texts) book → (Contains (numbered (number + 1) texts) book → (number + 1) ≤ book.0) → number ≤ book.0
    go (inl here) rest = let same = ap (λ (own : ℕ × List ParsedLine). own.0) (the_one (number, parsed_of text) book here) in omega (arith, same)
    go (inr later) rest = omega (arith, rest later)

-- books with one number are one
one_book : (texts : List (List ℕ)) (number : ℕ) (first second : ℕ × List ParsedLine) → Contains (numbered number texts) first → Contains (numbered number texts) second → first.0 ≡ second.0 → first.1 ≡ second.1
one_book [] number first second among other same = absurd (omega (arith, among.1))
one_book (text ∷ texts) number first second among other same =
    go (Contains-append_cases (own ∷ []) rest first among) (Contains-append_cases (own ∷ []) rest second other) (λ one two. one_book texts (number + 1) first second one two same)
  where
    own : ℕ × List ParsedLine
    own = (number, parsed_of text)

    rest : List (ℕ × List ParsedLine)
    rest = numbered (number + 1) texts

    go : Contains (own ∷ []) first ⊎ Contains rest first → Contains (own ∷ []) second ⊎ Contains rest second → (Contains rest first → Contains rest second → first.1 ≡ second.1) → first.1 ≡ second.1
    go (inl one) (inl two) later = ap (λ (book : ℕ × List ParsedLine). book.1) (sym (the_one own first one) ∙ the_one own second two)
    go (inl one) (inr two) later =
        let low = ap (λ (book : ℕ × List ParsedLine). book.0) (the_one own first one) in
        absurd (omega (arith, low, same, at_least texts (number + 1) second two))
    go (inr one) (inl two) later =
        let low = ap (λ (book : ℕ × List ParsedLine). book.0) (the_one own second two) in
        absurd (omega (arith, low, same, at_least texts (number + 1) first one))
    go (inr one) (inr two) later = later one two

-- an observation of books is that of a sight of one of them
record IsOfSight (books : List (ℕ × List ParsedLine)) (o : Observed) : Type 0 where
  parsed : List ParsedLine
  of_book : Contains books (o.book, parsed)
  place : ℕ
  sight : is_sight (words_at parsed place) ≡ true
  is : o ≡ observed_at o.book parsed place

observed : Laws → (texts : List (List ℕ)) (number : ℕ) (before all : List Observed) (o : Observed) → AreObserved number before texts all → Contains all o → Contains before o ⊎ IsOfSight (numbered number texts) o
observed laws [] number before all o are among = inl (subst (λ (own : List Observed). Contains own o) are among)
observed laws (text ∷ texts) number before all o are among = go (observed laws texts (number + 1) (before ++ are.0) all o are.2 among)
  where
    own : ℕ × List ParsedLine
    own = (number, parsed_of text)

    here : Contains before o ⊎ Contains are.0 o → Contains before o ⊎ IsOfSight (own ∷ numbered (number + 1) texts) o
    here (inl first) = inl first
    here (inr second) =
        let (place, sight, is) = laws.sight number text are.0 o are.1 second in
        let book : number ≡ o.book = sym (ap (λ (own : Observed). own.book) is) in
        inr (record {
          parsed = parsed_of text;
          of_book = Contains-append_left (own ∷ []) (numbered (number + 1) texts) (o.book, parsed_of text) (subst (λ n. Contains (own ∷ []) (n, parsed_of text)) book (alone own));
          place = place;
          sight = sight;
          is = is ∙ ap (λ n. observed_at n (parsed_of text) place) book;
        })

    go : Contains (before ++ are.0) o ⊎ IsOfSight (numbered (number + 1) texts) o → Contains before o ⊎ IsOfSight (own ∷ numbered (number + 1) texts) o
    go (inl early) = here (Contains-append_cases before are.0 o early)
    go (inr late) = inr (record { parsed = late.parsed; of_book = Contains-append_right (own ∷ []) (numbered (number + 1) texts) (o.book, late.parsed) late.of_book; place = late.place; sight = late.sight; is = late.is })

-- ---- the heights of a sight
within_book : (parsed : List ParsedLine) (place : ℕ) → is_sight (words_at parsed place) ≡ true → place < length parsed
within_book parsed place sight = go (cases_order place (length parsed))
  where
    past : length parsed ≤ place → ⊥
    past beyond = false≢true (ap (λ line. is_sight (words_in line)) (sym (get_or_past parsed place (Ok None) beyond)) ∙ sight)

    go : (place ≡ length parsed) ⊎ ((place < length parsed) ⊎ (length parsed < place)) → place < length parsed
    go (inl equal) = absurd (past (omega (arith, equal)))
    go (inr (inl before)) = before
    go (inr (inr behind)) = absurd (past (omega (arith, behind)))

module _ (laws : Laws) (texts : List (List ℕ)) (o : Observed) (own : IsOfSight (numbered 1 texts) o) (kind : HeightKind) where
  height : ℤ
  height = known (height_at (index_of kind) own.parsed own.place)

  line_is : o.line ≡ own.place + 1
  line_is = ap (λ (one : Observed). one.line) own.is

  -- each entry that the sight is among has this height
  each_is : (entry : Entry) → Contains (entries_of_books (numbered 1 texts)) entry → is_used kind o entry ≡ true → entry.length ≡ known (height_at (index_of kind) own.parsed own.place)
  each_is entry among used =
      let u = used_at kind o entry used in
      let (book, in_books, in_entries) = among_books (numbered 1 texts) entry among in
      let e = All-contains (IsEntry book.0 book.1) (entries_of book.0 book.1) entry (entries_come book.0 book.1) in_entries in
      let number : book.0 ≡ o.book = sym (u.of_book ∙ ap (λ (one : Entry). one.book) e.is) in
      let parsed : book.1 ≡ own.parsed = one_book texts 1 book (o.book, own.parsed) in_books own.of_book number in
      in_book (subst (λ lines. IsEntry book.0 lines entry) parsed e) u
    where
      in_book : {number : ℕ} → IsEntry number own.parsed entry → IsUsedAt kind o entry → entry.length ≡ known (height_at (index_of kind) own.parsed own.place)
      in_book e u =
          let first : entry.line ≡ e.line + 1 = ap (λ (one : Entry). one.line) e.is in
          let end : entry.last ≡ e.last + 1 = ap (λ (one : Entry). one.last) e.is in
          let uses_it = laws.all (index_of e.kind) own.parsed e.line e.last own.place e.found own.sight (omega (arith, first, line_is, u.from)) (omega (arith, end, line_is, u.upto)) in
          let same_as : e.kind ≡ kind = sym (ap (λ (one : Entry). one.kind) e.is) ∙ u.of_kind in
          ap (λ (one : Entry). one.length) e.is ∙ sym (laws.height (index_of e.kind) own.parsed e.line own.place uses_it) ∙ ap (λ k. known (height_at (index_of k) own.parsed own.place)) same_as

  -- and where it is among none, it has none
  none_is : AllByRecursion (λ entry. is_used kind o entry ≡ false) (entries_of_books (numbered 1 texts)) → known (height_at (index_of kind) own.parsed own.place) ≡ pos 0
  none_is none = go (entry_line (index_of kind) own.parsed own.place) refl
    where
      go : (found : Option ℕ) → entry_line (index_of kind) own.parsed own.place ≡ found → known (height_at (index_of kind) own.parsed own.place) ≡ pos 0
      go None is = no_height (index_of kind) own.parsed own.place own.sight is
      go (Some line) is =
          let uses_it : uses (index_of kind) own.parsed line own.place ≡ true = and_from (is_sight (words_at own.parsed own.place)) _ own.sight (ap (λ found. option_map_or (λ one. one == line) found false) is ∙ eq-eqb line line refl) in
          let before = line_before line is in
          let (last, found, upto) = some_last (uses (index_of kind) own.parsed line) (length own.parsed) own.place (within_book own.parsed own.place own.sight) uses_it in
          let entry = entry_until o.book own.parsed kind line last in
          let among = of_books (numbered 1 texts) (o.book, own.parsed) entry own.of_book (listed o.book own.parsed kind line last (omega (arith, before, within_book own.parsed own.place own.sight)) found) in
          let unused = All-contains (λ one. is_used kind o one ≡ false) (entries_of_books (numbered 1 texts)) entry (All-from_recursion (λ one. is_used kind o one ≡ false) (entries_of_books (numbered 1 texts)) none) among in
          absurd (false≢true (sym unused ∙ is_among line last before upto))
        where
          line_before : (line : ℕ) → entry_line (index_of kind) own.parsed own.place ≡ Some line → line ≤ own.place
          line_before line e = by (setup_of own.parsed own.place) e
            where
              by : (setup : Option ℕ) → option_and_then (λ from. last_below (begins_from own.parsed (index_of kind) from) (suc own.place)) setup ≡ Some line → line ≤ own.place
              by None e = absurd (none-some line e)
              by (Some from) e = let less = (last_passes (begins_from own.parsed (index_of kind) from) (suc own.place) line e).1 in omega (arith, less)

          is_among : (line last : ℕ) → line ≤ own.place → own.place ≤ last → is_used kind o (entry_until o.book own.parsed kind line last) ≡ true
          is_among line last before upto =
              and_from (is_kind kind kind) _ (kind_is kind)
              (and_from (o.book == o.book) _ (eq-eqb o.book o.book refl)
              (and_from (nat_le (line + 1) o.line) _ (le-leb (line + 1) o.line (omega (arith, before, line_is))) (le-leb o.line (last + 1) (omega (arith, upto, line_is)))))

  height_is : height_in (entries_of_books (numbered 1 texts)) kind o ≡ known (height_at (index_of kind) own.parsed own.place)
  height_is =
      let entries = entries_of_books (numbered 1 texts) in
      found_is (is_used kind o) (λ entry. entry.length) (known (height_at (index_of kind) own.parsed own.place)) entries
      (recursion_from_All (λ entry. is_used kind o entry ≡ true → entry.length ≡ known (height_at (index_of kind) own.parsed own.place)) entries
      (All-weaker (Contains entries) (λ entry. is_used kind o entry ≡ true → entry.length ≡ known (height_at (index_of kind) own.parsed own.place)) each_is entries (All-contains_itself entries)))
      none_is

-- the entries of reviews are those of the books
entries_are : (books : List (ℕ × List ParsedLine)) (reviews : List BookReview) → AllZip (λ (book : ℕ × List ParsedLine) (review : BookReview). Reviews book.0 book.1 review) books reviews → entries_in reviews ≡ entries_of_books books
entries_are [] [] are = refl
entries_are [] (review ∷ reviews) are = absurd are
entries_are (book ∷ books) [] are = absurd are
entries_are (book ∷ books) (review ∷ reviews) are = ap₂ (λ one rest. one ++ rest) are.0.entries (entries_are books reviews are.1)

summed : (read instrument reflector own other : ℤ) → own ≡ instrument → other ≡ reflector → (((read +ℤ instrument) -ℤ reflector) -ℤ own) +ℤ other ≡ read
summed read instrument reflector own other first second = omega (arith, ints, first, second)

word_33_is : Laws → (texts : List (List ℕ)) (reviews : List BookReview) (o : Observed) → IsOfSight (numbered 1 texts) o
    → AllZip (λ (book : ℕ × List ParsedLine) (review : BookReview). Reviews book.0 book.1 review) (numbered 1 texts) reviews → IsWord33 texts o (word_33 (entries_in reviews) o)
word_33_is laws texts reviews o own are = record {
  parsed = own.parsed;
  of_book = own.of_book;
  is =
      ap (λ entries. word_33 entries o) (entries_are (numbered 1 texts) reviews are)
      ∙ ap (λ difference. (difference -ℤ height_in (entries_of_books (numbered 1 texts)) Instrument o) +ℤ height_in (entries_of_books (numbered 1 texts)) Reflector o) (ap (λ (one : Observed). one.difference) own.is)
      ∙ summed (known (length_in height_difference (words_at own.parsed own.place))) (known (height_at (index_of Instrument) own.parsed own.place)) (known (height_at (index_of Reflector) own.parsed own.place))
      (height_in (entries_of_books (numbered 1 texts)) Instrument o) (height_in (entries_of_books (numbered 1 texts)) Reflector o) (height_is laws texts o own Instrument) (height_is laws texts o own Reflector)
      ∙ ap (λ place. known (length_in height_difference (words_at own.parsed place))) (back (line_is laws texts o own Instrument));
}
  where
    back : {place line : ℕ} → line ≡ place + 1 → place ≡ line - 1
    back e = omega (arith, e)

pub read_is : Laws → (texts : List (List ℕ)) (observations : List Observed) (reviews : List BookReview) (o : Observed) → AreObserved 1 [] texts observations → AreReviews texts reviews → Contains observations o
    → IsWord33 texts o (word_33 (entries_in reviews) o)
read_is laws texts observations reviews o are reviewed among = go (observed laws texts 1 [] observations o are among)
  where
    go : Contains [] o ⊎ IsOfSight (numbered 1 texts) o → IsWord33 texts o (word_33 (entries_in reviews) o)
    go (inl none) = absurd (omega (arith, none.1))
    go (inr own) = word_33_is laws texts reviews o own reviewed
