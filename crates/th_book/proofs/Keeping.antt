-- What a book holds after some of its lines is what stands at that place of the book.
use Rattle.std.proofs.Common.{◌≡◌, ℕ, ℤ, zero, suc, ◌+◌, ◌<◌, Bool, true, false, not, cond, ◌&&◌, ◌||◌, List, [], ◌∷◌, ◌++◌, length, drop, map, filter, Option, Some, None, Ok, Err, refl, sym, ap, ◌∙◌, subst, arith, add-one}
use Rattle.std.specs.Prelude.{is_some, is_none, option_and_then, option_map, option_to_list, slice_get}
use Rattle.std.specs.List.{cons_option, range_with_len, filter_map}
use Rattle.std.proofs.Math.Seq.{drop-cons}
use Rattle.std.proofs.lemmas.List.{drop_all, map-append, append-nil}
use Rattle.std.proofs.lemmas.List.Elements.{filter-append}
use Rattle.std.proofs.lemmas.Bool.{false≢true, true≢false, or_left, or_right}
use Rattle.gsi_word.specs.Indexes.{height_difference, reflector_height, instrument_height}
use Rattle.gsi_word.specs.Words.{Parts}
use Rattle.th_book.specs.Lines.{ParsedLine, holds, is_setup, is_sight, length_in, point_name}
use Rattle.th_book.specs.Places.{holds_from, last_below, line_at, setup_of, words_at}
use Rattle.th_book.specs.Faults.{fault_at, fault_in, kind_at, kind_of, standing_at}
use Rattle.th_book.specs.Books.{answer, answer_of, difference, known_name, observations_of, observed_at}
use Rattle.th_book.specs.Due.{BookState, begun, after_parsed, after_unless, after_words, due_parsed, empty, observation_in, observed_in, setup_after, standing_in, with_heights}
use Rattle.th_book.specs.declared.setups.Setup.{Setup}
use Rattle.th_book.specs.declared.faults.BookKind.{BookKind}
use Rattle.th_book.specs.declared.faults.BookFault.{BookFault}
use Rattle.th_book.proofs.Faultless.{IsFaultless, faultless, held_is_read}
use Rattle.th_book.specs.Setups.{IsHeight, IsRunning}
use Rattle.th_book.specs.Witnesses.{Keeps}
use Rattle.th_book.proofs.Running.{AreRead, IsRunning-more, StandsAt-more, last_below-holds}

-- in a running setup a sight finds what stands at its place
standing_same : (parsed : List ParsedLine) (n : ℕ) (setup : Option Setup) → IsRunning parsed n (setup_of parsed n) setup → standing_in setup (words_at parsed n) ≡ standing_at parsed n
standing_same parsed n setup was = go (setup_of parsed n) setup was
  where
    found_or_before : (here : Bool) (height : Option ℤ) (before : Option ℕ) → is_some height ≡ is_some before → (here || is_some height) ≡ is_some (cond here (Some n) before)
    found_or_before true height before e = refl
    found_or_before false height before e = e

    there : (index from : ℕ) (height : Option ℤ) → from < n → IsHeight index parsed from n height → (holds index (words_at parsed n) || is_some height) ≡ is_some (last_below (holds_from parsed index from) (suc n))
    there index from height before is =
        found_or_before (holds index (words_at parsed n)) height (last_below (holds_from parsed index from) n) is.there
        ∙ ap is_some (sym (last_below-holds index parsed from n (omega arith)))

    go : (found : Option ℕ) (held : Option Setup) → IsRunning parsed n found held → standing_in held (words_at parsed n) ≡ record {
      setup = is_some found;
      instrument = is_some (option_and_then (λ from. last_below (holds_from parsed instrument_height from) (suc n)) found);
      reflector = is_some (option_and_then (λ from. last_below (holds_from parsed reflector_height from) (suc n)) found);
      station = option_and_then (λ from. point_name (words_at parsed from)) found;
    }
    go None None r = refl
    go None (Some own) r = absurd r
    go (Some from) None r = absurd r
    go (Some from) (Some own) r =
        let instrument = there instrument_height from own.instrument r.before r.instrument in
        let reflector = there reflector_height from own.reflector r.before r.reflector in
        let station = sym r.name in
        cc

-- the observation of a sight in a running setup is that at its place
observed_same : (book : ℕ) (parsed : List ParsedLine) (n : ℕ) (setup : Option Setup) → IsRunning parsed n (setup_of parsed n) setup → AreRead (words_at parsed n) → is_setup (words_at parsed n) ≡ false → observed_in book (n + 1) (setup_after setup (words_at parsed n)) (words_at parsed n) ≡ observed_at book parsed n
observed_same book parsed n setup was read none =
    ap (λ begins. observed_in book (n + 1) (option_map (with_heights (words_at parsed n)) (cond begins (Some (begun (words_at parsed n))) setup)) (words_at parsed n)) none
    ∙ go (setup_of parsed n) setup was
  where
    go : (found : Option ℕ) (held : Option Setup) → IsRunning parsed n found held → observed_in book (n + 1) (option_map (with_heights (words_at parsed n)) held) (words_at parsed n) ≡ record {
      station = known_name (option_and_then (λ from. point_name (words_at parsed from)) found);
      target = known_name (point_name (words_at parsed n));
      difference = difference
          (length_in height_difference (words_at parsed n))
          (option_and_then (λ k. length_in instrument_height (words_at parsed k)) (option_and_then (λ from. last_below (holds_from parsed instrument_height from) (suc n)) found))
          (option_and_then (λ k. length_in reflector_height (words_at parsed k)) (option_and_then (λ from. last_below (holds_from parsed reflector_height from) (suc n)) found));
      book = book;
      line = n + 1;
    }
    go None None r = refl
    go None (Some own) r = absurd r
    go (Some from) None r = absurd r
    go (Some from) (Some own) r =
        let stands = StandsAt-more parsed from n own r read in
        let instrument = stands.instrument.length in
        let reflector = stands.reflector.length in
        let station = stands.name in
        cc

-- one more number of a range
range_more : (a n : ℕ) → range_with_len a (suc n) ≡ range_with_len a n ++ (a + n) ∷ []
range_more a zero = let e : a ≡ a + 0 = omega arith in ap (λ k. k ∷ []) e
range_more a (suc n) = let e : (a + 1) + n ≡ a + suc n = omega arith in ap (λ rest. a ∷ rest) (range_more (a + 1) n ∙ ap (λ k. range_with_len (a + 1) n ++ k ∷ []) e)

-- what is state after a line, by the kind of fault at its place
after_is : (book : ℕ) (parsed : List ParsedLine) (n : ℕ) (state : BookState) (kind : Option BookKind) → Keeps book parsed n state → kind_at parsed n ≡ kind → after_parsed state (line_at parsed n) ≡ after_words state (words_at parsed n) kind
after_is book parsed n state kind keeps e =
    ap (λ fault. after_unless fault state (line_at parsed n)) keeps.faultless
    ∙ ap (after_words state (words_at parsed n)) (ap (λ standing. kind_of standing (line_at parsed n)) (standing_same parsed n state.setup keeps.setup) ∙ e)

-- the heights of a line without a fault can be read
pub are_read : (words : List Parts) → IsFaultless words → AreRead words
are_read words fine = record {
  instrument = held_is_read instrument_height (λ word counts. or_right _ _ (or_right _ _ counts)) words fine.numbers fine.units fine.sizes;
  reflector = held_is_read reflector_height (λ word counts. or_right _ _ (or_left _ _ counts)) words fine.numbers fine.units fine.sizes;
}

-- a setup without a fault has a name
setup_named : (sight setup : Bool) (name : Option (List ℕ)) → ((sight || setup) && is_none name) ≡ false → setup ≡ true → is_some name ≡ true
setup_named sight setup None h e = absurd (true≢false (sym (ap (λ named. named && true) (or_right sight setup e)) ∙ h))
setup_named sight setup (Some name) h e = refl

-- no sight is a setup
sight_alone : (sight other : Bool) → sight ≡ true → (not sight && other) ≡ false
sight_alone true other e = refl
sight_alone false other e = absurd (false≢true e)

-- the observations after a line without a fault are those of one place more
observations_same : (book : ℕ) (parsed : List ParsedLine) (n : ℕ) (state : BookState) → Keeps book parsed n state → AreRead (words_at parsed n) → state.observations ++ option_to_list (observation_in state.book (state.lines + 1) state.setup (words_at parsed n)) ≡ map (observed_at book parsed) (filter (λ place. is_sight (words_at parsed place)) (range_with_len 0 (suc n)))
observations_same book parsed n state keeps read = go (is_sight (words_at parsed n)) refl ∙ ap (map (observed_at book parsed)) (sym filtered)
  where
    filtered : filter (λ place. is_sight (words_at parsed place)) (range_with_len 0 (suc n)) ≡ filter (λ place. is_sight (words_at parsed place)) (range_with_len 0 n) ++ cond (is_sight (words_at parsed n)) (n ∷ []) []
    filtered =
        let here : 0 + n ≡ n = omega arith in
        ap (filter (λ place. is_sight (words_at parsed place))) (range_more 0 n ∙ ap (λ k. range_with_len 0 n ++ k ∷ []) here)
        ∙ filter-append (λ place. is_sight (words_at parsed place)) (range_with_len 0 n) (n ∷ [])

    same : is_sight (words_at parsed n) ≡ true → observed_in state.book (state.lines + 1) (setup_after state.setup (words_at parsed n)) (words_at parsed n) ≡ observed_at book parsed n
    same sight =
        ap (λ number. observed_in number (state.lines + 1) (setup_after state.setup (words_at parsed n)) (words_at parsed n)) keeps.book
        ∙ ap (λ lines. observed_in book (lines + 1) (setup_after state.setup (words_at parsed n)) (words_at parsed n)) keeps.lines
        ∙ observed_same book parsed n state.setup keeps.setup read (sight_alone _ _ sight)

    go : (sight : Bool) → is_sight (words_at parsed n) ≡ sight → state.observations ++ option_to_list (cond sight (Some (observed_in state.book (state.lines + 1) (setup_after state.setup (words_at parsed n)) (words_at parsed n))) None) ≡ map (observed_at book parsed) (filter (λ place. is_sight (words_at parsed place)) (range_with_len 0 n) ++ cond sight (n ∷ []) [])
    go true e =
        ap (λ before. before ++ observed_in state.book (state.lines + 1) (setup_after state.setup (words_at parsed n)) (words_at parsed n) ∷ []) keeps.observations
        ∙ ap (λ last. map (observed_at book parsed) (filter (λ place. is_sight (words_at parsed place)) (range_with_len 0 n)) ++ last ∷ []) (same e)
        ∙ sym (map-append (observed_at book parsed) (filter (λ place. is_sight (words_at parsed place)) (range_with_len 0 n)) (n ∷ []))
    go false e = append-nil state.observations ∙ keeps.observations ∙ ap (map (observed_at book parsed)) (sym (append-nil _))

-- after a line without a fault a book holds what stands at the next place
pub Keeps-more : (book : ℕ) (parsed : List ParsedLine) (n : ℕ) (state : BookState) → Keeps book parsed n state → kind_at parsed n ≡ None → Keeps book parsed (suc n) (after_parsed state (line_at parsed n))
Keeps-more book parsed n state keeps e =
    subst
    (Keeps book parsed (suc n))
    (sym (after_is book parsed n state None keeps e))
    (record {
      book = keeps.book;
      lines = omega (arith, keeps.lines);
      faultless = refl;
      setup = IsRunning-more parsed n state.setup keeps.setup (setup_named (is_sight (words_at parsed n)) (is_setup (words_at parsed n)) (point_name (words_at parsed n)) fine.named) read;
      observations = observations_same book parsed n state keeps read;
    })
  where
    fine : IsFaultless (words_at parsed n)
    fine = faultless (standing_at parsed n) (line_at parsed n) e

    read : AreRead (words_at parsed n)
    read = are_read (words_at parsed n) fine

-- once a fault was found it stays due
pub fault_stays_due : (fault : BookFault) (state : BookState) (rest : List ParsedLine) → state.fault ≡ Some fault → due_parsed state rest ≡ Err fault
fault_stays_due fault state [] e = ap (λ found. answer found state.observations) e
fault_stays_due fault state (parsed ∷ rest) e =
    ap (λ found. due_parsed (after_unless found state parsed) rest) e ∙ fault_stays_due fault state rest e

-- the lines from a place on, in a book that holds what stands there, give the first fault among them or all observations
due_from : (book : ℕ) (parsed : List ParsedLine) (left n : ℕ) (state : BookState) → n + left ≡ length parsed → Keeps book parsed n state → due_parsed state (drop n parsed) ≡ answer (slice_get (filter_map (fault_at parsed) (range_with_len n left)) 0) (observations_of book parsed)
due_from book parsed zero n state e keeps =
    let end : length parsed ≡ n = omega (arith, e) in
    ap (due_parsed state) (drop_all n parsed (omega arith))
    ∙ ap (λ found. answer found state.observations) keeps.faultless
    ∙ ap Ok (keeps.observations ∙ ap (λ many. map (observed_at book parsed) (filter (λ place. is_sight (words_at parsed place)) (range_with_len 0 many))) (sym end))
due_from book parsed (suc left) n state e keeps =
    ap (due_parsed state) (drop-cons parsed n (Ok None) (omega (arith, e)))
    ∙ go (kind_at parsed n) refl (λ further. due_from book parsed left (suc n) (after_parsed state (line_at parsed n)) (omega (arith, e)) (Keeps-more book parsed n state keeps further))
  where
    go : (kind : Option BookKind) → kind_at parsed n ≡ kind → (kind_at parsed n ≡ None → due_parsed (after_parsed state (line_at parsed n)) (drop (suc n) parsed) ≡ answer (slice_get (filter_map (fault_at parsed) (range_with_len (suc n) left)) 0) (observations_of book parsed)) → due_parsed (after_parsed state (line_at parsed n)) (drop (suc n) parsed) ≡ answer (slice_get (cons_option (option_map (fault_in n) kind) (filter_map (fault_at parsed) (range_with_len (n + 1) left))) 0) (observations_of book parsed)
    go (Some kind) is later =
        let faulty = after_is book parsed n state (Some kind) keeps is in
        let found : (after_parsed state (line_at parsed n)).fault ≡ Some (fault_in n kind) = ap (λ (after : BookState). after.fault) faulty ∙ ap (λ lines. Some (fault_in lines kind)) keeps.lines in
        fault_stays_due (fault_in n kind) (after_parsed state (line_at parsed n)) (drop (suc n) parsed) found
    go None is later = later is ∙ ap (λ k. answer (slice_get (filter_map (fault_at parsed) (range_with_len k left)) 0) (observations_of book parsed)) (sym (add-one n))

-- what is due from a new book is what its lines give
pub new_book_due : (book : ℕ) (parsed : List ParsedLine) → due_parsed (empty book) parsed ≡ answer_of book parsed
new_book_due book parsed =
    let all : 0 + length parsed ≡ length parsed = omega arith in
    due_from book parsed (length parsed) 0 (empty book) all (record { book = refl; lines = refl; faultless = refl; setup = tt; observations = refl })
