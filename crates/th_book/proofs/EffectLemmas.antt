-- A block without a fault of its own words leaves what the running setup and the block's own heights give.
use Rattle.std.proofs.Common.{◌≡◌, ℕ, ℤ, Bool, true, false, not, cond, ◌&&◌, ◌||◌, List, [], Option, Some, None, refl, sym, ap, subst, ◌∙◌}
use Rattle.std.specs.Prelude.{Result, is_none, is_some, option_and_then, option_map}
use Rattle.std.specs.Option.{option_or}
use Rattle.std.specs.Result.{result_ok}
use Rattle.std.proofs.lemmas.Bool.{false≢true, true≢false, or_left, or_right}
use Rattle.gsi_word.specs.Indexes.{height_difference, station_easting, station_northing, station_height, reflector_height, instrument_height}
use Rattle.gsi_word.specs.Words.{Parts}
use Rattle.gsi_word.specs.declared.faults.LengthFault.{LengthFault}
use Rattle.th_book.specs.Lines.{holds, is_setup, is_sight, length_in, point_name}
use Rattle.th_book.specs.Faults.{first_applying, own_faults, sight_faults}
use Rattle.th_book.specs.Books.{known, known_name}
use Rattle.th_book.specs.Due.{begun, latest, observation_in, observed_in, setup_after, standing_in, with_heights}
use Rattle.th_book.specs.Inside.Countings.{first_length}
use Rattle.th_book.specs.Entered.{entered_by}
use Rattle.th_book.specs.Inside.Entries.{setup_at, setup_by, with_entry}
use Rattle.th_book.specs.Inside.Effects.{IsLeft, block_fault, entry_fault, is_seen, observation_by, observed_from, sight_fault, standing_of}
use Rattle.th_book.specs.declared.entries.Entered.{Entered}
use Rattle.th_book.specs.declared.setups.Setup.{Setup}
use Rattle.th_book.specs.declared.faults.BookKind.{BookKind}
use Rattle.th_book.proofs.CountedWords.{first_length-there}
use Rattle.th_book.proofs.EntryLemmas.{first_applying-append, read_same}
use Rattle.th_book.proofs.Faultless.{IsFaultless, held_is_read, rows_pass}
use Rattle.th_book.proofs.Running.{AreRead}
use Rattle.th_book.proofs.Keeping.{are_read}

-- no fault of the table of own faults applies
pub own_words : (words : List Parts) → first_applying (own_faults words) ≡ None → IsFaultless words
own_words words none = rows_pass words [] none

-- a sight or a setup has a name
pub named : (words : List Parts) → IsFaultless words → (is_sight words || is_setup words) ≡ true → is_some (point_name words) ≡ true
named words fine is = go (is_sight words || is_setup words) (point_name words) is fine.named
  where
    go : (needed : Bool) (name : Option (List ℕ)) → needed ≡ true → (needed && is_none name) ≡ false → is_some name ≡ true
    go true None e h = absurd (true≢false h)
    go true (Some name) e h = refl
    go false name e h = absurd (false≢true e)

-- where no word counts for an index there is no length
pub none_read : (index : ℕ) (words : List Parts) → holds index words ≡ false → length_in index words ≡ None
none_read index words none = sym (read_same index words) ∙ go (first_length index words) (first_length-there index words ∙ none)
  where
    go : (length : Option (Result ℤ LengthFault)) → is_some length ≡ false → option_and_then result_ok length ≡ None
    go None e = refl
    go (Some length) e = absurd (true≢false e)

-- the heights that the code keeps are the latest ones
latest_same : (index : ℕ) (words : List Parts) (before : Option ℤ) → (holds index words ≡ true → is_some (length_in index words) ≡ true) → option_or (length_in index words) before ≡ latest index words before
latest_same index words before read = go (holds index words) refl
  where
    kept : (length : Option ℤ) → is_some length ≡ true → option_or length before ≡ length
    kept None e = absurd (false≢true e)
    kept (Some length) e = refl

    go : (held : Bool) → holds index words ≡ held → option_or (length_in index words) before ≡ cond held (length_in index words) before
    go true e = kept (length_in index words) (read e)
    go false e = ap (λ length. option_or length before) (none_read index words e)

with_same : (words : List Parts) (setup : Setup) → AreRead words → with_entry (entered_by words) setup ≡ with_heights words setup
with_same words setup read =
    let instrument = latest_same instrument_height words setup.instrument read.instrument in
    let reflector = latest_same reflector_height words setup.reflector read.reflector in
    cc

-- the running setup after the entry of a block without a fault
pub setup_by_same : (words : List Parts) (running : Option Setup) → IsFaultless words → setup_by (entered_by words) running ≡ setup_after running words
setup_by_same words running fine =
    ap (option_map (with_entry (entered_by words))) (begins (is_setup words) (point_name words) (λ is. named words fine (or_right (is_sight words) (is_setup words) is)))
    ∙ with_all (cond (is_setup words) (Some (begun words)) running)
  where
    begins : (begins : Bool) (name : Option (List ℕ)) → (begins ≡ true → is_some name ≡ true) → option_or (option_map setup_at (cond begins name None)) running ≡ cond begins (Some (setup_at (known_name name))) running
    begins true None there = absurd (false≢true (there refl))
    begins true (Some name) there = refl
    begins false name there = refl

    with_all : (setup : Option Setup) → option_map (with_entry (entered_by words)) setup ≡ option_map (with_heights words) setup
    with_all None = refl
    with_all (Some setup) = ap (λ (own : Setup). Some own) (with_same words setup (are_read words fine))

-- in a setup with its own heights a sight finds what stands for it
standing_after : (words : List Parts) (running : Option Setup) → AreRead words → is_setup words ≡ false → standing_in running words ≡ standing_of (setup_after running words)
standing_after words running read none =
    go running ∙ ap (λ begins. standing_of (option_map (with_heights words) (cond begins (Some (begun words)) running))) (sym none)
  where
    there : (index : ℕ) (before : Option ℤ) → (holds index words ≡ true → is_some (length_in index words) ≡ true) → (holds index words || is_some before) ≡ is_some (latest index words before)
    there index before is = by_held (holds index words) is
      where
        by_held : (held : Bool) → (held ≡ true → is_some (length_in index words) ≡ true) → (held || is_some before) ≡ is_some (cond held (length_in index words) before)
        by_held true f = sym (f refl)
        by_held false f = refl

    go : (own : Option Setup) → standing_in own words ≡ standing_of (option_map (with_heights words) own)
    go None = refl
    go (Some own) =
        let instrument = there instrument_height own.instrument read.instrument in
        let reflector = there reflector_height own.reflector read.reflector in
        cc

-- a block that has a fault of its own words has it in any setup
own_fault_first : (running : Option Setup) (words : List Parts) → block_fault running words ≡ option_or (first_applying (own_faults words)) (first_applying (cond (is_sight words) (sight_faults (standing_in running words) (point_name words)) []))
own_fault_first running words = first_applying-append (own_faults words) (cond (is_sight words) (sight_faults (standing_in running words) (point_name words)) [])

-- without a fault of its own words, a block enters a target and a height difference just where it is a sight
is_seen_same : (words : List Parts) → IsFaultless words → is_seen (entered_by words) ≡ is_sight words
is_seen_same words fine =
    go (is_sight words) (point_name words) (length_in height_difference words)
    (λ is. named words fine (or_left (is_sight words) (is_setup words) is))
    (held_is_read height_difference (λ word counts. or_left _ _ counts) words fine.numbers fine.units fine.sizes)
  where
    go : (sight : Bool) (name : Option (List ℕ)) (length : Option ℤ) → (sight ≡ true → is_some name ≡ true) → (sight ≡ true → is_some length ≡ true) → (is_some (cond sight name None) && is_some length) ≡ sight
    go false name length there read = refl
    go true None length there read = absurd (false≢true (there refl))
    go true (Some name) length there read = read refl

-- the fault of a block whose own words have none
later_fault : (words : List Parts) (running setup : Option Setup) → first_applying (own_faults words) ≡ None → setup ≡ setup_by (entered_by words) running → block_fault running words ≡ entry_fault setup (entered_by words)
later_fault words running setup none left =
    own_fault_first running words
    ∙ ap (λ own. option_or own (first_applying (cond (is_sight words) (sight_faults (standing_in running words) (point_name words)) []))) none
    ∙ by_sight (is_sight words) refl
  where
    after : setup ≡ setup_after running words
    after = left ∙ setup_by_same words running (own_words words none)

    seen : is_seen (entered_by words) ≡ is_sight words
    seen = is_seen_same words (own_words words none)

    some_name : (name : Option (List ℕ)) → is_some name ≡ true → name ≡ Some (known_name name)
    some_name None e = absurd (false≢true e)
    some_name (Some name) e = refl

    by_sight : (sight : Bool) → is_sight words ≡ sight → first_applying (cond sight (sight_faults (standing_in running words) (point_name words)) []) ≡ entry_fault setup (entered_by words)
    by_sight false is = ap (λ own. cond own (sight_fault setup (known_name (entered_by words).target)) None) (sym (seen ∙ is))
    by_sight true is =
        let apart : is_setup words ≡ false = ap (λ sight. not sight && (holds station_easting words || (holds station_northing words || holds station_height words))) is in
        let there : is_some (point_name words) ≡ true = named words (own_words words none) (or_left (is_sight words) (is_setup words) is) in
        ap (λ standing. first_applying (sight_faults standing (point_name words))) (standing_after words running (are_read words (own_words words none)) apart ∙ ap standing_of (sym after))
        ∙ ap (λ own. first_applying (sight_faults (standing_of setup) own)) (some_name (point_name words) there)
        ∙ ap (λ sight. sight_fault setup (known_name (cond sight (point_name words) None))) (sym is)
        ∙ ap (λ own. cond own (sight_fault setup (known_name (entered_by words).target)) None) (sym (seen ∙ is))

-- its observation
observation_is : (words : List Parts) (running : Option Setup) → first_applying (own_faults words) ≡ None → (book line : ℕ) → observation_by (setup_by (entered_by words) running) (entered_by words) book line ≡ observation_in book line running words
observation_is words running none book line =
    ap (λ own. cond own (Some (observed_from setup (known_name (entered_by words).target) (known (entered_by words).sighted) book line)) None) (is_seen_same words fine)
    ∙ by_sight (is_sight words) refl
  where
    fine : IsFaultless words
    fine = own_words words none

    setup : Option Setup
    setup = setup_by (entered_by words) running

    by_sight : (sight : Bool) → is_sight words ≡ sight → cond sight (Some (observed_from setup (known_name (entered_by words).target) (known (entered_by words).sighted) book line)) None ≡ cond sight (Some (observed_in book line (setup_after running words) words)) None
    by_sight false is = refl
    by_sight true is =
        ap (λ own. Some (observed_from own (known_name (entered_by words).target) (known (entered_by words).sighted) book line)) (setup_by_same words running fine)
        ∙ ap (λ sight. Some (observed_from (setup_after running words) (known_name (cond sight (point_name words) None)) (known (entered_by words).sighted) book line)) is

-- what a block without a fault of its own words leaves
pub entered_left : (words : List Parts) (running : Option Setup) (entry : Entered) → first_applying (own_faults words) ≡ None → entry ≡ entered_by words → IsLeft running words entry
entered_left words running entry none enters =
    subst (IsLeft running words) (sym enters) (record {
      setup = setup_by_same words running (own_words words none);
      observation = observation_is words running none;
    })

-- and its fault is that of its entry
pub entered_fault : (words : List Parts) (running : Option Setup) (entry : Entered) → first_applying (own_faults words) ≡ None → entry ≡ entered_by words → block_fault running words ≡ entry_fault (setup_by entry running) entry
entered_fault words running entry none enters =
    subst (λ (own : Entered). block_fault running words ≡ entry_fault (setup_by own running) own) (sym enters) (later_fault words running (setup_by (entered_by words) running) none refl)

-- a block that has a fault of its own words has it
pub own_fault_of : (words : List Parts) (running : Option Setup) (kind : BookKind) → first_applying (own_faults words) ≡ Some kind → block_fault running words ≡ Some kind
own_fault_of words running kind is =
    own_fault_first running words ∙ ap (λ own. option_or own (first_applying (cond (is_sight words) (sight_faults (standing_in running words) (point_name words)) []))) is
