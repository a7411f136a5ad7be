-- A printed book is read as the height sights that it was printed from, line by line.
use Rattle.std.proofs.Common.{◌≡◌, ◌+◌, ◌++◌, ◌∷◌, [], ℕ, ℤ, Bool, true, false, List, Option, Some, None, Ok, Err, IfSome, if◌then◌else◌, refl, sym, subst, ap, ◌∙◌}
use Rattle.std.specs.Prelude.{option_map, option_to_list}
use Rattle.std.proofs.lemmas.List.{append-nil}
use Rattle.gsi_word.specs.Words.{Parts}
use Rattle.th_book.specs.Books.{known, known_name}
use Rattle.th_book.specs.Due.{BookState, after_parsed, after_words, due_parsed, latest, observation_in, observed_in, setup_after, standing_in}
use Rattle.th_book.specs.Faults.{fault_in, kind_of}
use Rattle.th_book.specs.Lines.{ParsedLine, is_setup, is_sight, length_in, point_name, words_in}
use Rattle.th_observations.specs.Observed.{Observed}
use Rattle.th_book.specs.declared.faults.BookFault.{BookFault}
use Rattle.th_book.specs.declared.faults.BookKind.{BookKind}
use Rattle.th_book.specs.declared.setups.Setup.{Setup}
use Rattle.th_conversions.specs.Running.{begun, running_after, with_heights}
use Rattle.th_conversions.specs.Seen.{Point, point_in}
use Rattle.th_conversions.specs.declared.running.Running.{Running}

-- the state of a book without a fault
abbrev pub going : ℕ → ℕ → Option Setup → List Observed → ℕ → BookState
going book lines setup observations room = record { book = book; lines = lines; setup = setup; observations = observations; room = room; fault = None }

-- a setup of the printed book is the one that runs, and its station is the point of the law
pub record IsSetupOf (running : Running) (setup : Setup) (station : Point) : Type 0 where
  pub name : setup.station ≡ station.name
  pub instrument : setup.instrument ≡ running.instrument
  pub reflector : setup.reflector ≡ running.reflector
  pub height : IfSome running.station (λ own. station.height ≡ own)

abbrev pub Agrees : Option Running → Option Setup → Point → Type 0
Agrees None None station = Unit {0}
Agrees (Some running) (Some setup) station = IsSetupOf running setup station
Agrees running setup station = ⊥

-- after a fault nothing is given
faulty : (state : BookState) (fault : BookFault) (rest : List ParsedLine) → state.fault ≡ Some fault → due_parsed state rest ≡ Err fault
faulty state fault [] is = rw is refl
faulty state fault (parsed ∷ rest) is =
    let same : after_parsed state parsed ≡ state = rw is refl in
    ap (λ own. due_parsed own rest) same ∙ faulty state fault rest is

-- a line of a book that has no fault
module _ (book lines room : ℕ) (setup : Option Setup) (observations obs : List Observed) (parsed : ParsedLine) (rest : List ParsedLine) where
  abbrev before : BookState
  before = going book lines setup observations room

  abbrev seen : Option Observed
  seen = observation_in book (lines + 1) setup (words_in parsed)

  line_taken : due_parsed before (parsed ∷ rest) ≡ Ok obs
      → due_parsed (going book (lines + 1) (setup_after setup (words_in parsed)) (observations ++ option_to_list seen) room) rest ≡ Ok obs
  line_taken is = by (kind_of (standing_in setup (words_in parsed)) parsed) refl
    where
      by : (kind : Option BookKind) → kind_of (standing_in setup (words_in parsed)) parsed ≡ kind
          → due_parsed (going book (lines + 1) (setup_after setup (words_in parsed)) (observations ++ option_to_list seen) room) rest ≡ Ok obs
      by None e = sym (ap (λ kind. due_parsed (after_words before (words_in parsed) kind) rest) e) ∙ is
      by (Some kind) e =
          let bad : Err (fault_in lines kind) ≡ Ok obs =
          sym (faulty (after_words before (words_in parsed) (Some kind)) (fault_in lines kind) rest refl)
          ∙ sym (ap (λ kind. due_parsed (after_words before (words_in parsed) kind) rest) e) ∙ is in
          absurd (cc bad)

  -- a line that is no sight
  pub plain_taken : is_sight (words_in parsed) ≡ false → due_parsed before (parsed ∷ rest) ≡ Ok obs
      → due_parsed (going book (lines + 1) (setup_after setup (words_in parsed)) observations room) rest ≡ Ok obs
  plain_taken none is =
      let nothing : observations ++ option_to_list seen ≡ observations =
      ap (λ b. observations ++ option_to_list (if b then Some (observed_in book (lines + 1) (setup_after setup (words_in parsed)) (words_in parsed)) else None)) none ∙ append-nil observations in
      subst (λ (own : List Observed). due_parsed (going book (lines + 1) (setup_after setup (words_in parsed)) own room) rest ≡ Ok obs) nothing (line_taken is)

  -- a sight
  pub sight_taken : is_sight (words_in parsed) ≡ true → due_parsed before (parsed ∷ rest) ≡ Ok obs
      → due_parsed (going book (lines + 1) (setup_after setup (words_in parsed)) (observations ++ observed_in book (lines + 1) (setup_after setup (words_in parsed)) (words_in parsed) ∷ []) room) rest ≡ Ok obs
  sight_taken some is =
      let one : observations ++ option_to_list seen ≡ observations ++ observed_in book (lines + 1) (setup_after setup (words_in parsed)) (words_in parsed) ∷ [] =
      ap (λ b. observations ++ option_to_list (if b then Some (observed_in book (lines + 1) (setup_after setup (words_in parsed)) (words_in parsed)) else None)) some in
      subst (λ (own : List Observed). due_parsed (going book (lines + 1) (setup_after setup (words_in parsed)) own room) rest ≡ Ok obs) one (line_taken is)

-- ---- what runs

height_read : (height : Option ℤ) → IfSome height (λ own. known height ≡ own)
height_read None = tt
height_read (Some height) = refl

-- a block that is no sight leaves the same setup in both books
pub plain_agrees : (running : Option Running) (setup : Option Setup) (station : Point) (words : List Parts) → Agrees running setup station
    → Agrees (running_after running words) (setup_after setup words) (if is_setup words then point_in 86 words else station)
plain_agrees running setup station words agrees = by (is_setup words) running setup agrees
  where
    by : (begins : Bool) (running : Option Running) (setup : Option Setup) → Agrees running setup station
        → Agrees (option_map (with_heights words) (if begins then Some (begun words) else running))
        (option_map (λ (own : Setup). record { station = own.station; instrument = latest 88 words own.instrument; reflector = latest 87 words own.reflector })
        (if begins then Some (record { station = known_name (point_name words); instrument = None; reflector = None }) else setup))
        (if begins then point_in 86 words else station)
    by true running setup agrees = record { name = refl; instrument = refl; reflector = refl; height = height_read (length_in 86 words) }
    by false None None agrees = tt
    by false None (Some setup) agrees = absurd agrees
    by false (Some running) None agrees = absurd agrees
    by false (Some running) (Some setup) agrees = record {
      name = agrees.name;
      instrument = ap (latest 88 words) agrees.instrument;
      reflector = ap (latest 87 words) agrees.reflector;
      height = agrees.height;
    }
