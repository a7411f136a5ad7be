-- The running setup: its heights are those of the last lines that hold them, from its own line on.
use Rattle.std.proofs.Common.{◌≡◌, ℕ, ℤ, zero, suc, ◌<◌, ◌≤◌, Bool, true, false, cond, ◌&&◌, List, Option, Some, None, refl, sym, ap, ◌∙◌, arith}
use Rattle.std.specs.Prelude.{is_some, nat_le, option_and_then, option_map}
use Rattle.std.proofs.lemmas.Bool.{false≢true, and_left, cond-false, le-leb, lt-leb}
use Rattle.gsi_word.specs.Indexes.{reflector_height, instrument_height}
use Rattle.gsi_word.specs.Words.{Parts}
use Rattle.th_book.specs.Lines.{ParsedLine, holds, is_setup, length_in, point_name}
use Rattle.th_book.specs.Places.{holds_from, last_below, setup_of, words_at}
use Rattle.th_book.specs.Books.{known_name}
use Rattle.th_book.specs.Due.{begun, latest, setup_after, with_heights}
use Rattle.th_book.specs.Setups.{IsHeight, IsRunning, StandsAt}
use Rattle.th_book.specs.declared.setups.Setup.{Setup}

-- no place is the last where none passes
pub last_below-none : (test : ℕ → Bool) (bound : ℕ) → ((k : ℕ) → k < bound → test k ≡ false) → last_below test bound ≡ None
last_below-none test zero fails = refl
last_below-none test (suc bound) fails =
    cond-false (test bound) _ _ (fails bound (omega arith)) ∙ last_below-none test bound (λ k below. fails k (omega arith))

-- one more line from the setup's on
pub last_below-holds : (index : ℕ) (parsed : List ParsedLine) (from n : ℕ) → from ≤ n → last_below (holds_from parsed index from) (suc n) ≡ cond (holds index (words_at parsed n)) (Some n) (last_below (holds_from parsed index from) n)
last_below-holds index parsed from n after =
    ap (λ late. cond (late && holds index (words_at parsed n)) (Some n) (last_below (holds_from parsed index from) n)) (le-leb from n after)

-- the height that one more line leaves
pub IsHeight-more : (index : ℕ) (parsed : List ParsedLine) (from n : ℕ) (height : Option ℤ) → from ≤ n → IsHeight index parsed from n height → (holds index (words_at parsed n) ≡ true → is_some (length_in index (words_at parsed n)) ≡ true) → IsHeight index parsed from (suc n) (latest index (words_at parsed n) height)
IsHeight-more index parsed from n height after was read =
    let more = last_below-holds index parsed from n after in
    record {
      length = length_after (holds index (words_at parsed n)) ∙ ap (option_and_then (λ k. length_in index (words_at parsed k))) (sym more);
      there = there_after (holds index (words_at parsed n)) read ∙ ap is_some (sym more);
    }
  where
    length_after : (here : Bool) → cond here (length_in index (words_at parsed n)) height ≡ option_and_then (λ k. length_in index (words_at parsed k)) (cond here (Some n) (last_below (holds_from parsed index from) n))
    length_after true = refl
    length_after false = was.length

    there_after : (here : Bool) → (here ≡ true → is_some (length_in index (words_at parsed n)) ≡ true) → is_some (cond here (length_in index (words_at parsed n)) height) ≡ is_some (cond here (Some n) (last_below (holds_from parsed index from) n))
    there_after true r = r refl
    there_after false r = was.there

-- a new setup has no height before its own line
pub IsHeight-new : (index : ℕ) (parsed : List ParsedLine) (n : ℕ) → IsHeight index parsed n n None
IsHeight-new index parsed n =
    let none = last_below-none (holds_from parsed index n) n (λ k below. and_left (nat_le n k) (holds index (words_at parsed k)) (lt-leb n k below)) in
    record {
      length = ap (option_and_then (λ k. length_in index (words_at parsed k))) (sym none);
      there = ap is_some (sym none);
    }

-- the heights of a line can be read where it holds them
pub record AreRead (words : List Parts) : Type 0 where
  pub instrument : holds instrument_height words ≡ true → is_some (length_in instrument_height words) ≡ true
  pub reflector : holds reflector_height words ≡ true → is_some (length_in reflector_height words) ≡ true

-- a setup that stood before a line stands after it, with the line's heights
pub StandsAt-more : (parsed : List ParsedLine) (from n : ℕ) (setup : Setup) → StandsAt parsed from n setup → AreRead (words_at parsed n) → StandsAt parsed from (suc n) (with_heights (words_at parsed n) setup)
StandsAt-more parsed from n setup stands read = record {
  before = omega (arith, stands.before);
  name = stands.name;
  instrument = IsHeight-more instrument_height parsed from n setup.instrument (omega (arith, stands.before)) stands.instrument read.instrument;
  reflector = IsHeight-more reflector_height parsed from n setup.reflector (omega (arith, stands.before)) stands.reflector read.reflector;
}

-- a setup stands from its own line on
pub StandsAt-new : (parsed : List ParsedLine) (n : ℕ) → is_some (point_name (words_at parsed n)) ≡ true → AreRead (words_at parsed n) → StandsAt parsed n (suc n) (with_heights (words_at parsed n) (begun (words_at parsed n)))
StandsAt-new parsed n named read = record {
  before = omega arith;
  name = known (point_name (words_at parsed n)) named;
  instrument = IsHeight-more instrument_height parsed n n None (omega arith) (IsHeight-new instrument_height parsed n) read.instrument;
  reflector = IsHeight-more reflector_height parsed n n None (omega arith) (IsHeight-new reflector_height parsed n) read.reflector;
}
  where
    known : (name : Option (List ℕ)) → is_some name ≡ true → name ≡ Some (known_name name)
    known None h = absurd (false≢true h)
    known (Some name) h = refl

-- the running setup after one more line
pub IsRunning-more : (parsed : List ParsedLine) (n : ℕ) (setup : Option Setup) → IsRunning parsed n (setup_of parsed n) setup → (is_setup (words_at parsed n) ≡ true → is_some (point_name (words_at parsed n)) ≡ true) → AreRead (words_at parsed n) → IsRunning parsed (suc n) (setup_of parsed (suc n)) (setup_after setup (words_at parsed n))
IsRunning-more parsed n setup was named read = go (is_setup (words_at parsed n)) named
  where
    kept : (found : Option ℕ) (held : Option Setup) → IsRunning parsed n found held → IsRunning parsed (suc n) found (option_map (with_heights (words_at parsed n)) held)
    kept None None r = tt
    kept None (Some own) r = r
    kept (Some from) None r = r
    kept (Some from) (Some own) r = StandsAt-more parsed from n own r read

    go : (begins : Bool) → (begins ≡ true → is_some (point_name (words_at parsed n)) ≡ true) → IsRunning parsed (suc n) (cond begins (Some n) (setup_of parsed n)) (option_map (with_heights (words_at parsed n)) (cond begins (Some (begun (words_at parsed n))) setup))
    go true names = StandsAt-new parsed n (names refl) read
    go false names = kept (setup_of parsed n) setup was
