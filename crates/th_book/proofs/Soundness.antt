-- The lines of a book without a fault: nothing is missing from what they enter.
use Rattle.std.proofs.Common.{◌≡◌, ℕ, zero, suc, ◌+◌, ◌<◌, Bool, true, false, cond, List, [], Option, Some, None, Ok, Err, length, refl, sym, ap, ◌∙◌, arith, zero-add}
use Rattle.std.specs.Prelude.{is_some, option_map, slice_get}
use Rattle.std.specs.Option.{option_or}
use Rattle.std.specs.List.{cons_option, filter_map, range_with_len}
use Rattle.std.proofs.lemmas.Bool.{or_left, or_right}
use Rattle.std.proofs.lemmas.Option.{none-some}
use Rattle.gsi_word.specs.Indexes.{reflector_height, instrument_height}
use Rattle.gsi_word.specs.Words.{Parts}
use Rattle.th_book.specs.Lines.{ParsedLine, holds, is_setup, is_sight, length_in, point_name}
use Rattle.th_book.specs.Places.{line_at}
use Rattle.th_book.specs.Faults.{Standing, fault_at, fault_in, first_applying, first_fault, kind_at, kind_of, own_faults, sight_faults, standing_at}
use Rattle.th_book.specs.Entered.{IsSound, IsWhole, entered_by}
use Rattle.th_book.specs.declared.faults.BookKind.{BookKind}
use Rattle.th_book.proofs.EntryLemmas.{first_applying-append}
use Rattle.th_book.proofs.Faultless.{IsFaultless}
use Rattle.th_book.proofs.Keeping.{are_read}
use Rattle.th_book.proofs.EffectLemmas.{named, none_read, own_words}

-- where the first of some places gives nothing, none of them does
all_none : {X : Type 0} (gives : ℕ → Option X) (first many k : ℕ) → slice_get (filter_map gives (range_with_len first many)) 0 ≡ None → k < many → gives (first + k) ≡ None
all_none gives first zero k none within = absurd (omega (arith, within))
all_none gives first (suc many) zero none within = go (gives first) refl none
  where
    go : (given : Option _) → gives first ≡ given → slice_get (cons_option given (filter_map gives (range_with_len (first + 1) many))) 0 ≡ None → gives (first + 0) ≡ None
    go None e h = let same : first + 0 ≡ first = omega arith in ap gives same ∙ e
    go (Some x) e h = absurd (none-some x (sym h))
all_none gives first (suc many) (suc k) none within = go (gives first) none (λ later. all_none gives (first + 1) many k later (omega (arith, within)))
  where
    same : first + suc k ≡ (first + 1) + k
    same = omega arith

    go : (given : Option _) → slice_get (cons_option given (filter_map gives (range_with_len (first + 1) many))) 0 ≡ None → (slice_get (filter_map gives (range_with_len (first + 1) many)) 0 ≡ None → gives ((first + 1) + k) ≡ None) → gives (first + suc k) ≡ None
    go None h later = ap gives same ∙ later h
    go (Some x) h later = absurd (none-some x (sym h))

-- no line of a book without a fault has one
pub no_kind : (parsed : List ParsedLine) (place : ℕ) → first_fault parsed ≡ None → place < length parsed → kind_at parsed place ≡ None
no_kind parsed place none within = go (kind_at parsed place) (sym (ap (fault_at parsed) (zero-add place)) ∙ all_none (fault_at parsed) 0 (length parsed) place none within)
  where
    go : (kind : Option BookKind) → option_map (fault_in place) kind ≡ None → kind ≡ None
    go None h = refl
    go (Some kind) h = absurd (none-some _ (sym h))

-- a length is there just where a word counts for it
there : (index : ℕ) (words : List Parts) → (holds index words ≡ true → is_some (length_in index words) ≡ true) → is_some (length_in index words) ≡ holds index words
there index words read = go (holds index words) refl
  where
    go : (held : Bool) → holds index words ≡ held → is_some (length_in index words) ≡ held
    go true e = read e
    go false e = ap is_some (none_read index words e)

-- nothing is missing from what words without a fault enter
words_whole : (words : List Parts) → IsFaultless words → IsWhole words (entered_by words)
words_whole words fine = record {
  station = point (is_setup words) (point_name words) (λ is. named words fine (or_right (is_sight words) (is_setup words) is));
  target = point (is_sight words) (point_name words) (λ is. named words fine (or_left (is_sight words) (is_setup words) is));
  reflector = there reflector_height words (are_read words fine).reflector;
  instrument = there instrument_height words (are_read words fine).instrument;
}
  where
    point : (is : Bool) (name : Option (List ℕ)) → (is ≡ true → is_some name ≡ true) → is_some (cond is name None) ≡ is
    point true name some = some refl
    point false name some = refl

-- a line without a fault is sound
parsed_sound : (standing : Standing) (parsed : ParsedLine) → kind_of standing parsed ≡ None → IsSound parsed
parsed_sound standing (Err fault) h = absurd (none-some _ (sym h))
parsed_sound standing (Ok None) h = tt
parsed_sound standing (Ok (Some block)) h =
    let rows = sym (first_applying-append (own_faults block.words) (cond (is_sight block.words) (sight_faults standing (point_name block.words)) [])) ∙ h in
    let none = first_of (first_applying (own_faults block.words)) _ rows in
    record { faultless = none; whole = words_whole block.words (own_words block.words none) }
  where
    first_of : (first second : Option BookKind) → option_or first second ≡ None → first ≡ None
    first_of None second e = refl
    first_of (Some kind) second e = e

pub line_sound : (parsed : List ParsedLine) (place : ℕ) → first_fault parsed ≡ None → place < length parsed → IsSound (line_at parsed place)
line_sound parsed place none within = parsed_sound (standing_at parsed place) (line_at parsed place) (no_kind parsed place none within)
