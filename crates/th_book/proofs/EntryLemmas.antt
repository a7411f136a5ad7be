-- What a block enters, and the first fault of its own words.
use Rattle.std.proofs.Common.{◌≡◌, ℕ, Bool, true, false, not, cond, ◌&&◌, ◌||◌, List, [], ◌∷◌, ◌++◌, Option, Some, None, refl, sym, ap, ◌∙◌}
use Rattle.std.specs.Prelude.{find, option_and_then, option_map}
use Rattle.std.specs.Option.{option_or}
use Rattle.std.specs.Result.{result_ok}
use Rattle.std.proofs.lemmas.Bool.{cond-false}
use Rattle.gsi_word.specs.Indexes.{height_difference, station_easting, station_northing, station_height, reflector_height, instrument_height}
use Rattle.gsi_word.specs.Words.{Parts}
use Rattle.gsi_word.specs.Values.{length_of}
use Rattle.th_book.specs.Lines.{counts_for, holds, is_setup, is_sight, length_in, point_name}
use Rattle.th_book.specs.Faults.{Row, first_applying, length_faults, own_faults, point_faults, repeats_word}
use Rattle.th_book.specs.Inside.Countings.{counted_fault, counted_in, counts_setup, counts_sight, first_length, lengths_with}
use Rattle.th_book.specs.Entered.{entered_by}
use Rattle.th_book.specs.declared.countings.Counted.{Counted}
use Rattle.th_book.proofs.CountedWords.{first_length-there}
use Rattle.th_book.proofs.RefusedLengths.{counted_fault_same}

-- of two tables the first one that has a row which applies decides
pub first_applying-append : (rows more : List Row) → first_applying (rows ++ more) ≡ option_or (first_applying rows) (first_applying more)
first_applying-append [] more = refl
first_applying-append (row ∷ rows) more = go row.0 (first_applying-append rows more)
  where
    go : (applies : Bool) → first_applying (rows ++ more) ≡ option_or (first_applying rows) (first_applying more) → cond applies (Some row.1) (first_applying (rows ++ more)) ≡ option_or (cond applies (Some row.1) (first_applying rows)) (first_applying more)
    go true later = refl
    go false later = later

-- what was counted says whether a block is a sight, or a setup
pub sight_same : (words : List Parts) (counted : Counted) → counted ≡ counted_in words → counts_sight counted ≡ is_sight words
sight_same words counted e = ap counts_sight e ∙ first_length-there height_difference words

pub setup_same : (words : List Parts) (counted : Counted) → counted ≡ counted_in words → counts_setup counted ≡ is_setup words
setup_same words counted e =
    ap counts_setup e
    ∙ ap (λ sight. not sight && (holds station_easting words || (holds station_northing words || holds station_height words))) (first_length-there height_difference words)

-- where no word is repeated, the faults of the point come before those of the lengths
own_fault : (words : List Parts) (sight setup : Bool) → repeats_word words ≡ false → sight ≡ is_sight words → setup ≡ is_setup words → first_applying (own_faults words) ≡ option_or (first_applying (point_faults (sight || setup) words)) (first_applying (length_faults words))
own_fault words sight setup once is_sight_too is_setup_too =
    cond-false (repeats_word words) _ _ once
    ∙ first_applying-append (point_faults (is_sight words || is_setup words) words) (length_faults words)
    ∙ ap (λ own. option_or (first_applying (point_faults (own || is_setup words) words)) (first_applying (length_faults words))) (sym is_sight_too)
    ∙ ap (λ own. option_or (first_applying (point_faults (sight || own) words)) (first_applying (length_faults words))) (sym is_setup_too)

-- a length that was counted is that of its first word
pub read_same : (index : ℕ) (words : List Parts) → option_and_then result_ok (first_length index words) ≡ length_in index words
read_same index words = go (find (counts_for index) words)
  where
    go : (found : Option Parts) → option_and_then result_ok (option_map length_of found) ≡ option_and_then (λ (word : Parts). result_ok (length_of word)) found
    go None = refl
    go (Some word) = refl

-- what was counted, and the point where there is one, are the entry
pub entry_same : (words : List Parts) (counted : Counted) (sight setup : Bool) (point : Option (List ℕ)) → counted ≡ counted_in words → sight ≡ is_sight words → setup ≡ is_setup words → point ≡ cond (sight || setup) (point_name words) None
    → entered_by words ≡ lengths_with (cond setup point None) (cond sight point None) counted
entry_same words counted sight setup point e is_sight_too is_setup_too named =
    let sighted = ap (λ (own : Counted). option_and_then result_ok own.sighted) e ∙ read_same height_difference words in
    let reflector = ap (λ (own : Counted). option_and_then result_ok own.reflector) e ∙ read_same reflector_height words in
    let instrument = ap (λ (own : Counted). option_and_then result_ok own.instrument) e ∙ read_same instrument_height words in
    let station : cond setup point None ≡ cond (is_setup words) (point_name words) None = ap (λ own. cond setup own None) named ∙ as_setup sight setup ∙ ap (λ own. cond own (point_name words) None) is_setup_too in
    let target : cond sight point None ≡ cond (is_sight words) (point_name words) None = ap (λ own. cond sight own None) named ∙ as_sight sight setup ∙ ap (λ own. cond own (point_name words) None) is_sight_too in
    cc
  where
    as_setup : (sight setup : Bool) → cond setup (cond (sight || setup) (point_name words) None) None ≡ cond setup (point_name words) None
    as_setup true true = refl
    as_setup true false = refl
    as_setup false true = refl
    as_setup false false = refl

    as_sight : (sight setup : Bool) → cond sight (cond (sight || setup) (point_name words) None) None ≡ cond sight (point_name words) None
    as_sight true setup = refl
    as_sight false setup = refl

-- the faults of words of which none is repeated: those of the point, if it needs a name, and then those of the lengths
pub own_faults_of : (words : List Parts) (counted : Counted) (sight setup named : Bool) → counted ≡ counted_in words → counted.repeated ≡ false → sight ≡ counts_sight counted → setup ≡ counts_setup counted → (sight || setup) ≡ named → first_applying (own_faults words) ≡ option_or (first_applying (point_faults named words)) (counted_fault counted)
own_faults_of words counted sight setup named e once is_sight is_setup needs =
    own_fault words sight setup (ap (λ (own : Counted). own.repeated) (sym e) ∙ once) (is_sight ∙ sight_same words counted e) (is_setup ∙ setup_same words counted e)
    ∙ ap (λ own. option_or (first_applying (point_faults own words)) (first_applying (length_faults words))) needs
    ∙ ap (λ own. option_or (first_applying (point_faults named words)) own) (sym (ap counted_fault e ∙ counted_fault_same words))
