-- What is known of a height sight that was printed.
use Rattle.std.proofs.Common.{◌≡◌, ◌≤◌, ◌*◌, ◌%◌, ◌^◌, ◌==◌, ◌||◌, ◌⊎◌, ℤ, Bool, true, false, List, Option, Some, None, Ok, Err, if◌then◌else◌, inl, inr, length, nat_le, nat_lt, unsigned_abs, refl, sym, subst, ap, ◌∙◌, arith}
use Rattle.std.specs.Prelude.{Result}
use Rattle.std.proofs.lemmas.Bool.Decides.{nat_tests}
use Rattle.th_units.specs.Limits.{max_len}
use Rattle.th_units.specs.Units.{step}
use Rattle.th_units.specs.declared.units.Unit.TheVariants.{HundredthMm, TenMilliFoot}
use Rattle.gsi_word.specs.Words.{Parts, data_len}
use Rattle.gsi_word.specs.declared.words.Width.{Width}
use Rattle.gsi_block.specs.Blocks.{BlockParts}
use Rattle.gsi_block.specs.Limits.{max_words}
use Rattle.gsi_block.specs.Writing.{block_line}
use Rattle.gsi_block.specs.declared.faults.BlockFault.TheVariants.{TooManyWords}
use Rattle.th_book.specs.Books.{known}
use Rattle.th_book.specs.Lines.{length_in}
use Rattle.th_book.specs.declared.faults.BookKind.TheVariants.{Block}
use Rattle.th_conversions.specs.declared.height_faults.HeightKind.{HeightKind}
use Rattle.th_conversions.specs.declared.height_faults.HeightKind.TheVariants.{Book, FarTarget, NoUnit}
use Rattle.th_conversions.specs.Printed.{Step, longer, sight_from, sight_line, sighted, with_word}
use Rattle.th_conversions.specs.Running.{with_heights}
use Rattle.th_conversions.specs.Words.{Written, if_room, number_of, written_of}
use Rattle.th_conversions.specs.declared.running.Running.{Running}
use Rattle.th_conversions.proofs.LongerLemmas.{CanBeWritten}

-- ---- the length that is written

-- a length in a unit that has room, and is a whole number of it
has_room : (width : Width) (given own : Written) → (given.unit ≡ HundredthMm) ⊎ (given.unit ≡ TenMilliFoot) → number_of given * step given.unit ≡ unsigned_abs given.length
    → if_room width given ≡ Ok own → CanBeWritten width own × (own.length ≡ given.length)
has_room width given own unit whole is = by (nat_lt max_len (unsigned_abs given.length) || nat_le (10 ^ data_len width) (number_of given)) refl
  where
    by : (none : Bool) → (nat_lt max_len (unsigned_abs given.length) || nat_le (10 ^ data_len width) (number_of given)) ≡ none → CanBeWritten width own × (own.length ≡ given.length)
    by true e =
        let bad : Err FarTarget ≡ Ok own = sym (ap (λ b. if b then Err FarTarget else Ok given) e) ∙ is in
        absurd (cc bad)
    by false e =
        let good : Ok given ≡ Ok own = sym (ap (λ b. if b then Err FarTarget else Ok given) e) ∙ is in
        let same : given ≡ own = cc in
        let can : CanBeWritten width given = record { unit = unit; small = grind (arith, nat_tests); whole = whole; room = grind (arith, nat_tests) } in
        (subst (CanBeWritten width) same can, ap (λ (w : Written). w.length) (sym same))

-- what is written of a length has that length
pub written_can : (width : Width) (length : ℤ) (own : Written) → written_of width length ≡ Ok own → CanBeWritten width own × (own.length ≡ length)
written_can width length own is = by_hundredths (unsigned_abs length % step HundredthMm == 0) refl
  where
    by_feet : (whole : Bool) → (unsigned_abs length % step TenMilliFoot == 0) ≡ whole
        → (if whole then if_room width (record { unit = TenMilliFoot; length = length }) else Err NoUnit) ≡ Ok own → CanBeWritten width own × (own.length ≡ length)
    by_feet false e is = absurd (cc is)
    by_feet true e is =
        let none : unsigned_abs length % 3048 ≡ 0 = grind (arith, nat_tests) in
        has_room width (record { unit = TenMilliFoot; length = length }) own (inr refl) (omega (arith, none)) is

    by_hundredths : (whole : Bool) → (unsigned_abs length % step HundredthMm == 0) ≡ whole → CanBeWritten width own × (own.length ≡ length)
    by_hundredths true e =
        let none : unsigned_abs length % 1000 ≡ 0 = grind (arith, nat_tests) in
        has_room width (record { unit = HundredthMm; length = length }) own (inl refl) (omega (arith, none))
        (sym (ap (λ b. if b then if_room width (record { unit = HundredthMm; length = length }) else (if unsigned_abs length % step TenMilliFoot == 0 then if_room width (record { unit = TenMilliFoot; length = length }) else Err NoUnit)) e) ∙ is)
    by_hundredths false e =
        by_feet (unsigned_abs length % step TenMilliFoot == 0) refl
        (sym (ap (λ b. if b then if_room width (record { unit = HundredthMm; length = length }) else (if unsigned_abs length % step TenMilliFoot == 0 then if_room width (record { unit = TenMilliFoot; length = length }) else Err NoUnit)) e) ∙ is)

-- ---- the sight

-- the words that a sight gets
abbrev pub words_of : BlockParts → Running → Written → List Parts
words_of block setup written = longer block (with_heights block.words setup) written

-- a height sight that was printed in this step
pub record IsSight (running : Option Running) (block : BlockParts) (step : Step) : Type 0 where
  pub setup : Running
  pub station : ℤ
  pub written : Written
  pub runs : running ≡ Some setup
  pub above : setup.station ≡ Some station
  pub value : written_of block.width (sighted (known (length_in 83 block.words)) station (with_heights block.words setup)) ≡ Ok written
  pub few : length (words_of block setup written) ≤ max_words
  pub line : step.0 ≡ block_line (record { width = block.width; words = words_of block setup written })
  pub next : step.1 ≡ Some (with_heights (words_of block setup written) setup)

pub sight_printed : (running : Option Running) (block : BlockParts) (step : Step) → sight_line running block ≡ Ok step → IsSight running block step
sight_printed None block step is = absurd (cc is)
sight_printed (Some setup) block step is = by_station setup.station refl
  where
    few_words : (station : ℤ) (written : Written) → setup.station ≡ Some station → written_of block.width (sighted (known (length_in 83 block.words)) station (with_heights block.words setup)) ≡ Ok written
        → (many : Bool) → nat_lt max_words (length (words_of block setup written)) ≡ many
        → (if many then Err (Book (Block TooManyWords)) else Ok (block_line (record { width = block.width; words = words_of block setup written }), Some (with_heights (words_of block setup written) setup))) ≡ Ok step
        → IsSight (Some setup) block step
    few_words station written above valued true e is = absurd (cc is)
    few_words station written above valued false e is =
        let same : (block_line (record { width = block.width; words = words_of block setup written }), Some (with_heights (words_of block setup written) setup)) ≡ step = cc in
        record {
          setup = setup;
          station = station;
          written = written;
          runs = refl;
          above = above;
          value = valued;
          few = grind (arith, nat_tests);
          line = ap (λ (s : Step). s.0) (sym same);
          next = ap (λ (s : Step). s.1) (sym same);
        }

    by_written : (station : ℤ) → setup.station ≡ Some station → (written : Result Written HeightKind)
        → written_of block.width (sighted (known (length_in 83 block.words)) station (with_heights block.words setup)) ≡ written
        → with_word setup block (with_heights block.words setup) written ≡ Ok step → IsSight (Some setup) block step
    by_written station above (Err kind) e is = absurd (cc is)
    by_written station above (Ok written) e is = few_words station written above e (nat_lt max_words (length (words_of block setup written))) refl is

    by_station : (station : Option ℤ) → setup.station ≡ station → IsSight (Some setup) block step
    by_station None e =
        let bad = sym (ap (sight_from setup block) e) ∙ is in
        absurd (cc bad)
    by_station (Some station) e =
        by_written station e (written_of block.width (sighted (known (length_in 83 block.words)) station (with_heights block.words setup))) refl
        (sym (ap (sight_from setup block) e) ∙ is)
