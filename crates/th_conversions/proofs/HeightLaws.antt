-- The observations of a printed book are those of its height sights.
use Rattle.std.proofs.Common.{◌≡◌, ◌<◌, ◌≤◌, ◌+◌, ◌++◌, ◌∷◌, [], ◌+ℤ◌, ◌-ℤ◌, ◌↔◌, ℕ, ℤ, Bool, true, false, not, ◌&&◌, ◌||◌, IfSome, List, Option, Some, None, Ok, Err, if◌then◌else◌, length, map, refl, sym, subst, ap, ◌∙◌, arith, append_assoc}
use Rattle.std.specs.Prelude.{Result, option_map}
use Rattle.std.proofs.lemmas.Int.{ints}
use Rattle.std.proofs.lemmas.List.{append-nil, map-append}
use Rattle.gsi_word.specs.Words.{Parts}
use Rattle.gsi_block.specs.Blocks.{BlockParts, IsBlock, block_at}
use Rattle.gsi_block.specs.Writing.{block_line}
use Rattle.gsi_block.proofs.RowsLaw.{row_some}
use Rattle.gsi_block.proofs.WrittenBlocks.{AreSpelled-row, IsBlock-block_line, WordHasOneSpelling}
use Rattle.th_book.specs.Books.{difference, known, known_name}
use Rattle.th_book.specs.Due.{due_parsed, latest, observed_in, setup_after}
use Rattle.th_book.specs.Due as book
use Rattle.th_book.specs.Lines.{ParsedLine, holds, is_setup, is_sight, length_in, point_name, words_in}
use Rattle.th_observations.specs.Observed.{Observed}
use Rattle.th_conversions.specs.declared.height_faults.HeightKind.{HeightKind}
use Rattle.th_book.specs.declared.setups.Setup.{Setup}
use Rattle.th_conversions.specs.Printed.{Step, parsed_line, printed_from, printed_line, sight_line, sighted, sound_line, then_lines, unless_faulty}
use Rattle.th_conversions.specs.Running.{running_after, with_heights}
use Rattle.th_conversions.specs.Seen.{HeightSight, Point, point_in, sight_of, sight_seen, sights_from}
use Rattle.th_conversions.specs.Sights.{height_fault, is_height_sight}
use Rattle.th_conversions.specs.Words.{Written, word_of, zero_unless}
use Rattle.th_conversions.specs.declared.running.Running.{Running}
use Rattle.th_conversions.proofs.FaultLemmas.{sound_no_sight}
use Rattle.th_conversions.proofs.LongerLemmas.{longer_difference, longer_instrument, longer_reflector, longer_sight}
use Rattle.th_conversions.proofs.SeenLemmas.{Agrees, IsSetupOf, going, plain_agrees, plain_taken, sight_taken}
use Rattle.th_conversions.proofs.SightLemmas.{IsSight, sight_printed, words_of, written_can}
use Rattle.th_conversions.proofs.HeightWordLemmas.{longer_some, longer_spelled}

-- words have a coordinate of a station
abbrev set_up : List Parts → Bool
set_up words = holds 84 words || (holds 85 words || holds 86 words)

-- a blank line leaves what runs
blank_after : (running : Option Running) → running ≡ running_after running []
blank_after None = refl
blank_after (Some running) = refl

-- the first word stays the first
point_same : (words a b c : List Parts) → 0 < length words → point_name (((words ++ a) ++ b) ++ c) ≡ point_name words
point_same [] a b c some = absurd (omega (arith, some))
point_same (word ∷ words) a b c some = refl

-- the difference that is seen, from the tilting axis and the two heights
seen_difference : (target station instrument reflector : ℤ) → target -ℤ station -ℤ instrument +ℤ reflector +ℤ instrument -ℤ reflector ≡ target -ℤ station
seen_difference target station instrument reflector = omega (arith, ints)

-- a sight of the printed book is the height sight
sight_is : (block : BlockParts) (running : Running) (setup : Setup) (station : Point) (height : ℤ) (written : Written) (number line : ℕ) → 0 < length block.words
    → IsSetupOf running setup station → station.height ≡ height → length_in 33 (words_of block running written) ≡ Some (sighted (known (length_in 83 block.words)) height (with_heights block.words running))
    → (after : Option Setup) → after ≡ Some (book.with_heights (words_of block running written) setup)
    → sight_seen (observed_in number line after (words_of block running written)) ≡ sight_of station (point_in 83 block.words)
sight_is block running setup station height written number line some agrees above read after is =
    let words = words_of block running written in
    let heights = with_heights block.words running in
    let instrument : known (latest 88 words setup.instrument) ≡ known heights.instrument = longer_instrument block heights written setup.instrument (ap (latest 88 block.words) (sym agrees.instrument)) in
    let reflector : known (latest 87 words setup.reflector) ≡ known heights.reflector = longer_reflector block heights written setup.reflector (ap (latest 87 block.words) (sym agrees.reflector)) in
    let target : point_name words ≡ point_name block.words = point_same block.words (zero_unless block.width 88 heights.instrument) (zero_unless block.width 87 heights.reflector) (word_of block.width 33 written ∷ []) some in
    let value = known (length_in 83 block.words) in
    let seen : difference (length_in 33 words) (latest 88 words setup.instrument) (latest 87 words setup.reflector) ≡ value -ℤ station.height =
    ap (λ (d : Option ℤ). difference d (latest 88 words setup.instrument) (latest 87 words setup.reflector)) read
    ∙ ap (λ (i : ℤ). sighted value height heights +ℤ i -ℤ known (latest 87 words setup.reflector)) instrument
    ∙ ap (λ (r : ℤ). sighted value height heights +ℤ known heights.instrument -ℤ r) reflector
    ∙ seen_difference value height (known heights.instrument) (known heights.reflector)
    ∙ ap (λ (h : ℤ). value -ℤ h) (sym above) in
    ap (λ (own : Option Setup). sight_seen (observed_in number line own words)) is
    ∙ ap (λ (name : List ℕ). made name (known_name (point_name words)) (difference (length_in 33 words) (latest 88 words setup.instrument) (latest 87 words setup.reflector))) agrees.name
    ∙ ap (λ (name : Option (List ℕ)). made station.name (known_name name) (difference (length_in 33 words) (latest 88 words setup.instrument) (latest 87 words setup.reflector))) target
    ∙ ap (made station.name (known_name (point_name block.words))) seen
  where
    made : List ℕ → List ℕ → ℤ → HeightSight
    made station target difference = record { station = station; target = target; difference = difference }

-- one more sight in front
more_sights : (observations : List Observed) (own : Observed) (sight : HeightSight) (sights : List HeightSight) → sight_seen own ≡ sight
    → map sight_seen (observations ++ own ∷ []) ++ sights ≡ map sight_seen observations ++ sight ∷ sights
more_sights observations own sight sights is =
    ap (λ front. front ++ sights) (map-append sight_seen observations (own ∷ []))
    ∙ append_assoc (map sight_seen observations) (sight_seen own ∷ []) sights
    ∙ ap (λ first. map sight_seen observations ++ first ∷ sights) is

-- an answer is what was seen before, and then the height sights of these lines
abbrev pub IsSeen : List Observed → List Observed → Point → List ParsedLine → Type 0
IsSeen obs observations station lines = map sight_seen obs ≡ map sight_seen observations ++ sights_from station lines

module _ (reads : (line : List ℕ) (block : BlockParts) → IsBlock line block → block_at (block_line block) ≡ Ok (Some block))
    (blocks : (line : List ℕ) (block : BlockParts) → (block_at line ≡ Ok (Some block)) ↔ IsBlock line block) (one : WordHasOneSpelling) where
  block_some : (line : List ℕ) (block : BlockParts) → block_at line ≡ Ok (Some block) → 0 < length block.words
  block_some line block is = let row = ((blocks line block).0 is).row in row_some block.width block.words row.0 row.2

  -- the printed line of a sight is read as its words
  read_back : (line : List ℕ) (block : BlockParts) (setup : Running) (written : Written) → block_at line ≡ Ok (Some block) → length (words_of block setup written) ≤ 64
      → block_at (block_line (record { width = block.width; words = words_of block setup written })) ≡ Ok (Some (record { width = block.width; words = words_of block setup written }))
  read_back line block setup written is few =
      let row = ((blocks line block).0 is).row in
      let long : BlockParts = record { width = block.width; words = words_of block setup written } in
      let heights = with_heights block.words setup in
      reads (block_line long) long (IsBlock-block_line long (longer_some block heights written) few
      (longer_spelled block heights written (AreSpelled-row one block.width block.words row.0 row.2)))

  -- what is seen of lines that were printed
  abbrev pub Seen : List (List ℕ) → Type 0
  Seen lines =
      (number n room place : ℕ) (running : Option Running) (setup : Option Setup) (observations obs : List Observed) (station : Point) → Agrees running setup station
      → (printed_from running place lines).1 ≡ None → due_parsed (going number n setup observations room) (map block_at (printed_from running place lines).0) ≡ Ok obs
      → IsSeen obs observations station (map block_at lines)

  -- a line that is no sight, and later ones
  plain_seen : (lines : List (List ℕ)) → Seen lines → (parsed : ParsedLine) (number n room place : ℕ) (running next : Option Running) (setup : Option Setup) (observations obs : List Observed) (station : Point)
      → Agrees running setup station → next ≡ running_after running (words_in parsed) → is_sight (words_in parsed) ≡ false → is_height_sight (words_in parsed) ≡ false
      → (printed_from next (place + 1) lines).1 ≡ None
      → due_parsed (going number n setup observations room) (parsed ∷ map block_at (printed_from next (place + 1) lines).0) ≡ Ok obs
      → IsSeen obs observations station (parsed ∷ map block_at lines)
  plain_seen lines later parsed number n room place running next setup observations obs station agrees runs none other whole due =
      let words = words_in parsed in
      let after = if is_setup words then point_in 86 words else station in
      let agrees' : Agrees next (setup_after setup words) after = subst (λ (own : Option Running). Agrees own (setup_after setup words) after) (sym runs) (plain_agrees running setup station words agrees) in
      later number (n + 1) room (place + 1) next (setup_after setup words) observations obs after agrees' whole
      (plain_taken number n room setup observations obs parsed (map block_at (printed_from next (place + 1) lines).0) none due)
      ∙ ap (λ b. map sight_seen observations ++ (if b then sight_of station (point_in 83 words) ∷ sights_from station (map block_at lines) else sights_from after (map block_at lines))) (sym other)

  -- a sight, and later lines
  sight_line_seen : (lines : List (List ℕ)) → Seen lines → (line : List ℕ) (block : BlockParts) (number n room place : ℕ) (running : Option Running) (step : Step) (setup : Option Setup) (observations obs : List Observed) (station : Point)
      → block_at line ≡ Ok (Some block) → is_sight block.words ≡ false → is_height_sight block.words ≡ true → IsSight running block step → Agrees running setup station
      → (printed_from step.1 (place + 1) lines).1 ≡ None
      → due_parsed (going number n setup observations room) (block_at step.0 ∷ map block_at (printed_from step.1 (place + 1) lines).0) ≡ Ok obs
      → IsSeen obs observations station (Ok (Some block) ∷ map block_at lines)
  sight_line_seen lines later line block number n room place running step setup observations obs station is none here sight agrees whole due =
      by setup (subst (λ (own : Option Running). Agrees own setup station) sight.runs agrees) due
    where
      by : (setup : Option Setup) → Agrees (Some sight.setup) setup station → due_parsed (going number n setup observations room) (block_at step.0 ∷ map block_at (printed_from step.1 (place + 1) lines).0) ≡ Ok obs
          → IsSeen obs observations station (Ok (Some block) ∷ map block_at lines)
      by None agrees due = absurd agrees
      by (Some setup) agrees due =
          let long : ParsedLine = Ok (Some (record { width = block.width; words = words_of block sight.setup sight.written })) in
          let rest : List ParsedLine = map block_at (printed_from step.1 (place + 1) lines).0 in
          let is_long : block_at step.0 ≡ long = ap block_at sight.line ∙ read_back line block sight.setup sight.written is sight.few in
          let heights = with_heights block.words sight.setup in
          let can = written_can block.width (sighted (known (length_in 83 block.words)) sight.station heights) sight.written sight.value in
          let seen : is_sight (words_of block sight.setup sight.written) ≡ true = longer_sight block heights sight.written in
          let after : setup_after (Some setup) (words_of block sight.setup sight.written) ≡ Some (book.with_heights (words_of block sight.setup sight.written) setup) =
          ap (λ b. option_map (book.with_heights (words_of block sight.setup sight.written)) (if not b && set_up (words_of block sight.setup sight.written) then Some (book.begun (words_of block sight.setup sight.written)) else Some setup)) seen in
          let above : station.height ≡ sight.station = subst (λ (o : Option ℤ). IfSome o (λ h. station.height ≡ h)) sight.above agrees.height in
          let read : length_in 33 (words_of block sight.setup sight.written) ≡ Some (sighted (known (length_in 83 block.words)) sight.station heights) =
          longer_difference block heights sight.written none can.0 ∙ ap Some can.1 in
          let due' : due_parsed (going number n (Some setup) observations room) (long ∷ rest) ≡ Ok obs =
          sym (ap (λ (parsed : ParsedLine). due_parsed (going number n (Some setup) observations room) (parsed ∷ rest)) is_long) ∙ due in
          let taken = sight_taken number n room (Some setup) observations obs long rest seen due' in
          let observed = observed_in number (n + 1) (setup_after (Some setup) (words_of block sight.setup sight.written)) (words_of block sight.setup sight.written) in
          let agrees' : Agrees step.1 (setup_after (Some setup) (words_of block sight.setup sight.written)) station =
          subst (λ (next : Option Running). Agrees next (setup_after (Some setup) (words_of block sight.setup sight.written)) station) (sym sight.next)
          (subst (λ (own : Option Setup). Agrees (Some (with_heights (words_of block sight.setup sight.written) sight.setup)) own station) (sym after)
          (record {
            name = agrees.name;
            instrument = ap (latest 88 (words_of block sight.setup sight.written)) agrees.instrument;
            reflector = ap (latest 87 (words_of block sight.setup sight.written)) agrees.reflector;
            height = agrees.height;
          })) in
          later number (n + 1) room (place + 1) step.1 (setup_after (Some setup) (words_of block sight.setup sight.written)) (observations ++ observed ∷ []) obs station agrees' whole taken
          ∙ more_sights observations observed (sight_of station (point_in 83 block.words)) (sights_from station (map block_at lines))
          (sight_is block sight.setup setup station sight.station sight.written number (n + 1) (block_some line block is) agrees above read (setup_after (Some setup) (words_of block sight.setup sight.written)) after)
          ∙ ap (λ b. map sight_seen observations ++ (if b then sight_of station (point_in 83 block.words) ∷ sights_from station (map block_at lines) else sights_from (if is_setup block.words then point_in 86 block.words else station) (map block_at lines))) (sym here)

  -- a line, and later ones
  line_seen : (line : List ℕ) (lines : List (List ℕ)) → Seen lines → Seen (line ∷ lines)
  line_seen line lines later number n room place running setup observations obs station agrees none due = by_step (printed_line running line) refl none due
    where
      by_sound : (step : Step) (block : BlockParts) → block_at line ≡ Ok (Some block) → height_fault block.words ≡ None → (sight : Bool) → is_height_sight block.words ≡ sight
          → (if sight then sight_line running block else Ok (line, running_after running block.words)) ≡ Ok step
          → (printed_from step.1 (place + 1) lines).1 ≡ None → due_parsed (going number n setup observations room) (block_at step.0 ∷ map block_at (printed_from step.1 (place + 1) lines).0) ≡ Ok obs
          → IsSeen obs observations station (Ok (Some block) ∷ map block_at lines)
      by_sound step block is sound true e printed whole due =
          sight_line_seen lines later line block number n room place running step setup observations obs station is (sound_no_sight block.words sound) e (sight_printed running block step printed) agrees whole due
      by_sound step block is sound false e printed whole due =
          let same : (line, running_after running block.words) ≡ step = cc in
          let next : step.1 ≡ running_after running block.words = ap (λ (s : Step). s.1) (sym same) in
          let parsed : block_at step.0 ≡ Ok (Some block) = ap (λ (s : Step). block_at s.0) (sym same) ∙ is in
          plain_seen lines later (Ok (Some block)) number n room place running step.1 setup observations obs station agrees next (sound_no_sight block.words sound) e whole
          (subst (λ (own : ParsedLine). due_parsed (going number n setup observations room) (own ∷ map block_at (printed_from step.1 (place + 1) lines).0) ≡ Ok obs) parsed due)

      by_fault : (step : Step) (block : BlockParts) → block_at line ≡ Ok (Some block) → (fault : Option HeightKind) → height_fault block.words ≡ fault
          → unless_faulty fault (sound_line running line block) ≡ Ok step
          → (printed_from step.1 (place + 1) lines).1 ≡ None → due_parsed (going number n setup observations room) (block_at step.0 ∷ map block_at (printed_from step.1 (place + 1) lines).0) ≡ Ok obs
          → IsSeen obs observations station (Ok (Some block) ∷ map block_at lines)
      by_fault step block is (Some kind) e printed whole due = absurd (cc printed)
      by_fault step block is None e printed whole due = by_sound step block is e (is_height_sight block.words) refl printed whole due

      by_parsed : (step : Step) (parsed : ParsedLine) → block_at line ≡ parsed → parsed_line running line parsed ≡ Ok step
          → (printed_from step.1 (place + 1) lines).1 ≡ None → due_parsed (going number n setup observations room) (block_at step.0 ∷ map block_at (printed_from step.1 (place + 1) lines).0) ≡ Ok obs
          → IsSeen obs observations station (parsed ∷ map block_at lines)
      by_parsed step (Err fault) is printed whole due = absurd (cc printed)
      by_parsed step (Ok None) is printed whole due =
          let same : (line, running) ≡ step = cc in
          let next : step.1 ≡ running_after running [] = ap (λ (s : Step). s.1) (sym same) ∙ blank_after running in
          let parsed : block_at step.0 ≡ Ok None = ap (λ (s : Step). block_at s.0) (sym same) ∙ is in
          plain_seen lines later (Ok None) number n room place running step.1 setup observations obs station agrees next refl refl whole
          (subst (λ (own : ParsedLine). due_parsed (going number n setup observations room) (own ∷ map block_at (printed_from step.1 (place + 1) lines).0) ≡ Ok obs) parsed due)
      by_parsed step (Ok (Some block)) is printed whole due = by_fault step block is (height_fault block.words) refl printed whole due

      by_step : (step : Result Step HeightKind) → printed_line running line ≡ step → (then_lines place step (λ next. printed_from next (place + 1) lines)).1 ≡ None
          → due_parsed (going number n setup observations room) (map block_at (then_lines place step (λ next. printed_from next (place + 1) lines)).0) ≡ Ok obs
          → IsSeen obs observations station (block_at line ∷ map block_at lines)
      by_step (Err kind) e none due = absurd (cc none)
      by_step (Ok step) e none due = by_parsed step (block_at line) refl e none due

  none_seen : Seen []
  none_seen number n room place running setup observations obs station agrees none due =
      let same : observations ≡ obs = cc in
      ap (map sight_seen) (sym same) ∙ sym (append-nil (map sight_seen observations))

  pub seen_from : (lines : List (List ℕ)) → Seen lines
  seen_from [] = none_seen
  seen_from (line ∷ lines) = line_seen line lines (seen_from lines)
