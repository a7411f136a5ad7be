-- The lines of a text in columns are ended, and none ends with a space.
use Rattle.std.proofs.Common.{◌≡◌, ◌≢◌, ◌<◌, ◌≤◌, ◌+◌, ◌/◌, ◌%◌, ◌-◌, ◌==◌, ◌&&◌, ℕ, ℤ, zero, suc, Bool, true, false, List, [], ◌∷◌, ◌++◌, decimal, if◌then◌else◌, length, nat_le, nat_lt, replicate, unsigned_abs, refl, subst, sym, ap, ◌∙◌, length-append, arith}
use Rattle.std.specs.Fmt.{digit_glyph, digits, digits_onto}
use Rattle.std.specs.Int.{is_negative}
use Rattle.std.specs.List.{flat_map, list_all}
use Rattle.std.proofs.lemmas.Bool.Decides.{nat_tests}
use Rattle.std.proofs.lemmas.List.Folds.{list_all-append}
use Rattle.th_units.specs.Metres.{last_digits, metre, metres, size_in_metres}
use Rattle.gsi_word.specs.Bytes.{is_data}
use Rattle.th_columns.specs.Columns.{left_in, line_end, right_in}
use Rattle.th_report.specs.Lines.{EndsItsLines, HasNoSpaceAtEnd}

-- a text behind this byte: no LF comes directly behind a space, and the text ends where a line begins
abbrev pub IsTidyBehind : ℕ → List ℕ → Type 0
IsTidyBehind last [] = last ≡ 10
IsTidyBehind last (byte ∷ bytes) = (byte ≡ 10 → last ≢ 32) × IsTidyBehind byte bytes

-- a text of whole lines, none of which ends with a space
pub record IsTidy (text : List ℕ) : Type 0 where
  pub behind : IsTidyBehind 10 text

tidy_behind-append : (last : ℕ) (front back : List ℕ) → IsTidyBehind last front → IsTidyBehind 10 back → IsTidyBehind last (front ++ back)
tidy_behind-append last [] back h k = subst (λ last. IsTidyBehind last back) (sym h) k
tidy_behind-append last (byte ∷ front) back h k = (h.0, tidy_behind-append byte front back h.1 k)

pub no_lines : IsTidy []
no_lines = record { behind = refl }

pub more_lines : (front back : List ℕ) → IsTidy front → IsTidy back → IsTidy (front ++ back)
more_lines front back h k = record { behind = tidy_behind-append 10 front back h.behind k.behind }

ended : (last : ℕ) (front text : List ℕ) → IsTidyBehind last text → text ≢ [] → (lines : List ℕ) × (text ≡ lines ++ 10 ∷ [])
ended last front [] h some = absurd (some refl)
ended last front (byte ∷ []) h some = ([], ap (λ byte. byte ∷ []) h.1)
ended last front (byte ∷ next ∷ bytes) h some =
    let rest = ended byte [] (next ∷ bytes) h.1 (λ e. cc e) in
    (byte ∷ rest.0, ap (λ bytes. byte ∷ bytes) rest.1)

pub tidy_is_ended : (text : List ℕ) → text ≢ [] → IsTidy text → EndsItsLines text
tidy_is_ended text some h = ended 10 [] text h.behind some

spaceless : (last : ℕ) (text before after : List ℕ) → IsTidyBehind last text → text ≢ before ++ 32 ∷ 10 ∷ after
spaceless last [] [] after h is = cc is
spaceless last [] (b ∷ before) after h is = cc is
spaceless last (byte ∷ []) [] after h is = cc is
spaceless last (byte ∷ next ∷ bytes) [] after h is =
    let first : byte ≡ 32 = cc is in
    let second : next ≡ 10 = cc is in
    h.1.0 second first
spaceless last (byte ∷ bytes) (b ∷ before) after h is =
    let rest : bytes ≡ before ++ 32 ∷ 10 ∷ after = cc is in
    spaceless byte bytes before after h.1 rest

pub tidy_has_no_space_at_end : (text : List ℕ) → IsTidy text → HasNoSpaceAtEnd text
tidy_has_no_space_at_end text h before after = spaceless 10 text before after h.behind

-- what may stand in a line, and what may stand at its end
abbrev pub printable : List ℕ → Bool
printable = list_all (nat_le 32)

abbrev pub visible : List ℕ → Bool
visible = list_all (nat_lt 32)

-- a line behind this byte, without its end: its bytes are printable, and the last one is visible
abbrev pub IsBodyBehind : ℕ → List ℕ → Type 0
IsBodyBehind last [] = 32 < last
IsBodyBehind last (byte ∷ bytes) = (32 ≤ byte) × IsBodyBehind byte bytes

-- a line without its end, wherever it begins
pub record IsBody (text : List ℕ) : Type 0 where
  pub behind : (last : ℕ) → IsBodyBehind last text

pub both : (a b : Bool) → (a && b) ≡ true → (a ≡ true) × (b ≡ true)
both true b h = (refl, h)
both false b h = cc h

printable_byte : (byte : ℕ) → nat_le 32 byte ≡ true → 32 ≤ byte
printable_byte byte h = grind (arith, nat_tests)

visible_byte : (byte : ℕ) → nat_lt 32 byte ≡ true → 32 < byte
visible_byte byte h = grind (arith, nat_tests)

visible-body : (last : ℕ) (text : List ℕ) → 32 < last → visible text ≡ true → IsBodyBehind last text
visible-body last [] h is = h
visible-body last (byte ∷ bytes) h is =
    let tests = both (nat_lt 32 byte) (visible bytes) is in
    let above = visible_byte byte tests.0 in
    (omega arith, visible-body byte bytes above tests.1)

-- a text that has bytes, all of which are visible
pub record IsSeen (text : List ℕ) : Type 0 where
  pub some : 0 < length text
  pub all : visible text ≡ true

seen-behind : (last : ℕ) (text : List ℕ) → 0 < length text → visible text ≡ true → IsBodyBehind last text
seen-behind last [] some all = absurd (omega arith)
seen-behind last (byte ∷ bytes) some all =
    let tests = both (nat_lt 32 byte) (visible bytes) all in
    let above = visible_byte byte tests.0 in
    (omega arith, visible-body byte bytes above tests.1)

pub seen_body : (text : List ℕ) → IsSeen text → IsBody text
seen_body text h = record { behind = λ last. seen-behind last text h.some h.all }

body_behind-append : (last : ℕ) (front back : List ℕ) → printable front ≡ true → IsBody back → IsBodyBehind last (front ++ back)
body_behind-append last [] back is h = h.behind last
body_behind-append last (byte ∷ front) back is h =
    let tests = both (nat_le 32 byte) (printable front) is in
    (printable_byte byte tests.0, body_behind-append byte front back tests.1 h)

pub body-append : (front back : List ℕ) → printable front ≡ true → IsBody back → IsBody (front ++ back)
body-append front back is h = record { behind = λ last. body_behind-append last front back is h }

body_line : (last : ℕ) (text : List ℕ) → IsBodyBehind last text → IsTidyBehind last (text ++ line_end)
body_line last [] h = (λ feed e. omega arith, refl)
body_line last (byte ∷ bytes) h = (λ feed e. omega (arith, h.0), body_line byte bytes h.1)

pub line_of : (text : List ℕ) → IsBody text → IsTidy (text ++ line_end)
line_of text h = record { behind = body_line 10 text (h.behind 10) }

pub empty_line : IsTidy line_end
empty_line = record { behind = (λ feed e. omega arith, refl) }

-- columns are printable
pub printable-append : (front back : List ℕ) → printable front ≡ true → printable back ≡ true → printable (front ++ back) ≡ true
printable-append front back h k = list_all-append (nat_le 32) front back ∙ ap (λ b. b && printable back) h ∙ k

printable-spaces : (count : ℕ) → printable (replicate count 32) ≡ true
printable-spaces zero = refl
printable-spaces (suc count) = printable-spaces count

pub printable-left : (width : ℕ) (text : List ℕ) → printable text ≡ true → printable (left_in width text) ≡ true
unfolding left_in
printable-left width text h = printable-append text (replicate (width - length text) 32) h (printable-spaces (width - length text))

pub printable-right : (width : ℕ) (text : List ℕ) → printable text ≡ true → printable (right_in width text) ≡ true
unfolding right_in
printable-right width text h = printable-append (replicate (width - length text) 32) text (printable-spaces (width - length text)) h

pub body-right : (width : ℕ) (text : List ℕ) → IsBody text → IsBody (right_in width text)
unfolding right_in
body-right width text h = body-append (replicate (width - length text) 32) text (printable-spaces (width - length text)) h

pub visible-printable : (text : List ℕ) → visible text ≡ true → printable text ≡ true
visible-printable [] h = refl
visible-printable (byte ∷ bytes) h =
    let tests = both (nat_lt 32 byte) (visible bytes) h in
    let above = visible_byte byte tests.0 in
    let first : nat_le 32 byte ≡ true = grind (arith, nat_tests) in
    ap (λ b. b && printable bytes) first ∙ visible-printable bytes tests.1

pub seen-printable : (text : List ℕ) → IsSeen text → printable text ≡ true
seen-printable text h = visible-printable text h.all

-- digits are seen
glyph_visible : (digit : ℕ) → digit < 10 → nat_lt 32 (digit_glyph false digit) ≡ true
glyph_visible digit small = grind (arith, nat_tests)

seen-more : (byte : ℕ) (text : List ℕ) → nat_lt 32 byte ≡ true → visible text ≡ true → IsSeen (byte ∷ text)
seen-more byte text first rest = record { some = omega arith; all = ap (λ b. b && visible text) first ∙ rest }

digits_seen : (room n : ℕ) (text : List ℕ) → IsSeen text → IsSeen (digits_onto room 10 false n text)
digits_seen zero n text h = h
digits_seen (suc room) n text h =
    let more = seen-more (digit_glyph false (n % 10)) text (glyph_visible (n % 10) (omega arith)) h.all in
    by (n / 10 == 0) more (digits_seen room (n / 10) (digit_glyph false (n % 10) ∷ text) more)
  where
    by : (last : Bool) → IsSeen (digit_glyph false (n % 10) ∷ text) → IsSeen (digits_onto room 10 false (n / 10) (digit_glyph false (n % 10) ∷ text))
        → IsSeen (if last then digit_glyph false (n % 10) ∷ text else digits_onto room 10 false (n / 10) (digit_glyph false (n % 10) ∷ text))
    by true one more = one
    by false one more = more

digits_from_none : (room n : ℕ) → IsSeen (digits_onto (suc room) 10 false n [])
digits_from_none room n =
    let one = seen-more (digit_glyph false (n % 10)) [] (glyph_visible (n % 10) (omega arith)) refl in
    by (n / 10 == 0) one (digits_seen room (n / 10) (digit_glyph false (n % 10) ∷ []) one)
  where
    by : (last : Bool) → IsSeen (digit_glyph false (n % 10) ∷ []) → IsSeen (digits_onto room 10 false (n / 10) (digit_glyph false (n % 10) ∷ []))
        → IsSeen (if last then digit_glyph false (n % 10) ∷ [] else digits_onto room 10 false (n / 10) (digit_glyph false (n % 10) ∷ []))
    by true one more = one
    by false one more = more

pub decimal_seen : (n : ℕ) → IsSeen (decimal n)
unfolding digits
decimal_seen n = digits_from_none 63 n

pub last_digits_visible : (count n : ℕ) → visible (last_digits count n) ≡ true
unfolding last_digits
last_digits_visible zero n = refl
last_digits_visible (suc count) n =
    let last : nat_lt 32 (48 + n % 10) ≡ true = grind (arith, nat_tests) in
    list_all-append (nat_lt 32) (last_digits count (n / 10)) ((48 + n % 10) ∷ [])
    ∙ ap (λ b. b && (nat_lt 32 (48 + n % 10) && true)) (last_digits_visible count (n / 10))
    ∙ ap (λ b. b && true) last

size_seen : (size : ℕ) → IsSeen (size_in_metres size)
size_seen size =
    let whole = decimal_seen (size / metre) in
    let decimals = 46 ∷ last_digits 8 (size % metre) in
    record {
      some = omega (arith, whole.some, length-append (decimal (size / metre)) decimals);
      all = list_all-append (nat_lt 32) (decimal (size / metre)) decimals ∙ ap (λ b. b && visible decimals) whole.all ∙ last_digits_visible 8 (size % metre);
    }

pub metres_seen : (n : ℤ) → IsSeen (metres n)
metres_seen n = by (is_negative n) (size_seen (unsigned_abs n))
  where
    by : (minus : Bool) → IsSeen (size_in_metres (unsigned_abs n)) → IsSeen (if minus then 45 ∷ size_in_metres (unsigned_abs n) else size_in_metres (unsigned_abs n))
    by true size = seen-more 45 (size_in_metres (unsigned_abs n)) refl size.all
    by false size = size

-- the data of words are printable
pub data_printable : (bytes : List ℕ) → list_all is_data bytes ≡ true → printable bytes ≡ true
data_printable [] is = refl
data_printable (byte ∷ bytes) is =
    let tests = both (is_data byte) (list_all is_data bytes) is in
    ap (λ b. b && printable bytes) (both (nat_le 32 byte) (nat_le byte 126) tests.0).0 ∙ data_printable bytes tests.1
