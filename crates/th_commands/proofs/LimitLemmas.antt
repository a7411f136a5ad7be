use Rattle.std.proofs.Common.{◌≡◌, ◌<◌, ◌≤◌, ◌*◌, ◌^◌, ◌∙◌, inl, inr, ℕ, Bool, true, false, List, [], ◌∷◌, Option, Some, None, Ok, Err, Result, length, ap, refl, arith, nat_lt, lt-ltb, ltb-true}
use Rattle.std.specs.Borrow.{Bor}
use Rattle.std.specs.Prelude.{◌-◌, eqb, nat_le, option_map, take}
use Rattle.std.specs.List.{ends_with, list_all}
use Rattle.std.specs.Option.{MatchOption}
use Rattle.std.specs.Char.{digit_value}
use Rattle.std.specs.Str.Parse.{AllDigits, ExplainsUnsignedError, HasUnsignedDigitsIfOk, ParsesUnsigned, digits_value, without_leading_plus}
use Rattle.std.specs.Str.Pattern.{FindsTextSuffix, StripsSuffix}
use Rattle.std.specs.declared.num.ParseIntError.{ParseIntError}
use Rattle.std.proofs.Math.Nat.{le-mul_of_pos_right, mul_comm}
use Rattle.std.proofs.lemmas.Bool.{cases_Bool, leb-true}
use Rattle.std.proofs.lemmas.Bool.Decides.{Decides-eqb}
use Rattle.std.proofs.lemmas.Slice.Eq.{ends_is}
use Rattle.clap.specs.ValueTests.{is_numeral}
use Rattle.clap.specs.Words.{Text}
use Rattle.clap.proofs.WalkLemmas.{both}
use Rattle.th_commands.specs.BlunderLimits.{before_end, limit_in_unit, limit_of}
use Rattle.th_commands.specs.PlanLimits.{max_blunder}

digits_pass : (ds : List ℕ) → AllDigits 10 ds → list_all (λ d. nat_lt (digit_value d) 10) ds ≡ true
digits_pass [] h = refl
digits_pass (d ∷ ds) h = rw (lt-ltb (digit_value d) 10 h.0) (digits_pass ds h.1)

digits_from : (ds : List ℕ) → list_all (λ d. nat_lt (digit_value d) 10) ds ≡ true → AllDigits 10 ds
digits_from [] e = tt
digits_from (d ∷ ds) e =
    let parts = both _ _ e in
    (ltb-true _ _ parts.0, digits_from ds parts.1)

-- a number that no 32 bits hold is no limit
pub no_limit : (n : ℕ) → (n < 2 ^ 32 → ⊥) → None ≡ limit_of n
no_limit n large = go (nat_le n max_blunder) refl
  where
    go : (b : Bool) → nat_le n max_blunder ≡ b → None ≡ limit_of n
    go false e = rw e refl
    go true e =
        let few : n ≤ max_blunder = leb-true _ _ e in
        absurd (large (omega (arith, few)))

-- what `parse` gives of a text at a number of 32 bits
abbrev pub Reads : List ℕ → Result ℕ ParseIntError → Type 0
Reads text r = ParsesUnsigned 32 10 text r × ExplainsUnsignedError 10 text r × HasUnsignedDigitsIfOk text r

-- a text that is read gives the limit of so many of the unit
pub limit_of_number : (unit : ℕ) (text : Text) (n : ℕ) → Reads text (Ok n) → limit_of (unit * n) ≡ limit_in_unit unit text
limit_of_number unit text n h =
    let ds = without_leading_plus text in
    rw (lt-ltb 0 (length ds) h.0.0.0.0, digits_pass ds h.0.0.0.1) (ap (λ (own : ℕ). limit_of (unit * own)) h.0.1)

-- a number too large for 32 bits is so, too, in units of a micrometre or more
large_in_unit : (unit n : ℕ) → 0 < unit → (n < 2 ^ 32 → ⊥) → unit * n < 2 ^ 32 → ⊥
large_in_unit unit n some large small = large (omega (arith, le-mul_of_pos_right n some, mul_comm n unit, small))

-- and a text that isn't gives none
pub limit_of_no_number : (unit : ℕ) (text : Text) (e : ParseIntError) → 0 < unit → Reads text (Err e) → None ≡ limit_in_unit unit text
limit_of_no_number unit text e some h = go (is_numeral (without_leading_plus text)) refl
  where
    go : (b : Bool) → is_numeral (without_leading_plus text) ≡ b → None ≡ limit_in_unit unit text
    go false t = rw t refl
    go true t =
        let ds = without_leading_plus text in
        let parts = both _ _ t in
        rw t (no_limit (unit * digits_value 10 ds) (large_in_unit unit (digits_value 10 ds) some (λ small. h.0 ((ltb-true _ _ parts.0, digits_from ds parts.1), small))))

-- a text without this end, as it is stripped, is what it has before this end
pub before_end_is : (end text : Text) (found : Option (Bor Text)) → MatchOption found (FindsTextSuffix end text None) (λ own. StripsSuffix (FindsTextSuffix end) text own.now)
    → option_map (λ own. own.now) found ≡ before_end end text
before_end_is end text None other =
    let none : ends_with eqb text end ≡ false = elim (cases_Bool (ends_with eqb text end)) [
      | inl ends ↦ absurd (other _ ((ends_is Decides-eqb text end _ refl).0 ends))
      | inr differs ↦ differs
    ] in
    rw none refl
before_end_is end text (Some own) stripped =
    let is : ends_with eqb text end ≡ true = (ends_is Decides-eqb text end _ refl).1 _ stripped.1.1 in
    rw is (ap Some (stripped.2 ∙ ap (λ (n : ℕ). take (length text - n) text) stripped.1.0))
