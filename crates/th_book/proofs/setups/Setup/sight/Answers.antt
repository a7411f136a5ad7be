use Rattle.std.proofs.Common.{◌≡◌, ◌≤◌, ℕ, ℤ, ◌+ℤ◌, ◌-ℤ◌, List, Option, Some, sym, ap, ◌∙◌, arith, to_z, of_z, w64}
use Rattle.std.specs.Prelude.{unsigned_abs}
use Rattle.std.proofs.lemmas.Int.{ints}
use Rattle.std.proofs.lemmas.Bool.{false≢true}
use Rattle.std.specs.Cmp.Lexicographic.{bytes_decides}
use Rattle.th_units.specs.Limits.{max_len}
use Rattle.th_book.specs.Inside.Effects.{observed_from}
use Rattle.th_book.specs.declared.setups.Setup.{Setup}
use Rattle.th_book.proofs.setups.Setup.sight.Goals as goal

-- the sum that the code computes
abbrev sum : ℤ → ℤ → ℤ → ℤ
sum sighted instrument reflector =
    to_z w64 (of_z w64 (to_z w64 (of_z w64 (to_z w64 (of_z w64 sighted) +ℤ to_z w64 (of_z w64 instrument))) -ℤ to_z w64 (of_z w64 reflector)))

-- three lengths stay far within 64 bits
sum_exact : (sighted instrument reflector : ℤ) → unsigned_abs sighted ≤ max_len → unsigned_abs instrument ≤ max_len → unsigned_abs reflector ≤ max_len → sum sighted instrument reflector ≡ sighted +ℤ instrument -ℤ reflector
sum_exact sighted instrument reflector a b c = omega (arith, ints)

-- with both heights the observation is the one from the setup
observed : (running : Option Setup) (setup : Setup) (target : List ℕ) (sighted instrument reflector given : ℤ) (book line : ℕ) → running ≡ Some setup → setup.instrument ≡ Some instrument → setup.reflector ≡ Some reflector → given ≡ sighted +ℤ instrument -ℤ reflector → record { station = setup.station; target = target; difference = given; book = book; line = line } ≡ observed_from running target sighted book line
observed running setup target sighted instrument reflector given book line runs with_instrument with_reflector exact =
    ap (λ difference. record { station = setup.station; target = target; difference = difference; book = book; line = line }) exact
    ∙ sym (ap (λ (own : Option Setup). observed_from own target sighted book line) runs
    ∙ ap (λ height. observed_from (Some (record { station = setup.station; instrument = height; reflector = setup.reflector })) target sighted book line) with_instrument
    ∙ ap (λ height. observed_from (Some (record { station = setup.station; instrument = Some instrument; reflector = height })) target sighted book line) with_reflector)

pub invariant_of-result : goal.invariant_of-result
invariant_of-result c = record {
  distinct = λ same. false≢true (c.if-eq.ensures ∙ (bytes_decides c.in_ok-setup.setup.station c.args.target).1 same);
  in_range = omega (arith, ints, c.get.ensures.in_range, c.get-2.ensures.in_range, c.get-3.ensures.in_range);
}

pub returns-clause-seen : goal.returns-clause-seen
returns-clause-seen c =
    let exact = sum_exact c.get.result c.get-2.result c.get-3.result c.get.ensures.in_range c.get-2.ensures.in_range c.get-3.ensures.in_range in
    let lengths : c.get.result +ℤ c.get-2.result -ℤ c.get-3.result ≡ c.args.sighted +ℤ c.in_ok-instrument.instrument -ℤ c.in_ok-reflector.reflector = cc in
    record { seen = λ book line. observed c.args.running c.in_ok-setup.setup c.args.target c.args.sighted c.in_ok-instrument.instrument c.in_ok-reflector.reflector _ book line c.in_ok-setup.ensures.ok_part c.in_ok-instrument.ensures.ok_part c.in_ok-reflector.ensures.ok_part (exact ∙ lengths) }
