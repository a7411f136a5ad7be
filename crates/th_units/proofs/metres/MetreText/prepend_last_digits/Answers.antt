use Rattle.std.proofs.Common.{ℕ, ◌≡◌, ◌+◌, ◌-◌, ◌/◌, ◌%◌, ◌<◌, List, [], ◌∷◌, ◌++◌, length, suc, arith, ap, sym, ◌∙◌, append_assoc}
use Rattle.th_units.specs.Metres.{last_digits}
use Rattle.th_units.proofs.metres.MetreText.prepend_last_digits.Goals as goal

-- one place more: the digits before it, and it
last_digits_more : (count place n : ℕ) (rest : List ℕ) → place < count → last_digits (count - place) n ++ rest ≡ last_digits (count - (place + 1)) (n / 10) ++ ((48 + n % 10) ∷ rest)
unfolding last_digits
last_digits_more count place n rest before =
    let turn : count - place ≡ suc (count - (place + 1)) = omega arith in
    ap (λ k. last_digits k n ++ rest) turn ∙ append_assoc (last_digits (count - (place + 1)) (n / 10)) ((48 + n % 10) ∷ []) rest

pub loop-place-preserved : goal.loop-place-preserved
loop-place-preserved c =
    let rest = c.loop-place.rest in
    let place = c.loop-place._place in
    record {
      written = ap (λ text. last_digits (c.args.count - (place + 1)) (rest / 10) ++ text) c.prepend.ensures
          ∙ sym (last_digits_more c.args.count place rest c.loop-place.self (omega arith))
          ∙ c.loop-place.invariant.written;
      longer = omega (arith, ap length c.prepend.ensures, c.loop-place.invariant.longer);
    }

pub returns : goal.returns
unfolding last_digits
returns c =
    let done : c.args.count - c.loop-place._place ≡ 0 = omega arith in
    ap (λ k. last_digits k c.loop-place.rest ++ c.loop-place.self) (sym done) ∙ c.loop-place.invariant.written
