use Rattle.std.proofs.Common.{ℕ, ◌+◌, ◌/◌, ◌%◌, List, [], ◌∷◌, ◌++◌, length, decimal, arith, ap, sym, ◌∙◌, append_assoc, length-append}
use Rattle.std.proofs.lemmas.Fmt.{decimal_step, decimal_digit}
use Rattle.th_units.proofs.metres.MetreText.prepend_decimal.Goals as goal

pub prepend-requires : goal.prepend-requires
prepend-requires c =
    let rest = c.loop-rest.rest in
    omega (
      arith,
      ap length c.loop-rest.invariant,
      length-append (decimal rest) c.loop-rest.self,
      length-append (decimal c.args.number) c.args.self.now,
      ap length (decimal_step rest (omega arith) (omega arith)),
      length-append (decimal (rest / 10)) ((48 + rest % 10) ∷ []),
    )

pub loop-rest-preserved : goal.loop-rest-preserved
loop-rest-preserved c =
    let rest = c.loop-rest.rest in
    let digit : List ℕ = (48 + rest % 10) ∷ [] in
    ap (λ text. decimal (rest / 10) ++ text) c.prepend.ensures
    ∙ sym (append_assoc (decimal (rest / 10)) digit c.loop-rest.self)
    ∙ ap (λ text. text ++ c.loop-rest.self) (sym (decimal_step rest (omega arith) (omega arith)))
    ∙ c.loop-rest.invariant

pub prepend-requires-2 : goal.prepend-requires-2
prepend-requires-2 c =
    let rest = c.loop-rest.rest in
    omega (
      arith,
      ap length c.loop-rest.invariant,
      length-append (decimal rest) c.loop-rest.self,
      length-append (decimal c.args.number) c.args.self.now,
      ap length (decimal_digit rest (omega arith)),
    )

pub returns : goal.returns
returns c =
    let rest = c.loop-rest.rest in
    c.prepend-2.ensures
    ∙ ap (λ text. text ++ c.loop-rest.self) (sym (decimal_digit rest (omega arith)))
    ∙ c.loop-rest.invariant
