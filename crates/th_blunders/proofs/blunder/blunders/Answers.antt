use Rattle.std.proofs.Common.{◌≡◌, ℕ, ℤ, pos, ◌+◌, ◌<◌, true, false, List, [], ◌∷◌, ◌++◌, None, Some, if◌then◌else◌, length, get_or, take, arith, sym, ap, ◌∙◌, w64, to_z, of_z}
use Rattle.std.proofs.lemmas.Int.{ints}
use Rattle.std.proofs.lemmas.List.{append-nil, get_or_default}
use Rattle.th_blunders.specs.Blunders.{blunder_number, blunders, is_blunder}
use Rattle.th_blunders.proofs.Numbered.{filter_map-found}
use Rattle.th_blunders.proofs.blunder.blunders.Goals as goal
use Rattle.th_blunders.proofs.blunder.blunders.Goals.{then-is_blunder+in_ok-push, else-is_blunder}

-- the residual at the place, in 64 bits
residual_there : (c : goal.Joined-is_blunder) → to_z w64 (of_z w64 (get_or c.args.residuals.now c.loop-i.i (pos 0))) ≡ get_or c.args.residuals.now c.loop-i.i (pos 0)
residual_there c = omega (arith, ints, c.requires.small c.loop-i.i (pos 0) c.loop-i-test.true)

-- a residual that is no element past the end
at_place : (residuals : List ℤ) (i : ℕ) → i < length residuals → get_or residuals i (pos 0) ≡ get_or residuals i (get_or residuals i (pos 0))
at_place residuals i within = get_or_default residuals i (pos 0) (get_or residuals i (pos 0)) within

pub loop-i-preserved : goal.loop-i-preserved
loop-i-preserved c =
    let limit : ℤ = to_z w64 (of_z w64 c.args.limit) in
    let residuals : List ℤ = c.args.residuals.now in
    let i : ℕ = c.loop-i.i in
    let residual : ℤ = get_or residuals i (pos 0) in
    let at = at_place residuals i c.loop-i-test.true in
    let test : c.is_blunder.result ≡ is_blunder limit residual = c.is_blunder.ensures ∙ ap (is_blunder limit) (residual_there c) in
    elim c.if-is_blunder.branch [
      | then-is_blunder+in_ok-push w ↦
          let above : is_blunder limit residual ≡ true = sym test ∙ w.if-is_blunder.true in
          let number : blunder_number limit (i + 1, residual) ≡ Some (i + 1) = ap (λ b. if b then Some (i + 1) else None) above in
          ap (λ v. v.items) w.numbers-is ∙ w.in_ok-push.ensures.items ∙ ap (λ numbers. numbers ++ (i + 1) ∷ []) c.loop-i.invariant
          ∙ sym (filter_map-found (blunder_number limit) residuals i residual (Some (i + 1)) c.loop-i-test.true at number)
      | else-is_blunder w ↦
          let within : is_blunder limit residual ≡ false = sym test ∙ w.if-is_blunder.false in
          let number : blunder_number limit (i + 1, residual) ≡ None = ap (λ b. if b then Some (i + 1) else None) within in
          ap (λ v. v.items) w.numbers-is ∙ c.loop-i.invariant ∙ sym (append-nil (blunders limit (take i residuals)))
          ∙ sym (filter_map-found (blunder_number limit) residuals i residual None c.loop-i-test.true at number)
    ]
