use Rattle.std.proofs.Common.{◌≡◌, ◌∙◌, ℤ, ◌-ℤ◌, FitsSigned, ap, of_z, rules, to_z, unsigned_abs, w64, arith}
use Rattle.std.proofs.lemmas.Int.{fits_signed_from_abs, to_z-of_z}
use Rattle.th_changes.proofs.TiltLemmas.{reach_small}
use Rattle.th_explain_texts.specs.Columns.{mildest_value}
use Rattle.th_answer.specs.Remedies.{mildest_growth}
use Rattle.th_answer.proofs.correcting.growth_within.Goals as goal

pub returns-in_err-growth : goal.returns-in_err-growth
returns-in_err-growth c =
    let values = c.args.values.now in
    let fits_mildest : FitsSigned w64 c.mildest_value.result = search rules in
    let fits_given : FitsSigned w64 values.given = search rules in
    let mildest : to_z w64 (of_z w64 c.mildest_value.result) ≡ mildest_value values = to_z-of_z w64 c.mildest_value.result fits_mildest ∙ c.mildest_value.ensures in
    let growth : (to_z w64 (of_z w64 c.mildest_value.result) -ℤ to_z w64 (of_z w64 values.given)) ≡ mildest_growth values =
    ap (λ (m : ℤ). m -ℤ to_z w64 (of_z w64 values.given)) mildest ∙ ap (λ (g : ℤ). mildest_value values -ℤ g) (to_z-of_z w64 values.given fits_given) in
    rw c.from_residual.ensures
    (λ within. c.in_err-growth.ensures
    (fits_signed_from_abs w64 (to_z w64 (of_z w64 c.mildest_value.result) -ℤ to_z w64 (of_z w64 values.given))
    (omega (arith, ap unsigned_abs growth, within, reach_small c.args.number.now c.args.network.now.observations))))
