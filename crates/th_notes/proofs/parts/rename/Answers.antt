use Rattle.std.proofs.Common.{◌==◌, ◌<◌, ℕ, List, if◌then◌else◌, length, slice_set, ap, ◌∙◌, arith}
use Rattle.th_notes.proofs.PartLemmas.{next_old, set_more}
use Rattle.th_notes.proofs.parts.rename.Goals as goal

pub loop-part-preserved : goal.loop-part-preserved
loop-part-preserved c =
    let f : ℕ → ℕ = λ part. if part == c.args.from then c.args.to else part in
    let old : List ℕ = c.args.parts.now in
    let i = c.loop-part.part-index in
    let within : i < length old = omega (arith, c.loop-part-test.true) in
    ap (λ own. slice_set own i c.new_number.result) c.loop-part.invariant
    ∙ set_more f old i c.new_number.result within (c.new_number.ensures ∙ ap f (next_old f old c.loop-part.parts i _ within c.loop-part.invariant))
