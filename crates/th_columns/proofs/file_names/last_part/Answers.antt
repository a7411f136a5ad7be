use Rattle.std.proofs.Common.{◌≡◌, ◌+◌, ◌∙◌, ℕ, List, drop, length, take, ap, arith, refl, subst, sym}
use Rattle.std.proofs.Math.Seq.{take-length}
use Rattle.std.proofs.lemmas.List.{take_rest}
use Rattle.th_columns.specs.FileNames.{last_part}
use Rattle.th_columns.proofs.FileNameLemmas.{after_other, after_slash}
use Rattle.th_columns.proofs.file_names.last_part.Goals as goal
use Rattle.th_columns.proofs.file_names.last_part.Goals.{then-name-index-eq47, else-name-index-eq47}

pub loop-index-init : goal.loop-index-init
loop-index-init c = (omega arith, refl)

pub loop-index-preserved : goal.loop-index-preserved
loop-index-preserved c =
    let name : List ℕ = c.args.name.now in
    let i : ℕ = c.loop-index.index in
    let within = c.loop-index-test.true in
    let inv = c.loop-index.invariant in
    elim c.if-name-index-eq47.branch [
      | then-name-index-eq47 w ↦
          (omega (arith, w.start-is), subst (λ (s : ℕ). drop s (take (i + 1) name) ≡ last_part (take (i + 1) name)) (sym w.start-is) (after_slash name i within w.if-name-index-eq47.true))
      | else-name-index-eq47 w ↦
          (omega (arith, w.start-is, inv.0), subst (λ (s : ℕ). drop s (take (i + 1) name) ≡ last_part (take (i + 1) name)) (sym w.start-is) (after_other name c.loop-index.start i within inv.0 w.if-name-index-eq47.false inv.1))
    ]

pub slice_bounds-result-count : goal.slice_bounds-result-count
slice_bounds-result-count c = omega (arith, c.loop-index.invariant.0, c.loop-index.auto.index-end)

pub slice_bounds-result-start : goal.slice_bounds-result-start
slice_bounds-result-start c = omega (arith, c.loop-index.invariant.0, c.loop-index.auto.index-end)

pub returns : goal.returns
returns c =
    let name : List ℕ = c.args.name.now in
    let end : c.loop-index.index ≡ length name = omega (arith, c.loop-index-test.false, c.loop-index.auto.index-end) in
    let whole : take c.loop-index.index name ≡ name = ap (λ (n : ℕ). take n name) end ∙ take-length name in
    take_rest name c.loop-index.start ∙ ap (drop c.loop-index.start) (sym whole) ∙ c.loop-index.invariant.1 ∙ ap last_part whole
