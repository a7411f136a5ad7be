use Rattle.std.proofs.Common.{◌≡◌, ◌∷◌, [], ℕ, Err, List, rules, subst}
use Rattle.std.proofs.lemmas.List.{take_all}
use Rattle.std.specs.Prelude.{Option}
use Rattle.th_commands.specs.Plans.{files}
use Rattle.th_files.specs.Stops.{AreKept, IsStop}
use Rattle.th_files.specs.Outputs.{spot_at, spots_of}
use Rattle.th_files.proofs.OverwriteLemmas.{kept_more, stop_wider}
use Rattle.th_files.proofs.overwrites.keep_all.Goals as goal
use Rattle.th_run_parts.specs.declared.outputs.Output.{Output}

pub loop-output-preserved : goal.loop-output-preserved
loop-output-preserved g c =
    let kept = subst (λ (ending : Option (List ℕ)). AreKept g.F.Folder.tells (files c.args.inputs.now) (spot_at c.args.prefix.now ending ∷ [])) c.ending.ensures c.in_ok-keep.ensures.apart in
    kept_more g.F.Folder.tells (files c.args.inputs.now) c.args.prefix.now c.args.outputs.now c.loop-output.output-index _ c.loop-output-test.true c.loop-output.invariant kept

pub returns-in_err-keep-clause-stopped : goal.returns-in_err-keep-clause-stopped
returns-in_err-keep-clause-stopped g c =
    let own = c.in_err-keep.field-0.0 in
    let is : c.from_residual.result ≡ Err own = search rules in
    let stopped = subst (λ (ending : Option (List ℕ)). IsStop g.F.Folder.tells (files c.args.inputs.now) (spot_at c.args.prefix.now ending ∷ []) own) c.ending.ensures c.in_err-keep.ensures.stopped in
    rw is (stop_wider g.F.Folder.tells (files c.args.inputs.now) c.args.prefix.now c.args.outputs.now c.loop-output.output-index _ own c.loop-output-test.true stopped)

pub returns-clause-apart : goal.returns-clause-apart
returns-clause-apart g c =
    subst (λ (own : List Output). AreKept g.F.Folder.tells (files c.args.inputs.now) (spots_of c.args.prefix.now own))
    (take_all c.loop-output.output-index c.args.outputs.now c.loop-output-test.false) c.loop-output.invariant
