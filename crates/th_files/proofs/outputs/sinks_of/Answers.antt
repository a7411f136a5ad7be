use Rattle.std.proofs.Common.{ℕ, List, rules, subst}
use Rattle.std.specs.Prelude.{Option}
use Rattle.th_devices.specs.Devices.{IsMade}
use Rattle.th_files.proofs.OutputLemmas.{made_more}
use Rattle.th_files.specs.Outputs.{spot_at}
use Rattle.th_files.proofs.outputs.sinks_of.Goals as goal

pub loop-output-preserved : goal.loop-output-preserved
loop-output-preserved g c =
    let sink = c.in_ok-sink_of.field-0 in
    let state = g.F.Out.Sink.state sink in
    let writing = (g.F.Folder.failing c.args.folder.now).writing in
    let made = subst (λ (ending : Option (List ℕ)). IsMade g.F.Folder.tells (writing (spot_at c.args.prefix.now ending)) (spot_at c.args.prefix.now ending) state)
    c.ending.ensures (rw c.loop-output.invariant.0 at c.in_ok-sink_of.ensures.made) in (
      search rules,
      rw c.in_ok-push.ensures.items
          (made_more g.F.Out.Sink.state g.F.Folder.tells writing c.args.prefix.now c.args.outputs.now c.loop-output.output-index _ c.loop-output.sinks.items sink c.loop-output-test.true
          c.loop-output.invariant.1 made),
    )
