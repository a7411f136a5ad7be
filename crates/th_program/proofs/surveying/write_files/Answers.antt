use Rattle.std.proofs.Common.{◌≡◌, Err, map, rules}
use Rattle.th_commands.specs.Plans.{files}
use Rattle.th_files.specs.Owed.{tolds_in}
use Rattle.th_program.proofs.NoteLemmas.{noted_given}
use Rattle.th_program.proofs.RanLemmas.{has_written_files, none_written, ran_as_many, ran_files, ran_finished}
use Rattle.th_run_parts.specs.declared.refusals.Refusal.TheVariants as refusal
use Rattle.th_program.proofs.surveying.write_files.Goals as goal

pub place_sinks-requires-clause-files : goal.place_sinks-requires-clause-files
place_sinks-requires-clause-files g c =
    ran_files g.F.Out.Sink.state _ _ _ _ _ g.C.SurveyCommand.run _ c.in_ok-ran.ran.answer c.in_ok-ran.ran.sinks.items c.in_ok-ran.ensures.ran c.requires.files

pub place_sinks-requires-clause-finished : goal.place_sinks-requires-clause-finished
place_sinks-requires-clause-finished g c =
    ran_finished g.F.Out.Sink.state _ _ _ _ _ g.C.SurveyCommand.run _ c.in_ok-ran.ran.answer c.in_ok-ran.ran.sinks.items c.in_ok-ran.ensures.ran

pub place_sinks-requires-clause-as_many : goal.place_sinks-requires-clause-as_many
place_sinks-requires-clause-as_many g c =
    rw c.outputs.ensures (ran_as_many g.F.Out.Sink.state _ _ _ _ _ g.C.SurveyCommand.run _ c.in_ok-ran.ran.answer c.in_ok-ran.ran.sinks.items c.in_ok-ran.ensures.ran)

pub returns-in_err-ran-clause-written : goal.returns-in_err-ran-clause-written
returns-in_err-ran-clause-written g c =
    let is : c.from_residual.result ≡ Err refusal.NoMemory = search rules in
    rw is (none_written g.F.Folder.tells g.F.Folder.held g.F.Folder.failing _ _ (files c.args.inputs.now) c.args.prefix.now g.C.SurveyCommand.run _ c.run_over.ensures.same)

pub returns-clause-written : goal.returns-clause-written
returns-clause-written g c =
    let same : c.run_over.new.folder ≡ c.args.folder.now = c.run_over.ensures.same in
    has_written_files g.F.Folder.tells g.F.Folder.held g.F.Folder.has_failed g.F.Folder.failing (files c.args.inputs.now) c.args.prefix.now g.C.SurveyCommand.run
    (g.C.SurveyCommand.are_of c.args.command.now (tolds_in (g.F.Folder.held c.args.folder.now) (files c.args.inputs.now))) g.F.Out.Sink.state c.in_ok-ran.ran.sinks.items
    c.in_ok-ran.ran.answer c.place_sinks.result c.args.folder.now c.place_sinks.new.folder c.requires.apart c.in_ok-ran.ensures.ran (rw (same, c.outputs.ensures) at c.place_sinks.ensures)

pub returns-clause-noted : goal.returns-clause-noted
returns-clause-noted g c =
    noted_given g.F.Folder.tells g.F.Folder.held g.F.Folder.has_failed g.F.Folder.failing (map g.F.Out.Sink.state c.in_ok-ran.ran.sinks.items) c.outputs.result.now c.in_ok-ran.ran.answer
    c.place_sinks.result c.run_over.new.folder c.place_sinks.new.folder _ c.place_sinks.ensures c.in_ok-ran.ensures.noted
