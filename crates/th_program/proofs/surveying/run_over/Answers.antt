use Rattle.std.proofs.Common.{◌≡◌, ◌++◌, List, ap, arith, drop, length, subst, take}
use Rattle.std.proofs.lemmas.List.{length-map}
use Rattle.th_commands.specs.Plans.{files}
use Rattle.th_devices.specs.Spots.{file}
use Rattle.th_files.proofs.OpenedLemmas.{opened-are-ready, survey-opened, tells-opened, tolds-opened}
use Rattle.th_files.proofs.OutputLemmas.{lent, made_ready}
use Rattle.th_files.specs.Opened.{AreMade, AreOpened}
use Rattle.th_files.specs.Outputs.{spots_of}
use Rattle.th_program.proofs.NoteLemmas.{noted_opened}
use Rattle.th_program.proofs.RanLemmas.{has_run}
use Rattle.th_run_parts.specs.Reads.{refused}
use Rattle.th_run_parts.specs.declared.outputs.Output.{Output}
use Rattle.th_program.proofs.surveying.run_over.Goals as goal

pub run_command-answer-requires-clause-ready : goal.run_command-answer-requires-clause-ready
run_command-answer-requires-clause-ready g c =
    rw c.as_mut_slice.ensures.value
    (opened-are-ready g.F.In.Source.state _ _ _ _ _ _ c.in_ok-sources.ensures.opened c.in_ok-sources.ensures.few_books)

pub run_command-answer-requires-clause-outs : goal.run_command-answer-requires-clause-outs
run_command-answer-requires-clause-outs g c =
    rw c.as_mut_slice-2.ensures.value
    (made_ready g.F.Out.Sink.state g.F.Folder.tells (g.F.Folder.failing c.sources_of.new.folder).writing c.args.prefix.now g.C.SurveyCommand.run.outputs _
    (rw c.outputs.ensures at c.in_ok-sinks.ensures.made))

pub returns-clause-ran : goal.returns-clause-ran
returns-clause-ran g c =
    let run = c.run_command-answer in
    let failing = g.F.Folder.failing c.args.folder.now in
    let from = files c.args.inputs.now in
    let told = g.F.Folder.held c.args.folder.now in
    let outputs = g.C.SurveyCommand.run.outputs in
    let unopened : c.sources_of.new.folder ≡ c.args.folder.now = c.sources_of.ensures.same in
    let opened : AreOpened g.F.In.Source.state failing.reading told from c.as_mut_slice.result.now c.in_ok-sources.sources.benchmarks c.in_ok-sources.sources.weights =
    rw c.as_mut_slice.ensures.value c.in_ok-sources.ensures.opened in
    let made : AreMade g.F.Out.Sink.state g.F.Folder.tells failing.writing (spots_of c.args.prefix.now outputs) c.as_mut_slice-2.result.now =
    rw c.as_mut_slice-2.ensures.value
    (subst (λ folder. AreMade g.F.Out.Sink.state g.F.Folder.tells (g.F.Folder.failing folder).writing (spots_of c.args.prefix.now outputs) c.in_ok-sinks.sinks.items) unopened
    (subst (λ (own : List Output). AreMade g.F.Out.Sink.state g.F.Folder.tells (g.F.Folder.failing c.sources_of.new.folder).writing (spots_of c.args.prefix.now own) c.in_ok-sinks.sinks.items) c.outputs.ensures c.in_ok-sinks.ensures.made)) in
    let back : take c.in_ok-sinks.sinks.len (run.new.outs ++ drop (length run.new.outs) c.in_ok-sinks.sinks.items) ≡ run.new.outs =
    lent c.in_ok-sinks.sinks.items run.new.outs c.in_ok-sinks.sinks.len (omega (arith, c.as_mut_slice-2.ensures.len, run.auto.outs)) in
    rw back (has_run g.F.In.Source.state g.F.Out.Sink.state g.F.Folder.tells failing told from c.args.prefix.now g.C.SurveyCommand.run (g.C.SurveyCommand.are_of c.args.command.now) run.result
    _ _ _ _ _ _ _ _ g.met.C.SurveyCommand.no_certificate (g.met.C.SurveyCommand.in_order c.args.command.now) opened made run.ensures.printed)

pub returns-clause-noted : goal.returns-clause-noted
returns-clause-noted g c =
    let run = c.run_command-answer in
    let failing = g.F.Folder.failing c.args.folder.now in
    let from = files c.args.inputs.now in
    let told = g.F.Folder.held c.args.folder.now in
    let opened : AreOpened g.F.In.Source.state failing.reading told from c.as_mut_slice.result.now c.in_ok-sources.sources.benchmarks c.in_ok-sources.sources.weights =
    rw c.as_mut_slice.ensures.value c.in_ok-sources.ensures.opened in
    noted_opened told from (λ tolds survey. g.C.SurveyCommand.has_noted c.args.command.now tolds survey run.new.reader) _ _ run.result
    (survey-opened g.F.In.Source.state failing.reading told from (refused run.result) _ _ _ _ _ _ opened run.ensures.printed.sources)
    (tolds-opened g.F.In.Source.state failing.reading told from _ _ _ opened) run.ensures.noted

pub returns-clause-few : goal.returns-clause-few
returns-clause-few g c =
    let told = g.F.Folder.held c.args.folder.now in
    let books = (files c.args.inputs.now).books in
    omega (
      arith,
      c.in_ok-sources.ensures.few_books,
      length-map c.in_ok-sources.sources.books.items (λ source. (g.F.In.Source.state source).left),
      ap length (tells-opened g.F.In.Source.state (g.F.Folder.failing c.args.folder.now).reading told books c.in_ok-sources.sources.books.items c.in_ok-sources.ensures.opened.of_books),
      length-map books (λ name. told (file name)),
    )
