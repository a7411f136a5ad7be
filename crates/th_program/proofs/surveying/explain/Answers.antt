use Rattle.std.proofs.Common.{◌≡◌, ◌∙◌, [], ap, refl, of_z, rules, subst, sym, to_z, w64}
use Rattle.std.specs.List.{AllByRecursion}
use Rattle.th_commands.specs.Plans.{files}
use Rattle.th_files.proofs.OutputLemmas.{made_untouched, none_among}
use Rattle.th_files.specs.Opened.{AreApart, IsUntouched}
use Rattle.th_files.specs.Outputs.{spots_of}
use Rattle.th_files.specs.Owed.{survey_owed}
use Rattle.th_network.specs.Networks.{Survey}
use Rattle.th_program.proofs.ExplainedLemmas.{cut-explanation, explained}
use Rattle.th_program.proofs.RanLemmas.{ran_there}
use Rattle.th_program.proofs.RefusalLemmas.{refused-for, unless-all}
use Rattle.th_program.specs.Failing.{HasCause, IsInFiles}
use Rattle.th_runs.specs.Explained.{explaining}
use Rattle.th_program.proofs.surveying.explain.Goals as goal

pub close_sinks-requires : goal.close_sinks-requires
close_sinks-requires g c =
    subst AreApart (sym (ran_there g.F.Out.Sink.state _ _ _ _ [] explaining _ c.in_ok-ran.ran.answer c.in_ok-ran.ran.sinks.items c.in_ok-ran.ensures.ran)) (tt, tt)

pub returns-clause-explained : goal.returns-clause-explained
returns-clause-explained g c =
    let ran = c.in_ok-ran.ensures.ran in
    let same : c.run_over.new.folder ≡ c.args.folder.now = c.run_over.ensures.same in
    let limit : to_z w64 (of_z w64 c.get.result) ≡ c.args.limit = search rules in
    explained g.F.Folder.tells (g.F.Folder.failing c.args.folder.now).writing (g.F.Folder.held c.args.folder.now) (g.F.Folder.held c.close_sinks.new.folder) (files c.args.inputs.now)
    c.args.limit c.args.form g.F.Out.Sink.state ran.made c.in_ok-ran.ran.sinks.items _ c.in_ok-ran.ran.answer refl ran.are_made (rw same at c.close_sinks.ensures.taken) (rw limit at ran.outcome.written)

pub returns-clause-left : goal.returns-clause-left
returns-clause-left g c =
    let ran = c.in_ok-ran.ensures.ran in
    let same : c.run_over.new.folder ≡ c.args.folder.now = c.run_over.ensures.same in
    let limit : to_z w64 (of_z w64 c.get.result) ≡ c.args.limit = search rules in
    cut-explanation g.F.Folder.tells (g.F.Folder.failing c.args.folder.now).writing (g.F.Folder.held c.args.folder.now) (g.F.Folder.held c.close_sinks.new.folder) (files c.args.inputs.now)
    c.args.limit c.args.form g.F.Out.Sink.state ran.made c.in_ok-ran.ran.sinks.items _ c.in_ok-ran.ran.answer refl ran.are_made (rw same at c.close_sinks.ensures.taken) (rw limit at ran.outcome.written)

pub returns-clause-refused : goal.returns-clause-refused
returns-clause-refused g c =
    let ran = c.in_ok-ran.ensures.ran in
    let from = files c.args.inputs.now in
    let told = g.F.Folder.held c.args.folder.now in
    refused-for explaining from (λ (survey : Survey). survey) (λ answer. survey_owed told answer from) (λ answer. Unit {0}) (HasCause (g.F.Folder.failing c.args.folder.now) (IsInFiles from) [])
    c.in_ok-ran.ran.answer ran.named ran.outcome.refused (λ began. tt) ran.caused

pub returns-clause-others : goal.returns-clause-others
returns-clause-others g c =
    let there = ran_there g.F.Out.Sink.state _ _ _ _ [] explaining _ c.in_ok-ran.ran.answer c.in_ok-ran.ran.sinks.items c.in_ok-ran.ensures.ran in
    λ spot none. c.close_sinks.ensures.others spot (none_among g.F.Out.Sink.state c.in_ok-ran.ran.sinks.items (spots_of [] explaining.outputs) spot there (none, tt))
    ∙ ap (λ own. g.F.Folder.held own spot) c.run_over.ensures.same

pub returns-clause-untouched : goal.returns-clause-untouched
returns-clause-untouched g c =
    let ran = c.in_ok-ran.ensures.ran in
    unless-all _ _ c.in_ok-ran.ran.answer
    (λ same. c.close_sinks.ensures.untouched (subst (AllByRecursion (λ own. IsUntouched (g.F.Out.Sink.state own))) (sym same)
    (made_untouched g.F.Out.Sink.state g.F.Folder.tells (g.F.Folder.failing c.args.folder.now).writing (spots_of [] explaining.outputs) ran.made ran.are_made))
    ∙ c.run_over.ensures.same)
    ran.outcome.untouched
