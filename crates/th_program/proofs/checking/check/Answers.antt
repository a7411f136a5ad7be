use Rattle.std.proofs.Common.{◌≡◌, ◌∙◌, [], ap, refl, subst, sym, arith, map, ◌≢◌}
use Rattle.std.specs.List.{AllByRecursion}
use Rattle.std.specs.Prelude.{IfErr, option_map}
use Rattle.th_devices.specs.Spots.{file}
use Rattle.th_commands.specs.Plans.{files}
use Rattle.th_program.proofs.CheckLemmas.{checked, cut-verdict, of-files, wanted_names}
use Rattle.th_program.proofs.CauseLemmas.{certificate_blamed, files_caused, output_caused, run_caused, widened}
use Rattle.th_files.proofs.OpenedLemmas.{claim-opened, named-opened, opened-are-ready, tolds-opened}
use Rattle.th_files.proofs.OutputLemmas.{lent, made_ready, made_untouched, none_among, spots_after}
use Rattle.th_program.proofs.RefusalLemmas.{refused-for, unless-all}
use Rattle.th_program.specs.Failing.{HasCause, IsInClaim}
use Rattle.th_files.specs.Opened.{AreApart, AreMade, AreOpened, IsTaken, IsUntouched}
use Rattle.th_files.specs.Outputs.{spots_of}
use Rattle.th_files.specs.Owed.{claim_owed}
use Rattle.th_run_parts.specs.Inputs.{Claim, IsOwed, Owed}
use Rattle.th_runs.specs.Checked.{checking, judged, verdict_on}
use Rattle.th_run_parts.specs.Reads.{refused}
use Rattle.th_run_parts.specs.Writes.{UnlessWrite}
use Rattle.th_program.proofs.checking.check.Goals as goal

pub run_check-answer-requires-clause-ready : goal.run_check-answer-requires-clause-ready
run_check-answer-requires-clause-ready g c =
    rw c.as_mut_slice.ensures.value
    (opened-are-ready g.F.In.Source.state _ _ _ _ _ _ c.in_ok-sources.ensures.opened c.in_ok-sources.ensures.few_books)

pub run_check-answer-requires-clause-outs : goal.run_check-answer-requires-clause-outs
run_check-answer-requires-clause-outs g c =
    rw c.as_mut_slice-2.ensures.value (made_ready g.F.Out.Sink.state g.F.Folder.tells (g.F.Folder.failing c.source.new.self).writing [] checking.outputs _ c.in_ok-outs.ensures.made)

pub close_sinks-requires : goal.close_sinks-requires
close_sinks-requires g c =
    let run = c.run_check-answer in
    let unopened : c.source.new.self ≡ c.args.folder.now = c.source.ensures.same ∙ c.sources_of.ensures.same in
    let made : AreMade g.F.Out.Sink.state g.F.Folder.tells (g.F.Folder.failing c.args.folder.now).writing (spots_of [] checking.outputs) c.as_mut_slice-2.result.now =
    rw c.as_mut_slice-2.ensures.value (subst (λ folder. AreMade g.F.Out.Sink.state g.F.Folder.tells (g.F.Folder.failing folder).writing (spots_of [] checking.outputs) c.in_ok-outs.outs.items) unopened c.in_ok-outs.ensures.made) in
    let outs = lent c.in_ok-outs.outs.items c.run_check-answer.new.outs c.in_ok-outs.outs.len (omega (arith, c.as_mut_slice-2.ensures.len, c.run_check-answer.auto.outs)) in
    subst (λ sinks. AreApart (map (λ own. (g.F.Out.Sink.state own).spot) sinks)) (sym outs)
    (subst AreApart (sym (spots_after g.F.Out.Sink.state g.F.Folder.tells (g.F.Folder.failing c.args.folder.now).writing (spots_of [] checking.outputs) _ _ _ run.result _ _ run.ensures.outcome made (λ claim has. (judged _ has.1 (verdict_on claim), has.3)))) (tt, tt))

pub returns-clause-checked : goal.returns-clause-checked
returns-clause-checked g c =
    let outs = lent c.in_ok-outs.outs.items c.run_check-answer.new.outs c.in_ok-outs.outs.len (omega (arith, c.as_mut_slice-2.ensures.len, c.run_check-answer.auto.outs)) in
    let run = c.run_check-answer in
    let from = files c.args.inputs.now in
    let told = g.F.Folder.held c.args.folder.now in
    let opened : AreOpened g.F.In.Source.state (g.F.Folder.failing c.args.folder.now).reading told from c.as_mut_slice.result.now c.in_ok-sources.sources.benchmarks c.in_ok-sources.sources.weights =
    rw c.as_mut_slice.ensures.value c.in_ok-sources.ensures.opened in
    let owed = claim-opened g.F.In.Source.state (g.F.Folder.failing c.args.folder.now).reading told from c.args.certificate.now (refused run.result) _ _ _ _ _ _ _ _
    opened (rw c.sources_of.ensures.same at c.in_ok-certificate.ensures.opened) run.ensures.sources run.ensures.certificate in
    let at_certificate = rw c.sources_of.ensures.same at c.in_ok-certificate.ensures.opened in
    let unopened : c.source.new.self ≡ c.args.folder.now = c.source.ensures.same ∙ c.sources_of.ensures.same in
    let made : AreMade g.F.Out.Sink.state g.F.Folder.tells (g.F.Folder.failing c.args.folder.now).writing (spots_of [] checking.outputs) c.as_mut_slice-2.result.now =
    rw c.as_mut_slice-2.ensures.value (subst (λ folder. AreMade g.F.Out.Sink.state g.F.Folder.tells (g.F.Folder.failing folder).writing (spots_of [] checking.outputs) c.in_ok-outs.outs.items) unopened c.in_ok-outs.ensures.made) in
    let same : c.sinks_of.new.folder ≡ c.args.folder.now = c.sinks_of.ensures.same ∙ c.source.ensures.same ∙ c.sources_of.ensures.same in
    let tolds = tolds-opened g.F.In.Source.state (g.F.Folder.failing c.args.folder.now).reading told from _ _ _ opened in
    let names = wanted_names (λ own. map (λ name. name.now) own.now) c.args.with_inputs c.as_slice.result from c.args.certificate.now (ap (λ own. map (λ name. name.now) own) c.as_slice.ensures.value ∙ c.in_ok-names.ensures) in
    checked c.args.with_inputs g.F.Folder.tells (g.F.Folder.failing c.args.folder.now).writing told (g.F.Folder.held c.close_sinks.new.folder) from c.args.certificate.now
    g.F.Out.Sink.state _ _ _ run.result owed made (subst (AllByRecursion (λ own. IsTaken told (g.F.Folder.held c.close_sinks.new.folder) (g.F.Out.Sink.state own))) outs (rw same at c.close_sinks.ensures.taken)) (of-files c.args.with_inputs told from c.args.certificate.now g.F.Out.Sink.state run.result _ _ _ _ _ _ (ap (option_map (λ own. map (λ name. name.now) own.now)) c.then_some-names.ensures ∙ names) tolds at_certificate.tells run.ensures.outcome.written)

pub returns-clause-left : goal.returns-clause-left
returns-clause-left g c =
    let outs = lent c.in_ok-outs.outs.items c.run_check-answer.new.outs c.in_ok-outs.outs.len (omega (arith, c.as_mut_slice-2.ensures.len, c.run_check-answer.auto.outs)) in
    let run = c.run_check-answer in
    let from = files c.args.inputs.now in
    let told = g.F.Folder.held c.args.folder.now in
    let opened : AreOpened g.F.In.Source.state (g.F.Folder.failing c.args.folder.now).reading told from c.as_mut_slice.result.now c.in_ok-sources.sources.benchmarks c.in_ok-sources.sources.weights =
    rw c.as_mut_slice.ensures.value c.in_ok-sources.ensures.opened in
    let owed = claim-opened g.F.In.Source.state (g.F.Folder.failing c.args.folder.now).reading told from c.args.certificate.now (refused run.result) _ _ _ _ _ _ _ _
    opened (rw c.sources_of.ensures.same at c.in_ok-certificate.ensures.opened) run.ensures.sources run.ensures.certificate in
    let at_certificate = rw c.sources_of.ensures.same at c.in_ok-certificate.ensures.opened in
    let unopened : c.source.new.self ≡ c.args.folder.now = c.source.ensures.same ∙ c.sources_of.ensures.same in
    let made : AreMade g.F.Out.Sink.state g.F.Folder.tells (g.F.Folder.failing c.args.folder.now).writing (spots_of [] checking.outputs) c.as_mut_slice-2.result.now =
    rw c.as_mut_slice-2.ensures.value (subst (λ folder. AreMade g.F.Out.Sink.state g.F.Folder.tells (g.F.Folder.failing folder).writing (spots_of [] checking.outputs) c.in_ok-outs.outs.items) unopened c.in_ok-outs.ensures.made) in
    let same : c.sinks_of.new.folder ≡ c.args.folder.now = c.sinks_of.ensures.same ∙ c.source.ensures.same ∙ c.sources_of.ensures.same in
    let tolds = tolds-opened g.F.In.Source.state (g.F.Folder.failing c.args.folder.now).reading told from _ _ _ opened in
    let names = wanted_names (λ own. map (λ name. name.now) own.now) c.args.with_inputs c.as_slice.result from c.args.certificate.now (ap (λ own. map (λ name. name.now) own) c.as_slice.ensures.value ∙ c.in_ok-names.ensures) in
    cut-verdict c.args.with_inputs g.F.Folder.tells (g.F.Folder.failing c.args.folder.now).writing told (g.F.Folder.held c.close_sinks.new.folder) from c.args.certificate.now
    g.F.Out.Sink.state _ _ _ run.result owed made (subst (AllByRecursion (λ own. IsTaken told (g.F.Folder.held c.close_sinks.new.folder) (g.F.Out.Sink.state own))) outs (rw same at c.close_sinks.ensures.taken)) (of-files c.args.with_inputs told from c.args.certificate.now g.F.Out.Sink.state run.result _ _ _ _ _ _ (ap (option_map (λ own. map (λ name. name.now) own.now)) c.then_some-names.ensures ∙ names) tolds at_certificate.tells run.ensures.outcome.written)

pub returns-clause-refused : goal.returns-clause-refused
returns-clause-refused g c =
    let run = c.run_check-answer in
    let from = files c.args.inputs.now in
    let told = g.F.Folder.held c.args.folder.now in
    let opened : AreOpened g.F.In.Source.state (g.F.Folder.failing c.args.folder.now).reading told from c.as_mut_slice.result.now c.in_ok-sources.sources.benchmarks c.in_ok-sources.sources.weights =
    rw c.as_mut_slice.ensures.value c.in_ok-sources.ensures.opened in
    let owed = claim-opened g.F.In.Source.state (g.F.Folder.failing c.args.folder.now).reading told from c.args.certificate.now (refused run.result) _ _ _ _ _ _ _ _
    opened (rw c.sources_of.ensures.same at c.in_ok-certificate.ensures.opened) run.ensures.sources run.ensures.certificate in
    let failing = g.F.Folder.failing c.args.folder.now in
    let stated = c.args.certificate.now in
    let at_certificate = rw c.sources_of.ensures.same at c.in_ok-certificate.ensures.opened in
    let unopened : c.source.new.self ≡ c.args.folder.now = c.source.ensures.same ∙ c.sources_of.ensures.same in
    let made : AreMade g.F.Out.Sink.state g.F.Folder.tells (g.F.Folder.failing c.args.folder.now).writing (spots_of [] checking.outputs) c.as_mut_slice-2.result.now =
    rw c.as_mut_slice-2.ensures.value (subst (λ folder. AreMade g.F.Out.Sink.state g.F.Folder.tells (g.F.Folder.failing folder).writing (spots_of [] checking.outputs) c.in_ok-outs.outs.items) unopened c.in_ok-outs.ensures.made) in
    let caused = run_caused failing (IsInClaim from stated) [] run.result
    (files_caused g.F.In.Source.state (g.F.Folder.failing c.args.folder.now).reading told from checking (IsInClaim from stated) run.result _ _ _ _ _ _ (widened from stated) opened
    run.ensures.sources run.ensures.named
    (λ is has. (file stated, refl, certificate_blamed g.F.In.Source.state (g.F.Folder.failing c.args.folder.now).reading told stated run.result _ _ at_certificate run.ensures.certificate is)))
    (output_caused g.F.Out.Sink.state g.F.Folder.tells (g.F.Folder.failing c.args.folder.now).writing [] checking.outputs run.result _ _ made
    (λ begun. let (claim, accepted, has) = run.ensures.outcome.written begun in (judged _ has.1 (verdict_on claim), refl, has.3))) in
    refused-for checking from (λ (claim : Claim). claim.survey) (λ answer. claim_owed told answer from c.args.certificate.now) (λ answer. Unit {0})
    (HasCause failing (IsInClaim from stated) []) run.result
    (named-opened g.F.In.Source.state (g.F.Folder.failing c.args.folder.now).reading told from checking _ _ _ _ opened run.ensures.named)
    (subst (λ (known : Owed Claim). IfErr run.result (λ own. UnlessWrite own (IsOwed (λ claim. claim.survey) known own))) owed run.ensures.outcome.refused)
    (λ began. tt) caused

pub returns-clause-others : goal.returns-clause-others
returns-clause-others g c =
    let outs = lent c.in_ok-outs.outs.items c.run_check-answer.new.outs c.in_ok-outs.outs.len (omega (arith, c.as_mut_slice-2.ensures.len, c.run_check-answer.auto.outs)) in
    let run = c.run_check-answer in
    let unopened : c.source.new.self ≡ c.args.folder.now = c.source.ensures.same ∙ c.sources_of.ensures.same in
    let made : AreMade g.F.Out.Sink.state g.F.Folder.tells (g.F.Folder.failing c.args.folder.now).writing (spots_of [] checking.outputs) c.as_mut_slice-2.result.now =
    rw c.as_mut_slice-2.ensures.value (subst (λ folder. AreMade g.F.Out.Sink.state g.F.Folder.tells (g.F.Folder.failing folder).writing (spots_of [] checking.outputs) c.in_ok-outs.outs.items) unopened c.in_ok-outs.ensures.made) in
    let there = spots_after g.F.Out.Sink.state g.F.Folder.tells (g.F.Folder.failing c.args.folder.now).writing (spots_of [] checking.outputs) _ _ _ run.result _ _ run.ensures.outcome made (λ claim has. (judged _ has.1 (verdict_on claim), has.3)) in
    let same : c.sinks_of.new.folder ≡ c.args.folder.now = c.sinks_of.ensures.same ∙ c.source.ensures.same ∙ c.sources_of.ensures.same in
    λ spot none. c.close_sinks.ensures.others spot (subst (AllByRecursion (λ own. spot ≢ (g.F.Out.Sink.state own).spot)) (sym outs) (none_among g.F.Out.Sink.state _ (spots_of [] checking.outputs) spot there (none, tt))) ∙ ap (λ own. g.F.Folder.held own spot) same

pub returns-clause-untouched : goal.returns-clause-untouched
returns-clause-untouched g c =
    let outs = lent c.in_ok-outs.outs.items c.run_check-answer.new.outs c.in_ok-outs.outs.len (omega (arith, c.as_mut_slice-2.ensures.len, c.run_check-answer.auto.outs)) in
    let run = c.run_check-answer in
    let unopened : c.source.new.self ≡ c.args.folder.now = c.source.ensures.same ∙ c.sources_of.ensures.same in
    let made : AreMade g.F.Out.Sink.state g.F.Folder.tells (g.F.Folder.failing c.args.folder.now).writing (spots_of [] checking.outputs) c.as_mut_slice-2.result.now =
    rw c.as_mut_slice-2.ensures.value (subst (λ folder. AreMade g.F.Out.Sink.state g.F.Folder.tells (g.F.Folder.failing folder).writing (spots_of [] checking.outputs) c.in_ok-outs.outs.items) unopened c.in_ok-outs.ensures.made) in
    unless-all _ _ run.result
    (λ same. c.close_sinks.ensures.untouched (subst (AllByRecursion (λ own. IsUntouched (g.F.Out.Sink.state own))) (sym outs)
    (subst (AllByRecursion (λ own. IsUntouched (g.F.Out.Sink.state own))) (sym same) (made_untouched g.F.Out.Sink.state g.F.Folder.tells (g.F.Folder.failing c.args.folder.now).writing (spots_of [] checking.outputs) _ made)))
    ∙ c.sinks_of.ensures.same ∙ c.source.ensures.same ∙ c.sources_of.ensures.same)
    run.ensures.outcome.untouched
