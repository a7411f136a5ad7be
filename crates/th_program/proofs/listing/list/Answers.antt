use Rattle.std.proofs.Common.{◌≡◌, ◌∙◌, [], ap, map, refl, subst, sym, arith, ◌≢◌}
use Rattle.std.specs.List.{AllByRecursion}
use Rattle.th_devices.specs.Folders.{spot_of_origin}
use Rattle.th_program.proofs.CauseLemmas.{book_caused, output_caused, run_caused}
use Rattle.th_program.proofs.ListLemmas.{cut-list, listed, refused-list}
use Rattle.th_files.proofs.OutputLemmas.{lent, made_ready, made_untouched, none_among, spots_after}
use Rattle.th_program.proofs.RefusalLemmas.{unless-all}
use Rattle.th_files.proofs.OpenedLemmas.{given-there}
use Rattle.th_files.specs.Opened.{AreApart, AreMade, IsTaken, IsUntouched}
use Rattle.th_files.specs.Outputs.{spots_of}
use Rattle.th_run_parts.specs.Inputs.{owed_for_book}
use Rattle.th_runs.specs.Listed.{listed as listed_texts, listing}
use Rattle.th_run_parts.specs.Reads.{refused}
use Rattle.th_inputs.specs.declared.inputs.Input.TheVariants as input
use Rattle.th_program.proofs.listing.list.Goals as goal

pub run_list_with_notes-answer-requires-clause-outs : goal.run_list_with_notes-answer-requires-clause-outs
run_list_with_notes-answer-requires-clause-outs g c =
    rw c.as_mut_slice.ensures.value (made_ready g.F.Out.Sink.state g.F.Folder.tells (g.F.Folder.failing c.source.new.self).writing [] listing _ c.in_ok-outs.ensures.made)

pub close_sinks-requires : goal.close_sinks-requires
close_sinks-requires g c =
    let run = c.run_list_with_notes-answer in
    let unopened : c.source.new.self ≡ c.args.folder.now = c.source.ensures.same in
    let made : AreMade g.F.Out.Sink.state g.F.Folder.tells (g.F.Folder.failing c.args.folder.now).writing (spots_of [] listing) c.as_mut_slice.result.now =
    rw c.as_mut_slice.ensures.value (subst (λ folder. AreMade g.F.Out.Sink.state g.F.Folder.tells (g.F.Folder.failing folder).writing (spots_of [] listing) c.in_ok-outs.outs.items) unopened c.in_ok-outs.ensures.made) in
    let outs = lent c.in_ok-outs.outs.items c.run_list_with_notes-answer.new.outs c.in_ok-outs.outs.len (omega (arith, c.as_mut_slice.ensures.len, c.run_list_with_notes-answer.auto.outs)) in
    subst (λ sinks. AreApart (map (λ own. (g.F.Out.Sink.state own).spot) sinks)) (sym outs)
    (subst AreApart (sym (spots_after g.F.Out.Sink.state g.F.Folder.tells (g.F.Folder.failing c.args.folder.now).writing (spots_of [] listing) _ _ _ run.result _ _ run.ensures.listed.outcome made (λ own has. (listed_texts own, has)))) (tt, tt))

pub returns-clause-listed : goal.returns-clause-listed
returns-clause-listed g c =
    let outs = lent c.in_ok-outs.outs.items c.run_list_with_notes-answer.new.outs c.in_ok-outs.outs.len (omega (arith, c.as_mut_slice.ensures.len, c.run_list_with_notes-answer.auto.outs)) in
    let run = c.run_list_with_notes-answer in
    let told = g.F.Folder.held c.args.folder.now in
    let owed = ap (owed_for_book 1) (given-there g.F.In.Source.state (g.F.Folder.failing c.args.folder.now).reading told (input.Book 1) (refused run.result) _ _ _ c.in_ok-book.ensures.opened run.ensures.listed.book.read.failed) in
    let unopened : c.source.new.self ≡ c.args.folder.now = c.source.ensures.same in
    let made : AreMade g.F.Out.Sink.state g.F.Folder.tells (g.F.Folder.failing c.args.folder.now).writing (spots_of [] listing) c.as_mut_slice.result.now =
    rw c.as_mut_slice.ensures.value (subst (λ folder. AreMade g.F.Out.Sink.state g.F.Folder.tells (g.F.Folder.failing folder).writing (spots_of [] listing) c.in_ok-outs.outs.items) unopened c.in_ok-outs.ensures.made) in
    let same : c.sinks_of.new.folder ≡ c.args.folder.now = c.sinks_of.ensures.same ∙ c.source.ensures.same in
    listed g.F.Folder.tells (g.F.Folder.failing c.args.folder.now).writing told (g.F.Folder.held c.close_sinks.new.folder) _ g.F.Out.Sink.state _ _ _ run.result owed made (subst (AllByRecursion (λ own. IsTaken told (g.F.Folder.held c.close_sinks.new.folder) (g.F.Out.Sink.state own))) outs (rw same at c.close_sinks.ensures.taken))
    run.ensures.listed.outcome.written

pub returns-clause-left : goal.returns-clause-left
returns-clause-left g c =
    let outs = lent c.in_ok-outs.outs.items c.run_list_with_notes-answer.new.outs c.in_ok-outs.outs.len (omega (arith, c.as_mut_slice.ensures.len, c.run_list_with_notes-answer.auto.outs)) in
    let run = c.run_list_with_notes-answer in
    let told = g.F.Folder.held c.args.folder.now in
    let owed = ap (owed_for_book 1) (given-there g.F.In.Source.state (g.F.Folder.failing c.args.folder.now).reading told (input.Book 1) (refused run.result) _ _ _ c.in_ok-book.ensures.opened run.ensures.listed.book.read.failed) in
    let unopened : c.source.new.self ≡ c.args.folder.now = c.source.ensures.same in
    let made : AreMade g.F.Out.Sink.state g.F.Folder.tells (g.F.Folder.failing c.args.folder.now).writing (spots_of [] listing) c.as_mut_slice.result.now =
    rw c.as_mut_slice.ensures.value (subst (λ folder. AreMade g.F.Out.Sink.state g.F.Folder.tells (g.F.Folder.failing folder).writing (spots_of [] listing) c.in_ok-outs.outs.items) unopened c.in_ok-outs.ensures.made) in
    let same : c.sinks_of.new.folder ≡ c.args.folder.now = c.sinks_of.ensures.same ∙ c.source.ensures.same in
    cut-list g.F.Folder.tells (g.F.Folder.failing c.args.folder.now).writing told (g.F.Folder.held c.close_sinks.new.folder) _ g.F.Out.Sink.state _ _ _ run.result owed made (subst (AllByRecursion (λ own. IsTaken told (g.F.Folder.held c.close_sinks.new.folder) (g.F.Out.Sink.state own))) outs (rw same at c.close_sinks.ensures.taken))
    run.ensures.listed.outcome.written

pub returns-clause-refused : goal.returns-clause-refused
returns-clause-refused g c =
    let run = c.run_list_with_notes-answer in
    let owed = ap (owed_for_book 1) (given-there g.F.In.Source.state (g.F.Folder.failing c.args.folder.now).reading (g.F.Folder.held c.args.folder.now) (input.Book 1) (refused run.result) _ _ _
    c.in_ok-book.ensures.opened run.ensures.listed.book.read.failed) in
    let failing = g.F.Folder.failing c.args.folder.now in
    let unopened : c.source.new.self ≡ c.args.folder.now = c.source.ensures.same in
    let made : AreMade g.F.Out.Sink.state g.F.Folder.tells (g.F.Folder.failing c.args.folder.now).writing (spots_of [] listing) c.as_mut_slice.result.now =
    rw c.as_mut_slice.ensures.value (subst (λ folder. AreMade g.F.Out.Sink.state g.F.Folder.tells (g.F.Folder.failing folder).writing (spots_of [] listing) c.in_ok-outs.outs.items) unopened c.in_ok-outs.ensures.made) in
    let caused = run_caused failing (λ which spot. spot ≡ spot_of_origin c.args.book) [] run.result
    (book_caused g.F.In.Source.state (g.F.Folder.failing c.args.folder.now).reading (g.F.Folder.held c.args.folder.now) (spot_of_origin c.args.book) run.result _ _ c.in_ok-book.ensures.opened
    run.ensures.listed.book run.ensures.listed.named)
    (output_caused g.F.Out.Sink.state g.F.Folder.tells (g.F.Folder.failing c.args.folder.now).writing [] listing run.result _ _ made
    (λ begun. let (observations, meets, has) = run.ensures.listed.outcome.written begun in (listed_texts observations, refl, has))) in
    refused-list failing (g.F.Folder.held c.args.folder.now) _ _ run.result owed run.ensures.listed.named run.ensures.listed.outcome.refused caused

pub returns-clause-others : goal.returns-clause-others
returns-clause-others g c =
    let outs = lent c.in_ok-outs.outs.items c.run_list_with_notes-answer.new.outs c.in_ok-outs.outs.len (omega (arith, c.as_mut_slice.ensures.len, c.run_list_with_notes-answer.auto.outs)) in
    let run = c.run_list_with_notes-answer in
    let unopened : c.source.new.self ≡ c.args.folder.now = c.source.ensures.same in
    let made : AreMade g.F.Out.Sink.state g.F.Folder.tells (g.F.Folder.failing c.args.folder.now).writing (spots_of [] listing) c.as_mut_slice.result.now =
    rw c.as_mut_slice.ensures.value (subst (λ folder. AreMade g.F.Out.Sink.state g.F.Folder.tells (g.F.Folder.failing folder).writing (spots_of [] listing) c.in_ok-outs.outs.items) unopened c.in_ok-outs.ensures.made) in
    let there = spots_after g.F.Out.Sink.state g.F.Folder.tells (g.F.Folder.failing c.args.folder.now).writing (spots_of [] listing) _ _ _ run.result _ _ run.ensures.listed.outcome made (λ own has. (listed_texts own, has)) in
    let same : c.sinks_of.new.folder ≡ c.args.folder.now = c.sinks_of.ensures.same ∙ c.source.ensures.same in
    λ spot none. c.close_sinks.ensures.others spot (subst (AllByRecursion (λ own. spot ≢ (g.F.Out.Sink.state own).spot)) (sym outs) (none_among g.F.Out.Sink.state _ (spots_of [] listing) spot there (none, tt))) ∙ ap (λ own. g.F.Folder.held own spot) same

pub returns-clause-untouched : goal.returns-clause-untouched
returns-clause-untouched g c =
    let outs = lent c.in_ok-outs.outs.items c.run_list_with_notes-answer.new.outs c.in_ok-outs.outs.len (omega (arith, c.as_mut_slice.ensures.len, c.run_list_with_notes-answer.auto.outs)) in
    let run = c.run_list_with_notes-answer in
    let unopened : c.source.new.self ≡ c.args.folder.now = c.source.ensures.same in
    let made : AreMade g.F.Out.Sink.state g.F.Folder.tells (g.F.Folder.failing c.args.folder.now).writing (spots_of [] listing) c.as_mut_slice.result.now =
    rw c.as_mut_slice.ensures.value (subst (λ folder. AreMade g.F.Out.Sink.state g.F.Folder.tells (g.F.Folder.failing folder).writing (spots_of [] listing) c.in_ok-outs.outs.items) unopened c.in_ok-outs.ensures.made) in
    unless-all _ _ run.result
    (λ same. c.close_sinks.ensures.untouched (subst (AllByRecursion (λ own. IsUntouched (g.F.Out.Sink.state own))) (sym outs)
    (subst (AllByRecursion (λ own. IsUntouched (g.F.Out.Sink.state own))) (sym same) (made_untouched g.F.Out.Sink.state g.F.Folder.tells (g.F.Folder.failing c.args.folder.now).writing (spots_of [] listing) _ made)))
    ∙ c.sinks_of.ensures.same ∙ c.source.ensures.same)
    run.ensures.listed.outcome.untouched

pub returns-clause-noted : goal.returns-clause-noted
returns-clause-noted g c = rw c.in_ok-book.ensures.opened.tells at c.run_list_with_notes-answer.ensures.noted
