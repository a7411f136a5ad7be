use Rattle.std.proofs.Common.{◌≡◌, ◌∙◌, [], ap, map, refl, subst, sym, arith, ◌≢◌}
use Rattle.std.specs.List.{AllByRecursion}
use Rattle.th_devices.specs.Spots.{file}
use Rattle.th_program.proofs.CauseLemmas.{input_caused, output_caused, run_caused}
use Rattle.th_program.proofs.BookLemmas.{booked, cut-book, refused-book}
use Rattle.th_files.proofs.OutputLemmas.{lent, made_ready, made_untouched, none_among, spots_after}
use Rattle.th_program.proofs.RefusalLemmas.{unless-all}
use Rattle.th_files.proofs.OpenedLemmas.{given-there}
use Rattle.th_files.specs.Opened.{AreApart, AreMade, IsTaken, IsUntouched}
use Rattle.th_files.specs.Outputs.{spots_of}
use Rattle.th_files.specs.Owed.{converted_owed}
use Rattle.th_run_parts.specs.Booked.{IsOfBooking, booked as booked_texts, booking, converted, input_of}
use Rattle.th_run_parts.specs.Reads.{refused}
use Rattle.th_program.proofs.booking.make_book.Goals as goal

pub run_book-answer-requires-clause-outs : goal.run_book-answer-requires-clause-outs
run_book-answer-requires-clause-outs g c =
    rw c.as_mut_slice.ensures.value (made_ready g.F.Out.Sink.state g.F.Folder.tells (g.F.Folder.failing c.source.new.self).writing [] booking _ c.in_ok-outs.ensures.made)

pub close_sinks-requires : goal.close_sinks-requires
close_sinks-requires g c =
    let run = c.run_book-answer in
    let unopened : c.source.new.self ≡ c.args.folder.now = c.source.ensures.same in
    let made : AreMade g.F.Out.Sink.state g.F.Folder.tells (g.F.Folder.failing c.args.folder.now).writing (spots_of [] booking) c.as_mut_slice.result.now =
    rw c.as_mut_slice.ensures.value (subst (λ folder. AreMade g.F.Out.Sink.state g.F.Folder.tells (g.F.Folder.failing folder).writing (spots_of [] booking) c.in_ok-outs.outs.items) unopened c.in_ok-outs.ensures.made) in
    let outs = lent c.in_ok-outs.outs.items c.run_book-answer.new.outs c.in_ok-outs.outs.len (omega (arith, c.as_mut_slice.ensures.len, c.run_book-answer.auto.outs)) in
    subst (λ sinks. AreApart (map (λ own. (g.F.Out.Sink.state own).spot) sinks)) (sym outs)
    (subst AreApart (sym (spots_after g.F.Out.Sink.state g.F.Folder.tells (g.F.Folder.failing c.args.folder.now).writing (spots_of [] booking) _ _ _ run.result _ _ run.ensures.outcome made (λ own has. (booked_texts own, has)))) (tt, tt))

pub returns-clause-booked : goal.returns-clause-booked
returns-clause-booked g c =
    let outs = lent c.in_ok-outs.outs.items c.run_book-answer.new.outs c.in_ok-outs.outs.len (omega (arith, c.as_mut_slice.ensures.len, c.run_book-answer.auto.outs)) in
    let run = c.run_book-answer in
    let told = g.F.Folder.held c.args.folder.now in
    let owed = ap (converted c.args.conversion) (given-there g.F.In.Source.state (g.F.Folder.failing c.args.folder.now).reading told (input_of c.args.conversion) (refused run.result) _ _ _ c.in_ok-source.ensures.opened run.ensures.source.read.failed) in
    let unopened : c.source.new.self ≡ c.args.folder.now = c.source.ensures.same in
    let made : AreMade g.F.Out.Sink.state g.F.Folder.tells (g.F.Folder.failing c.args.folder.now).writing (spots_of [] booking) c.as_mut_slice.result.now =
    rw c.as_mut_slice.ensures.value (subst (λ folder. AreMade g.F.Out.Sink.state g.F.Folder.tells (g.F.Folder.failing folder).writing (spots_of [] booking) c.in_ok-outs.outs.items) unopened c.in_ok-outs.ensures.made) in
    let same : c.sinks_of.new.folder ≡ c.args.folder.now = c.sinks_of.ensures.same ∙ c.source.ensures.same in
    booked g.F.Folder.tells (g.F.Folder.failing c.args.folder.now).writing told (g.F.Folder.held c.close_sinks.new.folder) (λ answer. converted_owed told answer c.args.conversion c.args.name.now) g.F.Out.Sink.state _ _ _ run.result owed made (subst (AllByRecursion (λ own. IsTaken told (g.F.Folder.held c.close_sinks.new.folder) (g.F.Out.Sink.state own))) outs (rw same at c.close_sinks.ensures.taken))
    run.ensures.outcome.written

pub returns-clause-left : goal.returns-clause-left
returns-clause-left g c =
    let outs = lent c.in_ok-outs.outs.items c.run_book-answer.new.outs c.in_ok-outs.outs.len (omega (arith, c.as_mut_slice.ensures.len, c.run_book-answer.auto.outs)) in
    let run = c.run_book-answer in
    let told = g.F.Folder.held c.args.folder.now in
    let owed = ap (converted c.args.conversion) (given-there g.F.In.Source.state (g.F.Folder.failing c.args.folder.now).reading told (input_of c.args.conversion) (refused run.result) _ _ _ c.in_ok-source.ensures.opened run.ensures.source.read.failed) in
    let unopened : c.source.new.self ≡ c.args.folder.now = c.source.ensures.same in
    let made : AreMade g.F.Out.Sink.state g.F.Folder.tells (g.F.Folder.failing c.args.folder.now).writing (spots_of [] booking) c.as_mut_slice.result.now =
    rw c.as_mut_slice.ensures.value (subst (λ folder. AreMade g.F.Out.Sink.state g.F.Folder.tells (g.F.Folder.failing folder).writing (spots_of [] booking) c.in_ok-outs.outs.items) unopened c.in_ok-outs.ensures.made) in
    let same : c.sinks_of.new.folder ≡ c.args.folder.now = c.sinks_of.ensures.same ∙ c.source.ensures.same in
    cut-book g.F.Folder.tells (g.F.Folder.failing c.args.folder.now).writing told (g.F.Folder.held c.close_sinks.new.folder) (λ answer. converted_owed told answer c.args.conversion c.args.name.now) g.F.Out.Sink.state _ _ _ run.result owed made (subst (AllByRecursion (λ own. IsTaken told (g.F.Folder.held c.close_sinks.new.folder) (g.F.Out.Sink.state own))) outs (rw same at c.close_sinks.ensures.taken))
    run.ensures.outcome.written

pub returns-clause-refused : goal.returns-clause-refused
returns-clause-refused g c =
    let run = c.run_book-answer in
    let owed = ap (converted c.args.conversion) (given-there g.F.In.Source.state (g.F.Folder.failing c.args.folder.now).reading (g.F.Folder.held c.args.folder.now) (input_of c.args.conversion) (refused run.result) _ _ _
    c.in_ok-source.ensures.opened run.ensures.source.read.failed) in
    let failing = g.F.Folder.failing c.args.folder.now in
    let unopened : c.source.new.self ≡ c.args.folder.now = c.source.ensures.same in
    let made : AreMade g.F.Out.Sink.state g.F.Folder.tells (g.F.Folder.failing c.args.folder.now).writing (spots_of [] booking) c.as_mut_slice.result.now =
    rw c.as_mut_slice.ensures.value (subst (λ folder. AreMade g.F.Out.Sink.state g.F.Folder.tells (g.F.Folder.failing folder).writing (spots_of [] booking) c.in_ok-outs.outs.items) unopened c.in_ok-outs.ensures.made) in
    let caused = run_caused failing (λ which spot. spot ≡ file c.args.name.now) [] run.result
    (input_caused g.F.In.Source.state (g.F.Folder.failing c.args.folder.now).reading (g.F.Folder.held c.args.folder.now) c.args.conversion (file c.args.name.now) run.result _ _ c.in_ok-source.ensures.opened
    run.ensures.source run.ensures.named)
    (output_caused g.F.Out.Sink.state g.F.Folder.tells (g.F.Folder.failing c.args.folder.now).writing [] booking run.result _ _ made
    (λ begun. let (book, meets, has) = run.ensures.outcome.written begun in (booked_texts book, refl, has))) in
    refused-book (IsOfBooking c.args.conversion) (λ answer. converted_owed (g.F.Folder.held c.args.folder.now) answer c.args.conversion c.args.name.now) failing (λ which spot. spot ≡ file c.args.name.now) _ run.result owed run.ensures.named run.ensures.outcome.refused caused

pub returns-clause-others : goal.returns-clause-others
returns-clause-others g c =
    let outs = lent c.in_ok-outs.outs.items c.run_book-answer.new.outs c.in_ok-outs.outs.len (omega (arith, c.as_mut_slice.ensures.len, c.run_book-answer.auto.outs)) in
    let run = c.run_book-answer in
    let unopened : c.source.new.self ≡ c.args.folder.now = c.source.ensures.same in
    let made : AreMade g.F.Out.Sink.state g.F.Folder.tells (g.F.Folder.failing c.args.folder.now).writing (spots_of [] booking) c.as_mut_slice.result.now =
    rw c.as_mut_slice.ensures.value (subst (λ folder. AreMade g.F.Out.Sink.state g.F.Folder.tells (g.F.Folder.failing folder).writing (spots_of [] booking) c.in_ok-outs.outs.items) unopened c.in_ok-outs.ensures.made) in
    let there = spots_after g.F.Out.Sink.state g.F.Folder.tells (g.F.Folder.failing c.args.folder.now).writing (spots_of [] booking) _ _ _ run.result _ _ run.ensures.outcome made (λ own has. (booked_texts own, has)) in
    let same : c.sinks_of.new.folder ≡ c.args.folder.now = c.sinks_of.ensures.same ∙ c.source.ensures.same in
    λ spot none. c.close_sinks.ensures.others spot (subst (AllByRecursion (λ own. spot ≢ (g.F.Out.Sink.state own).spot)) (sym outs) (none_among g.F.Out.Sink.state _ (spots_of [] booking) spot there (none, tt))) ∙ ap (λ own. g.F.Folder.held own spot) same

pub returns-clause-untouched : goal.returns-clause-untouched
returns-clause-untouched g c =
    let outs = lent c.in_ok-outs.outs.items c.run_book-answer.new.outs c.in_ok-outs.outs.len (omega (arith, c.as_mut_slice.ensures.len, c.run_book-answer.auto.outs)) in
    let run = c.run_book-answer in
    let unopened : c.source.new.self ≡ c.args.folder.now = c.source.ensures.same in
    let made : AreMade g.F.Out.Sink.state g.F.Folder.tells (g.F.Folder.failing c.args.folder.now).writing (spots_of [] booking) c.as_mut_slice.result.now =
    rw c.as_mut_slice.ensures.value (subst (λ folder. AreMade g.F.Out.Sink.state g.F.Folder.tells (g.F.Folder.failing folder).writing (spots_of [] booking) c.in_ok-outs.outs.items) unopened c.in_ok-outs.ensures.made) in
    unless-all _ _ run.result
    (λ same. c.close_sinks.ensures.untouched (subst (AllByRecursion (λ own. IsUntouched (g.F.Out.Sink.state own))) (sym outs)
    (subst (AllByRecursion (λ own. IsUntouched (g.F.Out.Sink.state own))) (sym same) (made_untouched g.F.Out.Sink.state g.F.Folder.tells (g.F.Folder.failing c.args.folder.now).writing (spots_of [] booking) _ made)))
    ∙ c.sinks_of.ensures.same ∙ c.source.ensures.same)
    run.ensures.outcome.untouched
