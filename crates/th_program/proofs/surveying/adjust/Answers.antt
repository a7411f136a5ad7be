use Rattle.std.proofs.Common.{◌≡◌, map, of_z, refl, rules, to_z, w64}
use Rattle.th_commands.specs.Plans.{files}
use Rattle.th_files.proofs.OutputLemmas.{all_apart, all_files}
use Rattle.th_program.proofs.NoteLemmas.{few_noted, noted_files}
use Rattle.th_run_parts.specs.Outputs.{ending_of}
use Rattle.th_runs.specs.Adjusted.{adjusting}
use Rattle.th_program.proofs.surveying.adjust.Goals as goal

pub write_files-requires-clause-files : goal.write_files-requires-clause-files
write_files-requires-clause-files g c = all_files c.args.prefix.now (map ending_of adjusting.outputs) refl

pub write_files-requires-clause-apart : goal.write_files-requires-clause-apart
write_files-requires-clause-apart g c = all_apart c.args.prefix.now (map ending_of adjusting.outputs) refl

pub returns-clause-adjusted : goal.returns-clause-adjusted
returns-clause-adjusted g c =
    let limit : to_z w64 (of_z w64 c.get.result) ≡ c.args.limit = search rules in
    rw limit at c.write_files.ensures.written.printed

pub returns-clause-refused : goal.returns-clause-refused
returns-clause-refused g c =
    let limit : to_z w64 (of_z w64 c.get.result) ≡ c.args.limit = search rules in
    rw limit at c.write_files.ensures.written.refused

pub returns-clause-untouched : goal.returns-clause-untouched
returns-clause-untouched g c = c.write_files.ensures.written.untouched

pub returns-clause-others : goal.returns-clause-others
returns-clause-others g c = c.write_files.ensures.written.others

pub returns-clause-noted : goal.returns-clause-noted
returns-clause-noted g c =
    let limit : to_z w64 (of_z w64 c.get.result) ≡ c.args.limit = search rules in
    noted_files (g.F.Folder.held c.args.folder.now) (files c.args.inputs.now) c.args.limit c.write_files.new.reader c.write_files.result (rw limit at c.write_files.ensures.noted)

pub returns-clause-few : goal.returns-clause-few
returns-clause-few g c =
    few_noted (g.F.Folder.held c.args.folder.now) (files c.args.inputs.now) _ c.write_files.new.reader c.write_files.result c.write_files.ensures.few c.write_files.ensures.noted
