use Rattle.std.proofs.Common.{◌≡◌, map, of_z, refl, rules, to_z, w64}
use Rattle.th_commands.specs.Plans.{files}
use Rattle.th_files.proofs.OutputLemmas.{all_apart, all_files}
use Rattle.th_files.specs.Owed.{all_names}
use Rattle.th_run_parts.specs.Outputs.{ending_of}
use Rattle.th_runs.specs.Paged.{paging}
use Rattle.th_program.proofs.surveying.page.Goals as goal

pub write_files-requires-clause-files : goal.write_files-requires-clause-files
write_files-requires-clause-files g c = all_files c.args.prefix.now (map ending_of paging.outputs) refl

pub write_files-requires-clause-apart : goal.write_files-requires-clause-apart
write_files-requires-clause-apart g c = all_apart c.args.prefix.now (map ending_of paging.outputs) refl

pub returns-clause-paged : goal.returns-clause-paged
returns-clause-paged g c =
    let limit : to_z w64 (of_z w64 c.get.result) ≡ c.args.limit = search rules in
    let names : map (λ name. name.now) c.as_slice.result.now ≡ all_names (files c.args.inputs.now) = search rules in
    rw (limit, names) at c.write_files.ensures.written.printed

pub returns-clause-refused : goal.returns-clause-refused
returns-clause-refused g c =
    let limit : to_z w64 (of_z w64 c.get.result) ≡ c.args.limit = search rules in
    let names : map (λ name. name.now) c.as_slice.result.now ≡ all_names (files c.args.inputs.now) = search rules in
    rw (limit, names) at c.write_files.ensures.written.refused

pub returns-clause-untouched : goal.returns-clause-untouched
returns-clause-untouched g c = c.write_files.ensures.written.untouched

pub returns-clause-others : goal.returns-clause-others
returns-clause-others g c = c.write_files.ensures.written.others
