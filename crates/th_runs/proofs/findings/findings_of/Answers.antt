use Rattle.std.proofs.lemmas.Slice.Zip.{AllZip-long}
use Rattle.th_runs.proofs.findings.findings_of.Goals as goal

pub invariant_of-result-clause-each_effect : goal.invariant_of-result-clause-each_effect
invariant_of-result-clause-each_effect g c = AllZip-long _ _ _ c.in_ok-effects.ensures

pub invariant_of-result-clause-each_benchmark : goal.invariant_of-result-clause-each_benchmark
invariant_of-result-clause-each_benchmark g c = AllZip-long _ _ _ c.in_ok-benchmarks.ensures
