-- The outputs of runs, and how they are named.
use Rattle.std.specs.Prelude.{ℕ, List, Option, Some, None, codes}
use Rattle.th_run_parts.specs.declared.outputs.Output.{Output}
use Rattle.th_run_parts.specs.declared.outputs.Output.TheVariants as output

-- the text that names an output
abbrev pub output_text : Output → List ℕ
output_text output.List = codes "list"
output_text output.Heights = codes "heights"
output_text output.Certificate = codes "certificate"
output_text output.Report = codes "report"
output_text output.Gsi = codes "gsi"
output_text output.Verdict = codes "verdict"
output_text output.Points = codes "points"
output_text output.Observations = codes "observations"
output_text output.Entries = codes "entries"
output_text output.Benchmarks = codes "reviewed benchmarks"
output_text output.Review = codes "review"
output_text output.Explanations = codes "explanations"
output_text output.Book = codes "book"
output_text output.Page = codes "page"

-- how the name of an output's file ends, behind the prefix of its run; none for an output that goes to standard output
abbrev pub ending_of : Output → Option (List ℕ)
ending_of output.List = None
ending_of output.Heights = Some (codes ".heights.csv")
ending_of output.Certificate = Some (codes ".certificate.csv")
ending_of output.Report = Some (codes ".report.txt")
ending_of output.Gsi = Some (codes ".heights.gsi")
ending_of output.Verdict = None
ending_of output.Points = Some (codes ".points.csv")
ending_of output.Observations = Some (codes ".observations.csv")
ending_of output.Entries = Some (codes ".entries.csv")
ending_of output.Benchmarks = Some (codes ".benchmarks.csv")
ending_of output.Review = Some (codes ".review.txt")
ending_of output.Explanations = None
ending_of output.Book = None
ending_of output.Page = Some (codes ".html")
