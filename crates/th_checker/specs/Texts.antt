-- The texts of verdicts.
use Rattle.std.specs.Prelude.{List, ℕ, ◌++◌, codes}
use Rattle.std.specs.Fmt.{decimal}
use Rattle.th_checker.specs.declared.verdicts.Reason.{Reason}
use Rattle.th_checker.specs.declared.verdicts.Reason.TheVariants.{PointsDiffer, BenchmarkMoved, FlowCount, FlowTooLarge, Unbalanced, NotSlack, WrongCost, LowNotSlack, HighNotSlack}
use Rattle.th_checker.specs.declared.verdicts.Verdict.{Verdict}
use Rattle.th_checker.specs.declared.verdicts.Verdict.TheVariants.{Yes, No}

-- the text of a reason
abbrev pub reason_text : Reason → List ℕ
reason_text PointsDiffer = codes "points differ"
reason_text BenchmarkMoved = codes "benchmark moved"
reason_text FlowCount = codes "flow count"
reason_text (FlowTooLarge number) = codes "flow too large at " ++ decimal number
reason_text (Unbalanced name) = codes "unbalanced at " ++ name
reason_text (NotSlack number) = codes "not slack at " ++ decimal number
reason_text WrongCost = codes "wrong cost"
reason_text (LowNotSlack number) = codes "low not slack at " ++ decimal number
reason_text (HighNotSlack number) = codes "high not slack at " ++ decimal number

-- the text of a verdict
abbrev pub verdict_text : Verdict → List ℕ
verdict_text Yes = codes "yes"
verdict_text (No reason) = codes "no: " ++ reason_text reason
