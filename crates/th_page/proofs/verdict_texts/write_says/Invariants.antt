use Rattle.std.proofs.Common.{◌≡◌, ◌++◌, drop, map}
use Rattle.std.specs.List.{flat_map}
use Rattle.th_page.specs.Verdicts.{said_paragraph}
use Rattle.th_page.proofs.verdict_texts.write_says.Given as goal

abbrev pub invariant-loop-sentence : goal.invariant-loop-sentence
invariant-loop-sentence l = l.page ++ flat_map said_paragraph (map (λ line. line.now) (drop l.sentence-index l.says)) ≡ l.fn.page ++ flat_map said_paragraph (map (λ line. line.now) l.says)
