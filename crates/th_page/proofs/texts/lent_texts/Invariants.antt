use Rattle.std.proofs.Common.{◌≡◌, ◌++◌, drop, map}
use Rattle.th_page.proofs.texts.lent_texts.Given as goal

abbrev pub invariant-loop-text : goal.invariant-loop-text
invariant-loop-text l = map (λ text. text.now) l.lent.items ++ map (λ text. text.items) (drop l.text-index l.texts) ≡ map (λ text. text.items) l.texts
