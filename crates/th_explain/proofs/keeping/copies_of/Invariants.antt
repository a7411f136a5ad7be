use Rattle.std.proofs.Common.{◌≡◌, All}
use Rattle.th_explain.proofs.keeping.copies_of.Given as goal

abbrev pub invariant-loop : goal.invariant-loop
invariant-loop l = All (λ own. own.case.now ≡ l.case) l.copies.items
