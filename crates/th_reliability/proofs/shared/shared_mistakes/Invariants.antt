use Rattle.std.proofs.Common.{take}
use Rattle.std.specs.List.{AllZip}
use Rattle.std.specs.Prelude.{IfSome}
use Rattle.th_reliability.specs.Effects.{IsEffect}
use Rattle.th_reliability.specs.Sights.{in_sights}
use Rattle.th_reliability.proofs.shared.shared_mistakes.Given as goal

abbrev pub invariant-loop-entry : goal.invariant-loop-entry
invariant-loop-entry g l = record {
  found : AllZip (λ entry effect. IsEffect l.network (in_sights entry) effect) (take l.entry-index l.entries) l.effects.items;
  known : IfSome l.before (λ own. IsEffect l.network (in_sights own.0) own.1);
}
