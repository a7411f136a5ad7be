use Rattle.std.proofs.Common.{ℤ, of_z, subst, sym, to_z, w64}
use Rattle.std.proofs.lemmas.Int.{to_z-of_z}
use Rattle.th_explain.specs.Mended.{AreLowestWith}
use Rattle.th_explain.specs.declared.mended.Mended.{Mended}
use Rattle.th_explain.proofs.PushLemmas.{pushed}
use Rattle.th_explain.proofs.mended.Mending.keep.Goals as goal

pub invariant_of-self : goal.invariant_of-self
invariant_of-self c =
    let survey = c.args.self.now.case.now.network.now in
    let number = c.args.number.now in
    let x : ℤ = to_z w64 (of_z w64 c.args.change) in
    let heights = c.in_ok-heights.heights in
    record {
      same = c.args.self.now.same;
      lowest = pushed (λ (own : Mended). AreLowestWith survey own.number own.change own.heights.items) c.args.self.now.kept.items c.push.new.self.items
          (record { number = number; change = x; heights = heights }) _ c.push.ensures.items c.args.self.now.lowest
          (subst (λ (change : ℤ). AreLowestWith survey number change heights.items) (sym (to_z-of_z w64 c.args.change c.ranges.change))
          (subst (AreLowestWith survey number c.args.change) (sym c.in_ok-heights.ensures.items) c.requires));
    }
