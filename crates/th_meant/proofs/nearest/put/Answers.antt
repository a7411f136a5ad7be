use Rattle.std.proofs.Common.{arith, ap, sym, eqb-true, ◌∙◌, ◌≡◌, length}
use Rattle.std.proofs.lemmas.Bool.{eqb-false}
use Rattle.std.proofs.lemmas.Int.{ints}
use Rattle.th_meant.proofs.PlainLemmas.{put_last, put_more}
use Rattle.th_meant.proofs.nearest.put.Goals as goal
use Rattle.th_meant.proofs.nearest.put.Goals.{then-is_full+else-place-eq-MAX_KEPT, else-is_full}

pub returns : goal.returns
returns c = elim c.if-is_full.branch [
  | then-is_full+else-place-eq-MAX_KEPT w ↦
      let many : length c.args.kept.now.items ≡ 4 = eqb-true (length c.args.kept.now.items) 4 (sym c.is_full.ensures.value ∙ w.if-is_full.true) in
      put_last c.args.kept.now.items _ c.if-is_full.kept.items c.insert.new.self.items c.args.place c.args.height _ c.insert.ensures.items (ap (λ own. own.items) w.kept-is) w.pop.ensures.rest many (omega (arith, many)) (omega (arith, ints))
  | else-is_full w ↦
      let few = eqb-false (length c.args.kept.now.items) 4 (sym c.is_full.ensures.value ∙ w.if-is_full.false) in
      put_more c.args.kept.now.items c.if-is_full.kept.items c.insert.new.self.items c.args.place c.args.height _ c.insert.ensures.items (ap (λ own. own.items) w.kept-is) c.requires (omega (arith, few, c.is_full.ensures.fits)) (omega (arith, ints))
]
