use Rattle.std.proofs.Common.{◌∙◌, ap, arith, map}
use Rattle.gsi_word.specs.Words.{parts_of}
use Rattle.th_mend.specs.Inside.Forces.{forces_with}
use Rattle.th_mend.proofs.ForceLemmas.{forces_next, says_at}
use Rattle.th_mend.proofs.LocatedLemmas.{seen_next}
use Rattle.th_mend.proofs.locating.LocatingWitness.block.Goals as goal

pub returns : goal.returns
returns c = λ changes number parsed place is was.
    let words = map parts_of c.args.words.now in
    let forces = forces_next parsed place c.args.running.now c.args.entered.now words c.args.self.now.forces c.after-self.result c.faultless_book_is_sound.ensures is was.forces
    (c.after-self.ensures ∙ ap (λ own. forces_with c.args.running.now c.args.entered.now own c.args.self.now.forces) was.place) in
    record {
      place = omega (arith, c.saturating_add-self.ensures, was.place, is.here.within, is.here.short);
      forces = forces;
      sought = seen_next parsed place changes c.after-self.result words c.args.self.now.place c.args.self.now.sought.items c.see_all.new.sought.items forces was.place
          (says_at parsed place c.args.running.now c.args.entered.now words is) was.sought c.see_all.ensures;
    }
