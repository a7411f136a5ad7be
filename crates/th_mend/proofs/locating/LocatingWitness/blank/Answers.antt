use Rattle.std.proofs.Common.{◌≡◌, [], ap, arith, sym}
use Rattle.th_book.specs.Lines.{words_in}
use Rattle.th_book.specs.Places.{words_at}
use Rattle.th_mend.proofs.ForceLemmas.{forces_blank}
use Rattle.th_mend.proofs.LocatedLemmas.{seen_next}
use Rattle.th_mend.proofs.locating.LocatingWitness.blank.Goals as goal

pub returns : goal.returns
returns c = λ changes number parsed place is was.
    let blank : words_at parsed place ≡ [] = ap words_in is.blank in
    let forces = forces_blank parsed place c.args.self.now.forces blank was.forces in
    record {
      place = omega (arith, c.saturating_add-self.ensures, was.place, is.here.within, is.here.short);
      forces = forces;
      sought = seen_next parsed place changes c.args.self.now.forces [] c.args.self.now.place c.args.self.now.sought.items c.see_all.new.sought.items forces was.place (sym blank) was.sought c.see_all.ensures;
    }
