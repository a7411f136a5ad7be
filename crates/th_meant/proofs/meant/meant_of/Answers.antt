use Rattle.std.proofs.Common.{◌≡◌, arith, w64, List, [], ℤ, ap, refl, subst, sym, ◌∙◌}
use mir.Val.{of_z, to_z}
use Rattle.std.proofs.lemmas.Int.{ints}
use Rattle.th_meant.specs.Inside.Nearest.{either_of, with_offers}
use Rattle.th_meant.specs.Meant.{AreNamed, named_of}
use Rattle.th_meant.specs.declared.nearest.Sought.{Sought}
use Rattle.th_meant.specs.declared.proposed.Proposed.{Proposed}
use Rattle.th_meant.specs.declared.typed.Typed.{Typed}
use Rattle.th_meant.proofs.NamedLemmas.{are_named}
use Rattle.th_meant.proofs.meant.meant_of.Goals as goal

pub returns : goal.returns
returns c =
    let typed : Typed = c.args.typed.now in
    let others : List ℤ = c.args.others.now in
    let proposed : Proposed = c.args.proposed.now in
    let own : Sought = record { proposed = proposed; given = to_z w64 (of_z w64 c.get.result) } in
    let given : own.given ≡ typed.given = omega (arith, ints) in
    let kept : c.offer_either.new.kept.items ≡ with_offers own [] (either_of typed others) =
    c.offer_either.ensures ∙ ap (λ kept. with_offers own kept (either_of typed others)) c.new-kept.ensures in
    record {
      named = subst (λ (named : List ℤ). AreNamed typed others proposed named) (sym c.named.ensures)
          (are_named typed others proposed own c.offer_either.new.kept.items refl given kept);
      computed = c.named.ensures ∙ ap named_of (kept ∙ ap (λ (given : ℤ). with_offers (record { proposed = proposed; given = given }) [] (either_of typed others)) given);
    }
