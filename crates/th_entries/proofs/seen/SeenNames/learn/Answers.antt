use Rattle.std.proofs.Common.{◌≡◌, Bool, not, true, false, Some, refl, sym, ap, ◌∙◌}
use Rattle.std.specs.Option.{option_copied}
use Rattle.std.specs.Prelude.{bytes_eq}
use Rattle.std.proofs.lemmas.Map.Text.{is_eq-slice_cmp}
use Rattle.th_entries.specs.declared.seen.Spelled.TheVariants.{Alike}
use Rattle.th_entries.specs.Spellings.{without_zeros}
use Rattle.th_entries.proofs.SeenLemmas.{first-seen, seen-alike, seen-differing, seen-otherwise}
use Rattle.th_entries.proofs.seen.SeenNames.learn.Goals as goal

turned : (test is : Bool) → not test ≡ not is → test ≡ is
turned true true e = refl
turned true false e = cc
turned false true e = cc
turned false false e = refl

pub returns-in_ok-insert-in-None-clause-known : goal.returns-in_ok-insert-in-None-clause-known
returns-in_ok-insert-in-None-clause-known c = λ before own.
    let updates = c.in_ok-insert-in-None.ensures.updates in
    first-seen before _ c.args.self.now _ own (sym c.get.ensures.value ∙ ap option_copied c.in-None.is) refl (λ name other. updates.2 name (is_eq-slice_cmp _ name ∙ other)) (updates.1 ∙ ap (λ spelled. Some (Alike spelled)) c.data_of.ensures)

pub returns-in-Some-Otherwise-clause-known : goal.returns-in-Some-Otherwise-clause-known
returns-in-Some-Otherwise-clause-known c = λ before own.
    seen-otherwise before _ c.args.self.now own (sym c.get.ensures.value ∙ ap option_copied c.in-Some-Otherwise.is ∙ ap Some c.in-Some-Otherwise.field-0-is)

pub returns-in_ok-insert-in-Some-Alike-clause-known : goal.returns-in_ok-insert-in-Some-Alike-clause-known
returns-in_ok-insert-in-Some-Alike-clause-known c = λ before own.
    let updates = c.in_ok-insert-in-Some-Alike.ensures.updates in
    let known = sym c.get.ensures.value ∙ ap option_copied c.in-Some-Alike.is ∙ ap Some c.in-Some-Alike.field-0-is in
    let differ = ap (λ own. bytes_eq own (without_zeros c.args.word.now.body.now)) (sym c.as_slice.ensures.value) ∙ ap (bytes_eq c.as_slice.result.now) (sym (c.without_zeros.ensures.value ∙ ap without_zeros c.body.ensures)) ∙ turned _ false (sym c.ne.ensures ∙ c.if-ne.true) in
    seen-differing before _ c.args.self.now _ c.in-Some-Alike.data.items own known differ c.in_ok-push-in-Some-Alike.ensures (λ name other. updates.2 name (is_eq-slice_cmp _ name ∙ other)) updates.1

pub returns-else-ne-clause-known : goal.returns-else-ne-clause-known
returns-else-ne-clause-known c = λ before own.
    let known = sym c.get.ensures.value ∙ ap option_copied c.in-Some-Alike.is ∙ ap Some c.in-Some-Alike.field-0-is in
    let same = ap (λ own. bytes_eq own (without_zeros c.args.word.now.body.now)) (sym c.as_slice.ensures.value) ∙ ap (bytes_eq c.as_slice.result.now) (sym (c.without_zeros.ensures.value ∙ ap without_zeros c.body.ensures)) ∙ turned _ true (sym c.ne.ensures ∙ c.if-ne.false) in
    seen-alike before _ c.args.self.now c.in-Some-Alike.data.items own known same
