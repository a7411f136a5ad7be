use Rattle.std.proofs.Common.{◌≡◌, ◌<◌, List, ℕ, Some, slice_get, unsigned_abs, w64, subst, sym, ap, ◌∙◌, arith}
use Rattle.std.proofs.lemmas.Cmp.{nat_list_eq_equiv}
use Rattle.std.proofs.lemmas.Int.{fits_signed_from_abs, to_z-of_z}
use Rattle.std.proofs.lemmas.Map.Entries.{lookup_from_place}
use Rattle.std.proofs.lemmas.Slice.Eq.{bytes_eq-Decides}
use Rattle.th_network.specs.Limits.{height_limit}
use Rattle.th_checker.proofs.MapLemmas.{row_small}
use Rattle.th_checker.proofs.maps.height_near.Goals as goal

pub returns-in-Some-clause-value : goal.returns-in-Some-clause-value
returns-in-Some-clause-value c =
    let stated = c.args.stated.now in
    let name = c.args.name.now in
    let there = c.in-Some.there in
    let height = c.in-Some.height in
    let found : slice_get stated c.args.place ≡ Some (there, height) = sym c.in-Some.ensures.value in
    let small = row_small stated c.args.place (there, height) c.in-Some.ensures.rows found in
    let same : there ≡ name = (bytes_eq-Decides there name).0 (sym c.eq.ensures ∙ c.if-eq.true) in
    let at : slice_get stated c.args.place ≡ Some (name, height) = found ∙ ap (λ (n : List ℕ). Some (n, height)) same in
    ap Some (to_z-of_z w64 height (fits_signed_from_abs w64 height (omega (arith, small))))
    ∙ sym (lookup_from_place nat_list_eq_equiv stated c.args.place name height c.in-Some.ensures.rows.distinct at)

pub returns-in-Some-clause-in_range : goal.returns-in-Some-clause-in_range
returns-in-Some-clause-in_range c =
    let height = c.in-Some.height in
    let small = row_small c.args.stated.now c.args.place (c.in-Some.there, height) c.in-Some.ensures.rows (sym c.in-Some.ensures.value) in
    let plain = to_z-of_z w64 height (fits_signed_from_abs w64 height (omega (arith, small))) in
    subst (λ z. unsigned_abs z < height_limit) (sym plain) small
